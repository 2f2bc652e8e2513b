pub mod NoAtoms
pub mod Tabling
