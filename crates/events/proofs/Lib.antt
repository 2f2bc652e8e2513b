pub mod NoAtoms
