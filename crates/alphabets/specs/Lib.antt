pub mod Kinds
pub mod Laws
