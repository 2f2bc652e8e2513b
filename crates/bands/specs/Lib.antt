pub mod Fields
pub mod Bands
