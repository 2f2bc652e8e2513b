pub mod Again
pub mod Meeting
pub mod Samples
