pub mod Checking
pub mod Filling
pub mod Numbered
pub mod Outcomes
pub mod Naming
pub mod Means
pub mod Working
