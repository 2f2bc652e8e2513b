pub mod Classing
pub mod Making
pub mod Ranges
