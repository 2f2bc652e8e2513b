pub mod Padding
pub mod Known
pub mod Advancing
pub mod Spelling
pub mod Scanning
