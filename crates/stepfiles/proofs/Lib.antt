pub mod Finding
pub mod Searching
pub mod Headers
pub mod Codes
pub mod Scanning
pub mod Passes
pub mod Checked
pub mod Promises
