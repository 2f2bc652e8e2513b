pub mod Cutting
pub mod Counting
pub mod Steps
pub mod Sound
pub mod Beginning
pub mod Complete
pub mod OneTree
mod Examples
pub mod Asking
pub mod Scanning
pub mod Stopping
pub mod Faults
pub mod Filling
pub mod FirstWrong
