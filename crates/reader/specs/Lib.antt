pub mod Reading
pub mod Means
pub mod Worked
