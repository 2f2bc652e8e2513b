pub mod Answers
pub mod Bits
pub mod Numbers
pub mod Reading
