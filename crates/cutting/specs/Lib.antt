pub mod Answers
pub mod Bits
pub mod Cutting
pub mod Hexadecimal
pub mod Reading
pub mod Tests
