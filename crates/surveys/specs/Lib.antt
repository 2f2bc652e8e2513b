pub mod Padding
pub mod Entries
pub mod Looking
pub mod Lexemes
pub mod Surveying
