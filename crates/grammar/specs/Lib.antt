pub mod Tokens
pub mod Lexing
pub mod Sighting
pub mod Atoms
pub mod Grammar
pub mod Parsing
pub mod Theorems
pub mod FirstWrong
