pub mod Rules
pub mod Tables
pub mod Marks
pub mod Theorems
