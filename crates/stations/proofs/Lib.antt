pub mod Pigeonhole
pub mod Undoing
pub mod Filling
pub mod Meaning
