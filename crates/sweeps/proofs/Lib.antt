pub mod Letters
pub mod Jumping
pub mod Steady
pub mod Walking
