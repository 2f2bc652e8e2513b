pub mod Passing
pub mod Going
pub mod Standing
