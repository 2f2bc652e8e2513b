pub mod Orders
pub mod Filling
pub mod Asking
pub mod Layering
