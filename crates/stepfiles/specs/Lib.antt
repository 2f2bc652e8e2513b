pub mod Layout
pub mod Coding
pub mod Opening
pub mod Proper
pub mod Views
