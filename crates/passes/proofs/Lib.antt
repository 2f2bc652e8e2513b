pub mod Signs
pub mod Standings
pub mod Leaves
pub mod Turning
pub mod Depths
pub mod Cycles
pub mod Passages
pub mod Exits
