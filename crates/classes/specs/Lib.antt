pub mod Bytes
pub mod FirstMet
pub mod Found
pub mod Meeting
pub mod Rising
