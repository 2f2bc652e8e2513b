pub mod Cutting
pub mod Digits
pub mod Escaping
pub mod Feeds
pub mod Listing
pub mod Sampling
pub mod Spelling
