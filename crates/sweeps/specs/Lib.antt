pub mod Letters
pub mod Classes
pub mod Changes
pub mod Walking
