pub mod Lookups
pub mod Changes
pub mod Numbered
pub mod Counts
