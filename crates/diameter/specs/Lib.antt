pub mod Values
pub mod Listing
pub mod Reading
pub mod Visiting
