pub mod Maps
pub mod Functions
pub mod Numbering
pub mod Reading
pub mod Rows
pub mod Places
