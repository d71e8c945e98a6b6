pub mod Spelling
pub mod Order
