pub mod Encoding
pub mod Writing
pub mod Outputs
pub mod Messages
pub mod Written
pub mod Measures
