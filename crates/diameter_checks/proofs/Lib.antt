pub mod Asked
pub mod Orders
pub mod Stepping
