pub mod Writes
pub mod Measuring
pub mod Putting
pub mod Trips
pub mod Wholes
