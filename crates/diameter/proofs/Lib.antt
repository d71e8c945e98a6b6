pub mod Tellings
pub mod Levels
pub mod Steps
pub mod Shows
pub mod Going
