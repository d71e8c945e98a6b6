pub mod Hashing
pub mod Keys
pub mod Laws
