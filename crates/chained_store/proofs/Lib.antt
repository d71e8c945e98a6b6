pub mod Relinking
pub mod Buckets
pub mod Following
