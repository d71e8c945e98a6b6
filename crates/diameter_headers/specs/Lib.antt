pub mod Octets
pub mod Headers
pub mod Framing
