pub mod Order
pub mod Questions
pub mod Steps
