pub mod Finding
pub mod Values
