pub mod Alignment
pub mod Laws
pub mod Examples
