pub mod Loops
pub mod Containing
