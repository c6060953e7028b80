pub mod Split
pub mod Hint
pub mod Laws
pub mod Examples
