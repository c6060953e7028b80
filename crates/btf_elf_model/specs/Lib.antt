pub mod Header
pub mod Section
pub mod Symbols
pub mod Object
pub mod Replaced
pub mod Laws
pub mod Examples
