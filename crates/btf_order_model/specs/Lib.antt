pub mod Order
pub mod Uses
pub mod Loops
pub mod Laws
pub mod Examples
