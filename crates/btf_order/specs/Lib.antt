pub mod Shape
pub mod Frame
pub mod Uses
pub mod Progress
pub mod Run
pub mod Errors
