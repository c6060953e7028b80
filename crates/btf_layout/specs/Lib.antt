pub mod Shape
pub mod Progress
pub mod Frame
pub mod Alignments
