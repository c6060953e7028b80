pub mod Members
pub mod Knowing
pub mod Frames
pub mod Sets
pub mod Stacks
pub mod Runs
pub mod Answering
