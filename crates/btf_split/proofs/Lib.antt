pub mod Blobs
pub mod Joined
pub mod Parts
pub mod Hints
