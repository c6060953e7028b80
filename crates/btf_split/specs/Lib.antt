pub mod Blob
pub mod Hint
