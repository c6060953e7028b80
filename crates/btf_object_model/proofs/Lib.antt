pub mod Appended
pub mod Exts
pub mod Opened
pub mod Kept
pub mod Unique
pub mod Configured
