pub mod Whole
pub mod Joining
pub mod Staying
pub mod Hinting
pub mod Comparing
pub mod Alone
