pub mod InTurn
pub mod CodeStays
pub mod Exts
pub mod Reasons
