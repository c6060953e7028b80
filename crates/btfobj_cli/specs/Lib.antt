pub mod InputFile
pub mod Fault
pub mod Rewrite
pub mod Part
pub mod Changes
pub mod Compat
pub mod Relocation
pub mod InPlace
