pub mod SecInfos
pub mod Infos
pub mod Copies
pub mod ExtHeaders
pub mod Parts
pub mod NamedSections
pub mod Exts
