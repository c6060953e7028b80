pub mod Data
pub mod Info
pub mod Infos
pub mod Lists
pub mod Padded
pub mod Params
pub mod Refused
pub mod Tails
