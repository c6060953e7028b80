pub mod Errors
pub mod Names
pub mod Places
pub mod Prepared
pub mod Results
