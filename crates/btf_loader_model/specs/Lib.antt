pub mod Loader
pub mod Refused
pub mod Prepared
pub mod Laws
pub mod Examples
pub mod PreparedExamples
