pub mod Determined
pub mod Errors
pub mod Tests
pub mod Sound
