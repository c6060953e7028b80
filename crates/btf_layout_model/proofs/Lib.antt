pub mod Shapes
pub mod Unique
pub mod Ends
pub mod Small
pub mod Stays
