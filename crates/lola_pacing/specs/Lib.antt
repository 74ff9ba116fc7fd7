pub mod Joins
pub mod Phase
pub mod Steps
pub mod Accepted
pub mod Rates
pub mod Laws
pub mod Flags
pub mod Reading
