pub mod Starts
pub mod WithNestings
pub mod Steps
pub mod Values
pub mod Turns
pub mod Joins
pub mod Backwards
