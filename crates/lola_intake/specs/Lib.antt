pub mod Histories
pub mod Intakes
pub mod Turns
