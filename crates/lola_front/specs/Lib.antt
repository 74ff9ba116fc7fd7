pub mod Filled
pub mod Front
