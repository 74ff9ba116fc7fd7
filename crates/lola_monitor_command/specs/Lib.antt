pub mod Said
pub mod Command
pub mod Order
pub mod Bounds
