pub mod Deliveries
pub mod Closings
pub mod Intakes
pub mod Sharing
