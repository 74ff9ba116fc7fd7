pub mod Seated
pub mod Takings
pub mod Joining
pub mod Sending
