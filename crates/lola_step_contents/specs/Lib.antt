pub mod Ready
pub mod Stages
pub mod Nexts
pub mod Ends
pub mod Changed
