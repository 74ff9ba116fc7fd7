pub mod Moments
pub mod Setting
pub mod Coming
pub mod Passing
pub mod Following
