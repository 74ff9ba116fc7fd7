pub mod Sizes
pub mod Located
pub mod OperandLemmas
pub mod Promised
pub mod Parts
pub mod Arms
pub mod Asks
pub mod Means
pub mod Runs
pub mod Steps
pub mod Shorts
mod Codes
pub mod Laws
pub mod Elsewhere
pub mod Finding
