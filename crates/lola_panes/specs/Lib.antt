pub mod Weights
pub mod Answers
pub mod Rings
pub mod Tallies
pub mod Parts
pub mod Holding
pub mod Standing
pub mod Restored
