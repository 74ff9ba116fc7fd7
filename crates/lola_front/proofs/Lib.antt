pub mod Bools
pub mod Rows
pub mod Holds
pub mod Sound
pub mod Expressions
pub mod Alike
pub mod Typed
pub mod Kept
pub mod Streams
pub mod Laws
mod Corners
pub mod OffsetLemmas
pub mod EndLemmas
pub mod PaneLemmas
