pub mod Sinks
pub mod EntriesTold
pub mod Fronts
pub mod Taking
pub mod TextsBehind
pub mod Listing
pub mod Lists
pub mod Turns
pub mod Drawing
pub mod Going
pub mod Counting
pub mod Stepping
pub mod Runs
pub mod Closing
pub mod Writing
pub mod Rounding
pub mod Beginning
mod Handed
mod Orders
