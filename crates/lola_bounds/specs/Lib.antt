pub mod Offsets
pub mod Panes
pub mod Bounds
pub mod Report
