pub mod Goes
pub mod Named
pub mod InOrder
mod ReplayInOrder
mod SnapshotInOrder
mod Borders
mod Bounds
