pub mod Small
pub mod Readable
pub mod Paths
pub mod Flags
pub mod Cycle
pub mod Worked
