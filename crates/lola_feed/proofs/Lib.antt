pub mod Workers
pub mod Desks
pub mod Moving
mod Asking
mod Made
mod Shelves
mod Turning
pub mod DeskCalls
pub mod LockCalls
pub mod LockEnding
