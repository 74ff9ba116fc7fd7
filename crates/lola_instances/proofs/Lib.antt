mod Accepted
mod Plain
mod Taken
mod Asking
mod Changing
mod Births
pub mod Layouts
mod Opened
pub mod Owed
pub mod Phases
mod Preparing
mod Keeping
mod Dues
mod Spawners
mod Recalled
mod Resuming
mod Restored
mod Remembered
mod Covering
mod Windowed
mod Beside
