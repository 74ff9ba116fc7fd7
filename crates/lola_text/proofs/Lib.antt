pub mod Held
pub mod Entering
pub mod Flagging
pub mod Finding
pub mod Kept
pub mod Among
