pub mod Found
pub mod LeftOut
pub mod Refused
pub mod Around
pub mod Filled
pub mod Assembled
