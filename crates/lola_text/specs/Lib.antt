pub mod Texts
pub mod Flags
pub mod TextKeys
pub mod Needed
