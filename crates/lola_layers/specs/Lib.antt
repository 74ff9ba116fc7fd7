pub mod Raised
