pub mod Laws
pub mod Ending
pub mod Seating
pub mod Telling
pub mod Lists
pub mod Keeps
