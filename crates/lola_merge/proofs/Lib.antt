pub mod Answering
pub mod Orders
mod Waiting
mod Turning
mod Listing
