pub mod Merging
pub mod Interleaving
pub mod Queues
