pub mod Feeding
pub mod SharedIntakes
pub mod LockSeats
pub mod Drills
pub mod Fetching
pub mod Lending
