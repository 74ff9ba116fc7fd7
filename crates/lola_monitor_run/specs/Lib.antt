pub mod Verdicts
pub mod Running
pub mod Rounds
pub mod Feeds
pub mod Behind
pub mod Turning
pub mod Handing
pub mod Schedules
