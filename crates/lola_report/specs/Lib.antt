pub mod Journals
pub mod Candidates
pub mod Names
pub mod Rows
pub mod Pieces
pub mod Verdicts
pub mod Ends
pub mod Lines
