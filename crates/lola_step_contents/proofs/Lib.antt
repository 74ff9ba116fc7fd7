pub mod Among
pub mod Askable
pub mod Clauses
mod EachPart
mod Listings
mod Moments
pub mod Agree
pub mod Begin
pub mod Behind
pub mod Closings
pub mod Complete
pub mod Edges
pub mod Ending
pub mod Evals
pub mod Faults
pub mod Fixed
pub mod Inputs
pub mod Instances
pub mod Lines
pub mod Places
pub mod Quiet
pub mod Settled
pub mod Shapes
pub mod Spawns
pub mod OneStream
pub mod Tellings
pub mod SpawnContents
pub mod Closes
pub mod Namings
pub mod Births
mod Beginnings
mod LocalDues
