pub mod Taken
pub mod Fitting
pub mod Loaded
pub mod Opening
pub mod StateEnds
