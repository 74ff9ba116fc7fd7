pub mod Agreements
pub mod AnsweringOf
pub mod Stacks
pub mod Closings
pub mod StepFaults
pub mod Rests
pub mod Dues
