pub mod Evaluation
pub mod Operands
pub mod Asking
pub mod Code
pub mod Machine
pub mod Plans
pub mod Numbered
pub mod Keys
