pub mod Equations
pub mod Formulas
pub mod Writing
pub mod Digits
