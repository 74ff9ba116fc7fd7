pub mod BitLemmas
pub mod OrderLemmas
pub mod KeptLemmas
pub mod LeastLemmas
pub mod FormulaLemmas
pub mod MultipleLemmas
