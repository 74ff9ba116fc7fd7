pub mod Inward
pub mod InwardFormulas
