pub mod Nests
pub mod FormulaNests
