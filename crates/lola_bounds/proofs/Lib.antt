pub mod RaiseLemmas
pub mod PaneLemmas
pub mod KeptLemmas
