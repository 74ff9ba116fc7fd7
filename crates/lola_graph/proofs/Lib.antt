mod PartLemmas
pub mod ReadLemmas
mod FlagLemmas
pub mod NodeLemmas
pub mod ListLemmas
pub mod CycleLemmas
