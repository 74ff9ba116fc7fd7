mod PartLemmas
mod JoinLemmas
mod OwnLemmas
mod PhaseLemmas
mod PacedLemmas
pub mod ListedLemmas
mod WindowLemmas
pub mod RateLemmas
pub mod LawLemmas
pub mod FineLemmas
mod FlagLemmas
pub mod LeafLemmas
