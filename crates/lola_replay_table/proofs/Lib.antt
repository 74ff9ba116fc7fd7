pub mod Sizes
pub mod TallyLemmas
pub mod TimesLemmas
pub mod FoundLemmas
pub mod ChangedLists
pub mod Marking
