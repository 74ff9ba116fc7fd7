pub mod Growth
pub mod Numbering
pub mod TableLemmas
pub mod TreeLemmas
mod Operands
mod RangeLemmas
pub mod Scopes
pub mod Pieces
pub mod ClauseLemmas
pub mod StreamLemmas
pub mod WholeLemmas
pub mod Basics
pub mod TargetsNamed
pub mod ExpressionsNamed
pub mod Wholes
pub mod Shapes
pub mod Names
pub mod Listed
pub mod Tests
pub mod Spelled
pub mod Formulas
pub mod Laws
mod Corners
pub mod RatesWritten
pub mod Makers
pub mod TreesMade
pub mod StreamsMade
pub mod MadeWhole
