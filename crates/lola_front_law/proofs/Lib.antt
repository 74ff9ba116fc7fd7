mod ReadingLemmas
mod Deciding
mod NameTokens
mod DeclaredWords
mod StreamWords
mod VerdictLines
mod PlanLines
mod AlikeTrees
mod AlikeKinds
mod AlikeStreams
mod AlikeListed
mod OneRate
mod KindLemmas
mod KindDeciding
mod RestLemmas
mod EdgeLemmas
mod CycleDeciding
mod OneForm
mod OneFinding
mod PacedStreams
mod PacedRefusals
mod PacedExpressions
mod WrittenAlike
mod PacedAlike
mod LowestRates
mod PacingDeciding
mod AlikePlans
mod PlainShapes
mod PlainKinds
mod PlainTexts
mod PlainTrees
mod PlainSpecs
mod PlainPlans
mod AnswerDeciding
pub mod Telling
pub mod Reaching
mod LeavesFound
mod LeastFound
mod FormsFound
mod RatesFound
mod ClausesFound
pub mod PacingsFound
mod CyclesFound
mod LayersFound
mod BoundsFound
pub mod Laws
pub mod ExpressionTexts
pub mod ClauseTexts
pub mod PlanLiterals
mod FullFilled
mod RatedStreams
mod Phases
mod PlainExpressions
mod PlainRows
mod PlainRuns
mod PlainStores
mod PlainLines
mod BothWays
mod Corners
mod LeastMoments
mod RateFormula
mod NextLocal
mod PlacesListed
mod LayoutRates
mod DeadlineCorners
