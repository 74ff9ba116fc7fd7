-- The steps of a run in which all deadlines count from the start, said of them as a whole: where they come from, which of two is
-- first, and that a list has each of them once.
use Rattle.std.specs.Prelude.{ℕ, ◌≡◌, ◌<◌, ◌≤◌, ◌-◌, ◌⊎◌, ◌↔◌, List, [], ◌∷◌, Option, Some, slice_get, map, Contains, AllPairs}
use Rattle.lola_value.specs.Ratio.{Ratio}
use Rattle.lola_value.specs.Rate.{IsDeadline}
use Rattle.lola_model.specs.Journal.{opening_time, accepted, IsLegal}
use Rattle.lola_model.specs.Table.{Step}
use Rattle.lola_model.specs.Steps.{deadline_step, row_step, rates_of, start_of, settled_steps, all_steps}
use Rattle.lola_model.specs.declared.journal.Row.{Row}
use Rattle.lola_model.specs.declared.journal.Entry.{Entry}
use Rattle.lola_model.specs.declared.pacing.ClausePacings.{ClausePacings}

-- a rate above 0, whose deadlines therefore are moments
pub record IsPositiveRate (r : Ratio) : Type 0 where
  pub num : 0 < r.num
  pub den : 0 < r.den

-- each of these rates is
abbrev pub AreRates : List Ratio → Type 0
AreRates [] = Unit {0}
AreRates (r ∷ rs) = IsPositiveRate r × AreRates rs

-- where a step comes from: an accepted row in its place among the accepted rows, from 0, or the deadlines of a moment
pub data Origin : Type 0 where
  OfRow : (place : ℕ) (row : Row) → Origin
  OfDeadlines : (time : ℕ) → Origin

-- the step itself
abbrev pub step_of : Origin → Step
step_of (OfRow place row) = row_step row
step_of (OfDeadlines time) = deadline_step time

-- its time
abbrev pub moment_of : Origin → ℕ
moment_of (OfRow place row) = row.stamp
moment_of (OfDeadlines time) = time

-- of two at one moment: rows by their places, and a row before the deadlines
abbrev pub IsFirst : Origin → Origin → Type 0
IsFirst (OfRow j q) (OfRow k r) = j < k
IsFirst (OfRow j q) (OfDeadlines t) = Unit {0}
IsFirst (OfDeadlines t) b = ⊥

-- the strict order of steps: by time, then as two at one moment
abbrev pub IsBefore : Origin → Origin → Type 0
IsBefore a b = (moment_of a < moment_of b) ⊎ ((moment_of a ≡ moment_of b) × IsFirst a b)

-- the stamp of the last of these rows, 0 where there is none
abbrev pub last_stamp : List Row → ℕ
last_stamp [] = 0
last_stamp (r ∷ []) = r.stamp
last_stamp (r ∷ q ∷ rs) = last_stamp (q ∷ rs)

-- a moment after the start that is a deadline of some clause's rate that counts from the start
pub record IsDue (pacings : List ClausePacings) (start t : ℕ) : Type 0 where
  pub rate : Ratio
  pub listed : Contains (rates_of pacings) rate
  pub later : start < t
  pub deadline : IsDeadline rate (t - start)

module _ (pacings : List ClausePacings) (start : ℕ) (rows : List Row) where
  -- what all steps of these rows come from: each row, and each due moment up to and with the last stamp
  abbrev pub IsOrigin : Origin → Type 0
  IsOrigin (OfRow place row) = slice_get rows place ≡ Some row
  IsOrigin (OfDeadlines time) = IsDue pacings start time × (time ≤ last_stamp rows)

  -- the same without the deadlines at the last stamp itself
  abbrev pub IsSettledOrigin : Origin → Type 0
  IsSettledOrigin (OfRow place row) = slice_get rows place ≡ Some row
  IsSettledOrigin (OfDeadlines time) = IsDue pacings start time × (time < last_stamp rows)

-- these steps are those of such origins: of each once, of no others, and in the order of steps
pub record AreStepsOf (Origins : Origin → Type 0) (steps : List Step) : Type 0 where
  pub origins : List Origin
  pub ordered : AllPairs IsBefore origins
  pub members : (o : Origin) → Contains origins o ↔ Origins o
  pub steps_are : steps ≡ map step_of origins

-- stamps that do not fall, from this time on
abbrev pub DoNotFall : ℕ → List Row → Type 0
DoNotFall time [] = Unit {0}
DoNotFall time (r ∷ rs) = (time ≤ r.stamp) × DoNotFall r.stamp rs

-- these lists are the only ones in the order of steps that have them all
pub record HasTheSteps (pacings : List ClausePacings) : Type 0 where
  pub all : (start : Option ℕ) (rows : List Row) → DoNotFall (opening_time start) rows → (steps : List Step)
      → AreStepsOf (IsOrigin pacings (start_of start rows) rows) steps ↔ (steps ≡ all_steps pacings start rows)
  pub settled : (start : Option ℕ) (rows : List Row) → DoNotFall (opening_time start) rows → (steps : List Step)
      → AreStepsOf (IsSettledOrigin pacings (start_of start rows) rows) steps ↔ (steps ≡ settled_steps pacings start rows)
  -- and the accepted rows of a legal journal are such rows
  pub legal : (start : Option ℕ) (journal : List Entry) → IsLegal start journal → DoNotFall (opening_time start) (accepted journal)
