-- Which step comes next, after the rows of a table so far. The deadlines of an instance depend on its birth and end when it is
-- closed, so the steps of a run are found one by one.
use Rattle.std.specs.Prelude.{ℕ, ◌≡◌, ◌+◌, ◌-◌, ◌<◌, ◌≤◌, ◌⊎◌, Contains, List, [], ◌∷◌, ◌++◌, Option, Some, None, Bool, true, false, ◌||◌, if◌then◌else◌, slice_get, nat_lt}
use Rattle.std.specs.Option.{option_map}
use Rattle.lola_value.specs.Ratio.{Ratio}
use Rattle.lola_value.specs.Rate.{IsDeadline}
use Rattle.lola_model.specs.Table.{Step, Instance, TableRow}
use Rattle.lola_model.specs.Content.{time_of}
use Rattle.lola_model.specs.Steps.{deadline_step, row_step, rates_of, earlier_of_two, first_after}
use Rattle.lola_model.specs.Model.{survivors, last_row, Next}
use Rattle.lola_model.specs.StepOrder.{AreRates}
use Rattle.lola_model.specs.declared.journal.Row.{Row}
use Rattle.lola_model.specs.declared.pacing.Pacing.{Pacing}
use Rattle.lola_model.specs.declared.pacing.Pacing.TheVariants.{Event, Periodic, Local}
use Rattle.lola_model.specs.declared.pacing.ClausePacings.{ClausePacings}
use Rattle.lola_model.specs.declared.plan.Plan.{Plan}
use Rattle.lola_model.specs.declared.spec.Stream.{Stream}

-- the rate of a local pacing
abbrev pub local_rate_of : Option Pacing → List Ratio
local_rate_of None = []
local_rate_of (Some (Event sets)) = []
local_rate_of (Some (Periodic r)) = []
local_rate_of (Some (Local r)) = r ∷ []

-- the rates of a stream's clauses that count from the birth of each instance
abbrev pub local_rates : Option ClausePacings → List Ratio
local_rates None = []
local_rates (Some c) = local_rate_of c.eval ++ local_rate_of c.close

-- the earlier of two moments, if they are there
abbrev pub earlier : Option ℕ → Option ℕ → Option ℕ
earlier None b = b
earlier (Some t) b = Some (earlier_of_two b t)

-- the first deadline that is at least `from`, of rates that count from a moment
abbrev pub first_due : ℕ → List Ratio → ℕ → Option ℕ
first_due counted rates from = option_map (λ t. counted + t) (first_after rates (from - counted - 1))

-- the first moment whose deadlines' step may come behind a step: behind the rows of its time, and not behind its deadlines
abbrev pub open_after : Step → ℕ
open_after step = elim step.fields [ None ↦ step.time + 1 | Some fields ↦ step.time ]

-- the same behind a table, by its last row
abbrev pub open_from : Option TableRow → ℕ
open_from None = 0
open_from (Some row) = open_after row.step

module _ (plan : Plan) (table : List TableRow) where
  -- the first deadline of these instances, which are all of one stream
  abbrev pub due_of_instances : List Ratio → List Instance → Option ℕ
  due_of_instances rates [] = None
  due_of_instances rates (i ∷ is) =
      earlier (first_due (time_of 0 (slice_get table i.born)) rates (open_from (last_row table))) (due_of_instances rates is)

  -- of the instances that live after the table, from stream n on
  abbrev pub due_of_streams : ℕ → List Stream → Option ℕ
  due_of_streams n [] = None
  due_of_streams n (s ∷ ss) =
      earlier (due_of_instances (local_rates (slice_get plan.pacings n)) (survivors n s (last_row table))) (due_of_streams (n + 1) ss)

  -- the first deadline whose step comes behind the table: of the rates that count from the start, or of an instance
  abbrev pub due : ℕ → Option ℕ
  due start = earlier (first_due start (rates_of plan.pacings) (open_from (last_row table))) (due_of_streams 0 plan.spec.streams)

-- 1 for the step of an accepted row
abbrev pub taken_by : Step → ℕ
taken_by step = elim step.fields [ None ↦ 0 | Some fields ↦ 1 ]

-- how many accepted rows have a row in a table
abbrev pub rows_taken : List TableRow → ℕ
rows_taken [] = 0
rows_taken (row ∷ table) = taken_by row.step + rows_taken table

-- the step of the deadlines of a moment, if it is there and below a limit; or else another
abbrev pub below_or : Option ℕ → ℕ → Option Step → Option Step
below_or None limit other = other
below_or (Some t) limit other = if nat_lt t limit then Some (deadline_step t) else other

-- the step of the next row, or of deadlines below its stamp; and where no row is left, of deadlines below a limit, or none
abbrev pub step_before : Option Row → ℕ → Option ℕ → Option Step
step_before (Some r) limit t = below_or t r.stamp (Some (row_step r))
step_before None limit t = below_or t limit None

-- the moment after the last of these rows, 0 where there is none
abbrev pub after_last : List Row → ℕ
after_last [] = 0
after_last (r ∷ []) = r.stamp + 1
after_last (r ∷ q ∷ rs) = after_last (q ∷ rs)

module _ (plan : Plan) (start : ℕ) (rows : List Row) where
  -- the step that comes after a table, where the deadlines behind the last row are those below a limit
  abbrev pub next_below : ℕ → Next
  next_below limit table = step_before (slice_get rows (rows_taken table)) limit (due plan table start)

  -- with the deadlines at the last stamp
  abbrev pub next_step : Next
  next_step = next_below (after_last rows)

  -- without them
  abbrev pub next_settled : Next
  next_settled = next_below 0

-- so many steps come at most, from a moment on: one at each moment up to each row, and its own, and then one at each moment
-- below the limit
abbrev pub most_steps : ℕ → ℕ → List Row → ℕ
most_steps limit from [] = limit - from
most_steps limit from (r ∷ rows) = r.stamp - from + 1 + most_steps limit r.stamp rows

-- whether a pacing is local
abbrev pub is_local : Option Pacing → Bool
is_local None = false
is_local (Some (Event sets)) = false
is_local (Some (Periodic r)) = false
is_local (Some (Local r)) = true

-- whether some clause's is
abbrev pub has_local : List ClausePacings → Bool
has_local [] = false
has_local (c ∷ cs) = is_local c.spawn || (is_local c.eval || (is_local c.close || has_local cs))

-- the rates of all clauses are above 0, as each rate is
pub record HasRates (pacings : List ClausePacings) : Type 0 where
  pub counted_from_start : AreRates (rates_of pacings)
  pub counted_from_births : (n : ℕ) → AreRates (local_rates (slice_get pacings n))

-- what `due` is, said of deadlines

-- a moment after that from which these rates count, at which some of them has a deadline
pub record IsDeadlineSince (counted : ℕ) (rates : List Ratio) (t : ℕ) : Type 0 where
  pub rate : Ratio
  pub listed : Contains rates rate
  pub later : counted < t
  pub deadline : IsDeadline rate (t - counted)

-- a deadline of an instance that lives after a table, counted from its birth
pub record IsDeadlineOfInstance (plan : Plan) (table : List TableRow) (t : ℕ) : Type 0 where
  pub number : ℕ
  pub stream : Stream
  pub at : slice_get plan.spec.streams number ≡ Some stream
  pub instance : Instance
  pub lives : Contains (survivors number stream (last_row table)) instance
  pub counts : IsDeadlineSince (time_of 0 (slice_get table instance.born)) (local_rates (slice_get plan.pacings number)) t

-- a deadline whose step may come behind a table: one of the rates that count from the start, or of an instance
abbrev pub IsOpen : Plan → ℕ → List TableRow → ℕ → Type 0
IsOpen plan start table t =
    (IsDeadlineSince start (rates_of plan.pacings) t ⊎ IsDeadlineOfInstance plan table t) × (open_from (last_row table) ≤ t)

-- the least moment of which that holds; none where it holds of none
abbrev pub IsLeast : (ℕ → Type 0) → Option ℕ → Type 0
IsLeast P None = (t : ℕ) → P t → ⊥
IsLeast P (Some t) = P t × ((u : ℕ) → P u → t ≤ u)

-- what comes next, by deadlines: the first one that is still open
abbrev pub HasDue : Plan → Type 0
HasDue plan = (start : ℕ) (table : List TableRow) → IsLeast (IsOpen plan start table) (due plan table start)
