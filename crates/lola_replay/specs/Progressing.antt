-- How far the steps of a run are taken.
use Rattle.std.specs.Prelude.{ℕ, ◌≡◌, ◌<◌, ◌≤◌, ◌+◌, ◌^◌, List, [], ◌∷◌, ◌++◌, Option, Some, None, if◌then◌else◌, length, nat_lt}
use Rattle.lola_model.specs.Faults.{RowFault, RunFault, row_fault}
use Rattle.lola_model.specs.Model.{IsRow, Next, answered, last_row}
use Rattle.lola_model.specs.NextStep.{due, next_below, open_from, rows_taken}
use Rattle.lola_model.specs.Steps.{deadline_step}
use Rattle.lola_model.specs.Table.{Step, TableRow}
use Rattle.lola_model.specs.Texts.{table_lines}
use Rattle.lola_model.specs.declared.journal.Row.{Row}
use Rattle.lola_model.specs.declared.journal.Show.{Show}
use Rattle.lola_model.specs.declared.plan.Plan.{Plan}
use Rattle.lola_replay_step.specs.Rests.{AreBornIn, IsFirst, Rests}
use Rattle.lola_replay_step.specs.declared.fault.StepFault.{StepFault}
use Rattle.lola_replay.specs.Comparing.{IsComparedBy}
use Rattle.lola_replay.specs.SoFar.{IsSoFar}
use Rattle.lola_replay.specs.declared.progress.Fault.{Fault}
use Rattle.lola_replay.specs.declared.progress.Progress.{Progress}
use Rattle.lola_replay.specs.declared.progress.NextDeadline.{NextDeadline}
use Rattle.lola_replay.specs.declared.progress.NextDeadline.TheVariants as turn

-- a moment below a limit
abbrev pub below : ℕ → Option ℕ → Option ℕ
below limit None = None
below limit (Some t) = if nat_lt t limit then Some t else None

-- the fault of a run that is told, and of its row
abbrev pub the_run_fault : Fault → RunFault
the_run_fault f = record { stream = f.stream; kind = f.kind; time = f.time }

abbrev pub the_row_fault : Fault → RowFault
the_row_fault f = record { stream = f.stream; kind = f.kind }

-- the fault of a step at a time
abbrev pub told_at : ℕ → Option StepFault → Option Fault
told_at time None = None
told_at time (Some f) = Some (record { stream = f.stream; kind = f.kind; time = time })

-- what holds whatever rows were taken: all streams are known of, the lines have room, and steps are counted
pub record IsFit (plan : Plan) (p : Progress) : Type 0 where
  pub long : length p.known ≡ length plan.spec.streams
  pub room : p.compared.lines + length p.compared.rest.now < 2 ^ 63
  pub counted : p.steps ≤ p.from + p.rows

-- behind so many rows a rule has the deadlines below a limit next
abbrev pub GoesBelow : Plan → ℕ → Next → ℕ → ℕ → Type 0
GoesBelow plan start next n limit =
    (table : List TableRow) (t : ℕ) → rows_taken table ≡ n → below limit (due plan table start) ≡ Some t → next table ≡ Some (deadline_step t)

module _ (plan : Plan) (show : Show) (text : List ℕ) where
  -- the steps of these rows are taken
  pub record IsAt (table : List TableRow) (p : Progress) : Type 0 where
    pub rests : Rests plan table p.known
    pub first_is : IsFirst p.first table
    pub born_in : AreBornIn table
    pub from_is : p.from ≡ open_from (last_row table)
    pub steps_are : p.steps ≡ length table
    pub compared_by : IsComparedBy text (table_lines show plan.spec.streams table) p.compared

  -- one more step is taken
  pub record IsTaken (start : ℕ) (table : List TableRow) (step : Step) (fault : Option RowFault) (p : Progress) : Type 0 where
    pub lawful : IsRow plan start table step (answered plan start table step)
    pub fault_is : row_fault (answered plan start table step) ≡ fault
    pub compared_by : IsComparedBy text (table_lines show plan.spec.streams (table ++ answered plan start table step ∷ [])) p.compared
    pub steps_are : p.steps ≡ length (table ++ answered plan start table step ∷ [])
    pub at : fault ≡ None → IsAt (table ++ answered plan start table step ∷ []) p

  -- the step of the deadlines of a moment is
  abbrev pub IsDeadlineTaken : ℕ → List TableRow → ℕ → NextDeadline → Progress → Type 0
  IsDeadlineTaken start table time turn.Past p = ⊥
  IsDeadlineTaken start table time turn.Taken p = IsTaken start table (deadline_step time) None p
  IsDeadlineTaken start table time (turn.Faulty f) p = IsTaken start table (deadline_step time) (Some (the_row_fault f)) p × (f.time ≡ time)

  module _ (start : ℕ) (next : Next) where
    -- steps that come by a rule are taken, and so many of them are of rows
    pub record IsAlong (n : ℕ) (p : Progress) : Type 0 where
      pub table : List TableRow
      pub so_far : IsSoFar plan start next table
      pub taken : rows_taken table ≡ n
      pub at : IsAt table p

    -- and no deadline is left below a limit
    pub record IsPast (n limit : ℕ) (p : Progress) : Type 0 where
      pub table : List TableRow
      pub so_far : IsSoFar plan start next table
      pub taken : rows_taken table ≡ n
      pub at : IsAt table p
      pub none : below limit (due plan table start) ≡ None

    -- steps that come by a rule are taken, the last of which has a fault
    pub record IsStopped (fault : Fault) (p : Progress) : Type 0 where
      pub table : List TableRow
      pub made : TableRow
      pub so_far : IsSoFar plan start next table
      pub comes : next table ≡ Some made.step
      pub lawful : IsRow plan start table made.step made
      pub fault_is : row_fault made ≡ Some (the_row_fault fault)
      pub time_is : made.step.time ≡ fault.time
      pub steps_are : p.steps ≡ length (table ++ made ∷ [])
      pub compared_by : IsComparedBy text (table_lines show plan.spec.streams (table ++ made ∷ [])) p.compared

    -- what became of the next deadline below a limit
    abbrev pub IsTurned : ℕ → ℕ → NextDeadline → Progress → Type 0
    IsTurned n limit turn.Past p = IsPast n limit p
    IsTurned n limit turn.Taken p = IsAlong n p
    IsTurned n limit (turn.Faulty f) p = IsStopped f p

    -- all deadlines below a limit are taken, up to a fault
    abbrev pub IsPassed : ℕ → ℕ → Option Fault → Progress → Type 0
    IsPassed n limit None p = IsPast n limit p
    IsPassed n limit (Some f) p = IsStopped f p

  -- the settled steps of these rows are taken, up to a fault
  abbrev pub IsSettled : ℕ → List Row → Option Fault → Progress → Type 0
  IsSettled start rows None p = IsAlong start (next_below plan start rows 0) (length rows) p
  IsSettled start rows (Some f) p = IsStopped start (next_below plan start rows 0) f p

-- where a deadline was taken or not, what is counted and has room stays so, and no deadline comes twice
abbrev pub Keeps : Plan → ℕ → Progress → Progress → NextDeadline → Type 0
Keeps plan limit before after turn.Past = IsFit plan after × (after.from ≡ before.from) × (after.rows ≡ before.rows)
Keeps plan limit before after turn.Taken = IsFit plan after × (before.from < after.from) × (after.from ≤ limit) × (after.rows ≡ before.rows)
Keeps plan limit before after (turn.Faulty f) = Unit {0}
