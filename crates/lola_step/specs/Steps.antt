-- What a step of a run gives.
use Rattle.std.specs.Prelude.{ℕ, ◌≡◌, ◌+◌, List, [], ◌∷◌, Option, Some, None, Bool, true, false, map, IsTrue}
use Rattle.lola_value.specs.declared.text.Field.{Field}
use Rattle.lola_value.specs.declared.value.Kind.{Kind}
use Rattle.lola_value.specs.declared.value.Outcome.{Outcome}
use Rattle.lola_value.specs.declared.value.Outcome.TheVariants as outcome
use Rattle.lola_value.specs.Kinds.{is_of_kind}
use Rattle.lola_value.specs.Naming.{Naming}
use Rattle.lola_model.specs.Model.{answered, has_fault, is_input, filled_kind}
use Rattle.lola_model.specs.Runs.{content_after}
use Rattle.lola_model.specs.Standing.{StandsBetween, content_left, IsFaulty}
use Rattle.lola_model.specs.Store.{Memories, Running, Seen, Stands, start_seen}
use Rattle.lola_model.specs.Table.{Step, TableRow}
use Rattle.lola_model.specs.Texts.{row_lines}
use Rattle.lola_model.specs.declared.journal.Show.{Show}
use Rattle.lola_model.specs.declared.plan.Plan.{Plan}
use Rattle.lola_model.specs.declared.spec.Stream.{Stream}
use Rattle.lola_step_contents.specs.Ends.{lines_of}
use Rattle.lola_step.specs.Moments.{ReadAs}
use Rattle.lola_step.specs.Notes.{AreStepValuesHeld, read_step_value}
use Rattle.lola_step.specs.Progress.{IsOf}
use Rattle.lola_step.specs.declared.end.StepEnd.{StepEnd}
use Rattle.lola_step.specs.declared.end.StepEnd.TheVariants as end
use Rattle.lola_step.specs.declared.step_value.StepValue.{StepValue}

-- an input's outcome: nothing, or a value of its kind
abbrev pub is_input_outcome : Kind → Outcome → Bool
is_input_outcome k outcome.Missing = true
is_input_outcome k (outcome.Value v) = is_of_kind k v
is_input_outcome k _ = false

-- where a stream is an input, the first outcome is of its kind; and the others are as this says
abbrev pub BeginsWith : Bool → Stream → (List Outcome → Type 0) → List Outcome → Type 0
BeginsWith false s others os = others os
BeginsWith true s others [] = ⊥
BeginsWith true s others (o ∷ os) = IsTrue (is_input_outcome (filled_kind s) o) × others os

-- one for each input of these streams, in their order
abbrev pub AreOfInputs : List Stream → List Outcome → Type 0
AreOfInputs [] os = os ≡ []
AreOfInputs (s ∷ ss) os = BeginsWith (is_input s) s (AreOfInputs ss) os

-- at a row's step one for each input, at a deadline's none
abbrev pub AreInputs : Bool → List Stream → List Outcome → Type 0
AreInputs true streams inputs = AreOfInputs streams inputs
AreInputs false streams inputs = inputs ≡ []

-- and they read as the fields of the step
abbrev pub ReadFields : Naming → List Outcome → Bool → Option (List Field) → Type 0
ReadFields names inputs true (Some fields) = ReadAs names inputs fields
ReadFields names inputs false None = Unit {0}
ReadFields names inputs _ _ = ⊥

-- a step that is done: the next row of the model has no fault, its lines are those of the step values, and the store stands for what is left
pub record IsDoneStep (plan : Plan) (show : Show) (start : ℕ) (rows : List TableRow) (step : Step) (names : Naming) (remembers : Memories) (s : Seen) (step_values : List StepValue) : Type 0 where
  pub fine : has_fault (answered plan start rows step) ≡ false
  pub lines : row_lines show plan.spec.streams (answered plan start rows step) ≡ lines_of show step.time plan.spec.streams (map (read_step_value names) step_values)
  pub held : AreStepValuesHeld names step_values
  pub stands : Stands names remembers s (content_left start rows (answered plan start rows step))

-- by the end of a step: done; the fault of the next row of the model; or without memory, and as before
abbrev pub StepEnds : StepEnd → Plan → Show → ℕ → List TableRow → Step → Naming → Memories → Seen → List StepValue → Type 0
StepEnds end.Done plan show start rows step names remembers s step_values = IsDoneStep plan show start rows step names remembers s step_values
StepEnds (end.Fault stream kind) plan show start rows step names remembers s step_values = IsFaulty plan start rows step stream kind
StepEnds end.Memory plan show start rows step names remembers s step_values = StandsBetween names remembers s (content_after plan start rows)

-- what the store shows after a step at a time
pub record IsStepped (plan : Plan) (time : ℕ) (old new : Seen) : Type 0 where
  pub of : IsOf plan new
  pub phase : new.phase ≡ Running (start_seen old) time
  pub steps : new.steps ≡ old.steps + 1

-- and where there was no memory for it
pub record IsUnstepped (plan : Plan) (old new : Seen) : Type 0 where
  pub of : IsOf plan new
  pub phase : new.phase ≡ old.phase
  pub steps : new.steps ≡ old.steps

abbrev pub ShowsEnd : StepEnd → Plan → ℕ → Seen → Seen → Type 0
ShowsEnd end.Done plan time old new = IsStepped plan time old new
ShowsEnd (end.Fault stream kind) plan time old new = Unit {0}
ShowsEnd end.Memory plan time old new = IsUnstepped plan old new
