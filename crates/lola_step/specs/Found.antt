-- What is found among the outcomes that are noted: faults and values.
use Rattle.std.specs.Prelude.{ℕ, ◌≡◌, ◌+◌, List, [], ◌∷◌, ◌++◌, Option, Some, None, Bool, true, false, ◌||◌, if◌then◌else◌, slice_get}
use Rattle.lola_value.specs.declared.value.FaultKind.{FaultKind}
use Rattle.lola_value.specs.declared.value.Outcome.{Outcome}
use Rattle.lola_value.specs.declared.value.Outcome.TheVariants as outcome
use Rattle.lola_value.specs.declared.value.Params.{Params}
use Rattle.lola_value.specs.Kinds.{are_of_kinds, is_well_formed}
use Rattle.lola_value.specs.Naming.{the_values}
use Rattle.lola_model.specs.Faults.{lesser_kind}
use Rattle.lola_model.specs.Store.{Layout, Seen, parameters_of}
use Rattle.lola_model.specs.declared.journal.Show.{Show}
use Rattle.lola_model.specs.declared.journal.Show.TheVariants.{Outputs, Triggers}
use Rattle.lola_model.specs.declared.spec.Sort.TheVariants as sort
use Rattle.lola_model.specs.declared.spec.Stream.{Stream}
use Rattle.lola_step.specs.Notes.{asked_in, in_span}
use Rattle.lola_step.specs.Tasks.{params_given}
use Rattle.lola_step.specs.declared.spawn_result.SpawnResult.{SpawnResult}
use Rattle.lola_step.specs.declared.spawn_result.SpawnResult.TheVariants as spawn_result
use Rattle.lola_step.specs.declared.scratch.Span.{Span}
use Rattle.lola_step.specs.declared.tasks.Task.{Task}
use Rattle.lola_step.specs.declared.step_value.StepValue.{StepValue}

-- faults

-- the lesser of two kinds of faults, either of which may be none
abbrev pub least_of : Option FaultKind → Option FaultKind → Option FaultKind
least_of None rest = rest
least_of (Some k) rest = lesser_kind k rest

-- adds the kind of the fault that an outcome is
abbrev pub add_fault : Outcome → Option FaultKind → Option FaultKind
add_fault (outcome.Fault k) rest = lesser_kind k rest
add_fault _ rest = rest

-- the least kind of a fault among outcomes
abbrev pub least_among : List Outcome → Option FaultKind
least_among [] = None
least_among (o ∷ os) = add_fault o (least_among os)

-- of a stream: its spawn clause's, or else the least of its instances
abbrev pub fault_of : SpawnResult → List Outcome → Option FaultKind
fault_of (spawn_result.Fault k) os = Some k
fault_of _ os = least_among os

-- the fault of stream n, or else that of later streams
abbrev pub fault_or : ℕ → Option FaultKind → Option (ℕ × FaultKind) → Option (ℕ × FaultKind)
fault_or n None rest = rest
fault_or n (Some k) rest = Some (n, k)

-- the first of the streams from number n on that has one
abbrev pub first_among : List Outcome → ℕ → List SpawnResult → List Span → Option (ℕ × FaultKind)
first_among results n (m ∷ ms) (p ∷ ps) = fault_or n (fault_of m (in_span results (Some p))) (first_among results (n + 1) ms ps)
first_among results n _ _ = None

-- whether a spawn clause has a fault of its own
abbrev pub is_faulted : SpawnResult → Bool
is_faulted (spawn_result.Fault k) = true
is_faulted _ = false

-- none has
abbrev pub NoneFaulted : List SpawnResult → Type 0
NoneFaulted spawn_results = (n : ℕ) (k : SpawnResult) → slice_get spawn_results n ≡ Some k → is_faulted k ≡ false

-- whether an outcome is a fault
abbrev pub is_fault : Outcome → Bool
is_fault (outcome.Fault k) = true
is_fault _ = false

-- whether one of these is
abbrev pub has_fault : List Outcome → Bool
has_fault [] = false
has_fault (o ∷ os) = is_fault o || has_fault os

-- no spawn clause has a fault of its own, and no outcome is a fault
abbrev pub IsFaultless : List SpawnResult → List Outcome → Type 0
IsFaultless spawn_results results = NoneFaulted spawn_results × (has_fault results ≡ false)

-- values

-- whether the values of outputs have no lines
abbrev pub hides_outputs : Show → Bool
hides_outputs Triggers = true
hides_outputs Outputs = false

-- whether the values of a stream have no lines: those of inputs, and those of outputs where triggers alone are shown
abbrev pub is_hidden : Show → Stream → Bool
is_hidden show s = elim s.sort [ sort.Input ↦ true | sort.Output ↦ hides_outputs show | sort.Trigger ↦ false ]

-- adds the value of an instance of stream n with these parameters
abbrev pub add_step_value : ℕ → Params → Outcome → List StepValue → List StepValue
add_step_value n p (outcome.Value v) rest = record { stream = n; params = p; value = v } ∷ rest
add_step_value n p _ rest = rest

-- the values of instances of stream n that have these outcomes, each with the same parameters
abbrev pub step_values_with : ℕ → Params → List Outcome → List StepValue
step_values_with n p [] = []
step_values_with n p (o ∷ os) = add_step_value n p o (step_values_with n p os)

-- each with those of the instance that was evaluated
abbrev pub step_values_among : Seen → ℕ → List Task → List Outcome → List StepValue
step_values_among s n (t ∷ ts) (o ∷ os) = add_step_value n (params_given s n t.index) o (step_values_among s n ts os)
step_values_among s n _ _ = []

-- of the streams from number n on that may have lines
abbrev pub all_step_values : Show → Seen → List Task → List Outcome → ℕ → List Stream → List Span → List StepValue
all_step_values show s tasks results n (x ∷ xs) (p ∷ ps) =
    (if is_hidden show x then [] else step_values_among s n (asked_in tasks (Some p)) (in_span results (Some p))) ++ all_step_values show s tasks results (n + 1) xs ps
all_step_values show s tasks results n _ _ = []

-- parameters of the kinds that a layout has for the stream
pub record FitsLayout (l : Layout) (v : StepValue) : Type 0 where
  pub params : are_of_kinds (parameters_of (slice_get l.streams v.stream)) (the_values v.params) ≡ true
  pub well_formed : is_well_formed v.params ≡ true

-- each of these has such
abbrev pub FitLayout : Layout → List StepValue → Type 0
FitLayout l [] = Unit {0}
FitLayout l (v ∷ vs) = FitsLayout l v × FitLayout l vs
