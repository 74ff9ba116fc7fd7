-- What the close conditions of a step come to, over whatever content a store stands for.
use Rattle.std.specs.Prelude.{ℕ, ◌≡◌, ◌+◌, List, [], ◌∷◌, ◌++◌, Option, Some, None, IsTrue, true, slice_get}
use Rattle.lola_value.specs.declared.value.FaultKind.{FaultKind}
use Rattle.lola_value.specs.declared.value.Outcome.{Outcome}
use Rattle.lola_value.specs.declared.value.Outcome.TheVariants as outcome
use Rattle.lola_value.specs.declared.value.Value.TheVariants as value
use Rattle.lola_value.specs.Answer.{Answer}
use Rattle.lola_value.specs.declared.value.Params.{Params}
use Rattle.lola_value.specs.Kinds.{are_of_kinds}
use Rattle.lola_value.specs.Naming.{Naming, IsNaming, read_params, the_values}
use Rattle.lola_model.specs.Content.{Content}
use Rattle.lola_model.specs.Faults.{add_faulted}
use Rattle.lola_model.specs.Model.{close_pacing}
use Rattle.lola_model.specs.Store.{Memories, Seen, SeenInstance, Stands, instances_seen, parameters_of}
use Rattle.lola_model.specs.declared.pacing.Pacing.{Pacing}
use Rattle.lola_model.specs.declared.plan.Plan.{Plan}
use Rattle.lola_model.specs.declared.spec.Clause.{Clause}
use Rattle.lola_model.specs.declared.spec.Stream.{Stream}
use Rattle.lola_step_contents.specs.Ready.{HasTexts, IsClauseAskable}
use Rattle.lola_step_contents.specs.Ends.{Place, add_place}
use Rattle.lola_step.specs.Clauses.{closing_answer}
use Rattle.lola_step.specs.Found.{fault_or}
use Rattle.lola_step.specs.Moments.{active_for_in}
use Rattle.lola_step.specs.Notes.{AreClosable, IsBefore, places_of}
use Rattle.lola_step.specs.declared.moment.Moment.{Moment}
use Rattle.lola_step.specs.declared.tasks.Task.{Task}

-- a store stands for a content through a naming with the plan's texts
pub record IsShown (plan : Plan) (names : Naming) (c : Content) (remembers : Memories) (s : Seen) : Type 0 where
  pub naming : IsNaming names
  pub texts : HasTexts names plan.spec.texts
  pub stands : Stands names remembers s c

-- where a close clause of stream n with this pacing is active for an instance, whenever that was born, it may be evaluated for it
abbrev pub MayAskClosing : Plan → Moment → Option Pacing → Seen → ℕ → Clause → Type 0
MayAskClosing plan m o s n k =
    (born : ℕ) → active_for_in m born o ≡ true → (p : Params) → IsTrue (are_of_kinds (parameters_of (slice_get s.layout.streams n)) (the_values p))
    → IsClauseAskable s p plan.spec.texts [] k

module _ (plan : Plan) (names : Naming) (c : Content) (m : Moment) where
  module _ (o : Option Pacing) (k : Option Clause) where
    -- the close condition of an instance that is shown, missing where the clause is not active for it
    abbrev pub condition_of : SeenInstance → Answer
    condition_of x = closing_answer plan.spec (active_for_in m x.born o) k c (read_params names x.params)

    -- the least kind of a fault among those of instances
    abbrev pub least_condition : List SeenInstance → Option FaultKind
    least_condition [] = None
    least_condition (x ∷ xs) = add_faulted (condition_of x) (least_condition xs)

    -- the places at which they are true, of instances of stream n from a place on
    abbrev pub places_true : ℕ → ℕ → List SeenInstance → List Place
    places_true n i [] = []
    places_true n i (x ∷ xs) = add_place (condition_of x) n i (places_true n (i + 1) xs)

  module _ (s : Seen) where
    -- the fault of a stream's close conditions
    abbrev pub stream_condition : ℕ → Stream → Option FaultKind
    stream_condition n x = least_condition (close_pacing (slice_get plan.pacings n)) x.close (instances_seen s n)

    -- the first of the streams from number n on that has one
    abbrev pub first_condition : ℕ → List Stream → Option (ℕ × FaultKind)
    first_condition n [] = None
    first_condition n (x ∷ xs) = fault_or n (stream_condition n x) (first_condition (n + 1) xs)

    -- the places of a stream
    abbrev pub stream_places : ℕ → Stream → List Place
    stream_places n x = places_true (close_pacing (slice_get plan.pacings n)) x.close n 0 (instances_seen s n)

    -- of the streams from number n on
    abbrev pub all_places : ℕ → List Stream → List Place
    all_places n [] = []
    all_places n (x ∷ xs) = stream_places n x ++ all_places (n + 1) xs

-- a task whose close condition is true is to be closed
abbrev pub closed_by : Outcome → Task → List Task
closed_by (outcome.Value (value.Bool true)) t = t ∷ []
closed_by _ t = []

-- of instances of one stream: whatever the store stands for, that is the fault of their conditions, and the places where they are true are listed
abbrev pub FindsAmong : Plan → Moment → Option Pacing → Memories → Seen → Option Clause → ℕ → Option FaultKind → List Task → List Task → Type 0
FindsAmong plan m o remembers s k n found old new =
    (names : Naming) (c : Content) → IsShown plan names c remembers s
    → (found ≡ least_condition plan names c m o k (instances_seen s n)) × (places_of new ≡ places_of old ++ places_true plan names c m o k n 0 (instances_seen s n))

-- of a stream
abbrev pub FindsIn : Plan → Moment → Memories → Seen → ℕ → Stream → Option FaultKind → List Task → List Task → Type 0
FindsIn plan m remembers s n x found old new = FindsAmong plan m (close_pacing (slice_get plan.pacings n)) remembers s x.close n found old new

-- of all streams
abbrev pub FindsAll : Plan → Moment → Memories → Seen → Option (ℕ × FaultKind) → List Task → Type 0
FindsAll plan m remembers s found closing =
    (names : Naming) (c : Content) → IsShown plan names c remembers s
    → (found ≡ first_condition plan names c m s 0 plan.spec.streams) × (found ≡ None → places_of closing ≡ all_places plan names c m s 0 plan.spec.streams)

-- instances that can be closed, all before a place
pub record AreUpTo (s : Seen) (b : Task) (ts : List Task) : Type 0 where
  pub closable : AreClosable s ts
  pub before : (i : ℕ) (t : Task) → slice_get ts i ≡ Some t → IsBefore t b
