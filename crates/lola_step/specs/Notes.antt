-- What is noted of a step: what spawn clauses did, and the outcomes of instances.
use Rattle.std.specs.Prelude.{ℕ, ◌≡◌, ◌+◌, ◌≤◌, ◌<◌, ◌⊎◌, List, [], ◌∷◌, ◌++◌, Option, Some, None, Bool, true, false, not, ◌&&◌, if◌then◌else◌, length, slice_get, map, take, drop, nat_eq, nat_lt, unwrap_or, zero, suc, IsTrue}
use Rattle.lola_value.specs.declared.value.FaultKind.{FaultKind}
use Rattle.lola_value.specs.declared.value.Outcome.{Outcome}
use Rattle.lola_value.specs.Answer.{Missing}
use Rattle.lola_value.specs.declared.value.Kind.{Kind}
use Rattle.lola_value.specs.Kinds.{are_of_kinds, is_of_kind, is_outcome_of, is_well_formed}
use Rattle.lola_value.specs.Naming.{Naming, AreHeld, IsHeld, IsHeldIn, read, read_outcome, read_params, the_values}
use Rattle.lola_model.specs.Dues.{due_places}
use Rattle.lola_model.specs.Faults.{RowFault}
use Rattle.lola_model.specs.Graph.{eval_node, layer_of}
use Rattle.lola_model.specs.Model.{is_input, eval_pacing, spawned_in}
use Rattle.lola_model.specs.Store.{Seen, instances_seen, kind_in, layout_of, spawns_in}
use Rattle.lola_model.specs.Table.{Spawned, Idle, Named, SpawnFaulted, SpawnPoisoned, Living, StreamRow}
use Rattle.lola_model.specs.declared.pacing.Pacing.{Pacing}
use Rattle.lola_model.specs.declared.pacing.Pacing.TheVariants.{Local}
use Rattle.lola_model.specs.declared.plan.Plan.{Plan}
use Rattle.lola_model.specs.declared.spec.Stream.{Stream}
use Rattle.lola_model.specs.declared.store.Whereabouts.{Whereabouts}
use Rattle.lola_model.specs.declared.store.Whereabouts.TheVariants.{At, Nowhere, Unknown}
use Rattle.lola_step_contents.specs.Ends.{RowValue, Place}
use Rattle.lola_step_contents.specs.Nexts.{living_in}
use Rattle.lola_step_contents.specs.Stages.{Stage, is_evaluated, is_spawned}
use Rattle.lola_step.specs.Moments.{may_be_active_in}
use Rattle.lola_step.specs.declared.spawn_result.SpawnResult.{SpawnResult}
use Rattle.lola_step.specs.declared.spawn_result.SpawnResult.TheVariants as spawn_result
use Rattle.lola_step.specs.declared.moment.Moment.{Moment}
use Rattle.lola_step.specs.declared.scratch.Span.{Span}
use Rattle.lola_step.specs.declared.tasks.Task.{Task}
use Rattle.lola_step.specs.declared.step_value.StepValue.{StepValue}

-- spawn results

-- what a spawn clause did, as far as faults go
abbrev pub spawn_result_of : Spawned → SpawnResult
spawn_result_of Idle = spawn_result.Fine
spawn_result_of (Named p) = spawn_result.Fine
spawn_result_of (SpawnFaulted k) = spawn_result.Fault k
spawn_result_of SpawnPoisoned = spawn_result.Poisoned

-- as far as it is done
abbrev pub done_of : Bool → Spawned → Spawned
done_of true s = s
done_of false s = Idle

-- the spawn results of all streams at a stage
abbrev pub AreSpawnResults : Plan → List StreamRow → Stage → List SpawnResult → Type 0
AreSpawnResults plan full g spawn_results =
    (n : ℕ) → n < length plan.spec.streams → slice_get spawn_results n ≡ Some (spawn_result_of (done_of (is_spawned plan.layers g n) (spawned_in (slice_get full n))))

-- spans

-- the outcomes of a span
abbrev pub in_span : List Outcome → Option Span → List Outcome
in_span results None = []
in_span results (Some p) = take p.count (drop p.from results)

-- the instances that were evaluated for them
abbrev pub asked_in : List Task → Option Span → List Task
asked_in tasks None = []
asked_in tasks (Some p) = take p.count (drop p.from tasks)

-- all of these are of a kind
abbrev pub AreOutcomesOf : Kind → List Outcome → Type 0
AreOutcomesOf k [] = Unit {0}
AreOutcomesOf k (o ∷ os) = IsTrue (is_outcome_of k o) × AreOutcomesOf k os

-- instances of stream n at places from i on and below k, each behind the one before
abbrev pub AreOfStream : ℕ → ℕ → ℕ → List Task → Type 0
AreOfStream n i k [] = Unit {0}
AreOfStream n i k (t ∷ ts) = (t.stream ≡ n) × (i ≤ t.index) × (t.index < k) × AreOfStream n (t.index + 1) k ts

-- the span is within the results; its tasks are of instances of the stream in order of birth, and its outcomes of the stream's kind
pub record IsSpan (s : Seen) (tasks : List Task) (results : List Outcome) (n : ℕ) (p : Span) : Type 0 where
  pub within : p.from + p.count ≤ length results
  pub few : p.count ≤ length (instances_seen s n)
  pub asked : AreOfStream n 0 (length (instances_seen s n)) (asked_in tasks (Some p))
  pub kinds : AreOutcomesOf (kind_in (slice_get s.layout.streams n)) (in_span results (Some p))

abbrev pub AreSpans : Seen → List Task → List Outcome → List Span → Type 0
AreSpans s tasks results spans = (n : ℕ) (p : Span) → slice_get spans n ≡ Some p → IsSpan s tasks results n p

-- each span is within the results
abbrev pub AreWithin : List Outcome → List Span → Type 0
AreWithin results spans = (n : ℕ) (p : Span) → slice_get spans n ≡ Some p → p.from + p.count ≤ length results

-- no instance has an outcome
abbrev pub AreSilent : List Living → Type 0
AreSilent [] = Unit {0}
AreSilent (l ∷ ls) = (l.outcome ≡ Missing) × AreSilent ls

-- one of two facts
abbrev pub OneOf : Bool → Type 0 → Type 0 → Type 0
OneOf true here there = here
OneOf false here there = there

-- of these instances, from a place on, those that were evaluated have outcomes that read as these, each as its own, and the others have none
abbrev pub ReadEach : Naming → ℕ → List Task → List Outcome → List Living → Type 0
ReadEach names i [] [] ls = AreSilent ls
ReadEach names i (t ∷ ts) (o ∷ os) (l ∷ ls) =
    OneOf (nat_eq t.index i)
    ((read_outcome names o ≡ l.outcome) × IsHeldIn names o × ReadEach names (i + 1) ts os ls)
    ((l.outcome ≡ Missing) × ReadEach names (i + 1) (t ∷ ts) (o ∷ os) ls)
ReadEach names i _ _ _ = ⊥

-- the outcomes of a stream's instances
abbrev pub ShowLiving : Naming → List Task → List Outcome → List Living → Type 0
ShowLiving names ts os ls = ReadEach names 0 ts os ls

-- the outcomes of all streams at a stage, but of inputs
abbrev pub ShowResults : Plan → List StreamRow → Stage → Naming → List Span → List Task → List Outcome → Type 0
ShowResults plan full g names spans tasks results =
    (n : ℕ) (s : Stream) → slice_get plan.spec.streams n ≡ Some s → is_input s ≡ false → is_evaluated plan.layers g n s ≡ true
    → ShowLiving names (asked_in tasks (slice_get spans n)) (in_span results (slice_get spans n)) (living_in (slice_get full n))

-- and of those whose instances are still to come there is nothing
abbrev pub AreEmpty : Plan → Stage → List Span → Type 0
AreEmpty plan g spans =
    (n : ℕ) (s : Stream) (p : Span) → slice_get plan.spec.streams n ≡ Some s → is_evaluated plan.layers g n s ≡ false → slice_get spans n ≡ Some p → p.count ≡ 0

-- all that is noted once the streams are evaluated: the spawn results, the outcomes of instances, and of inputs nothing
pub record AreNoted (plan : Plan) (full : List StreamRow) (names : Naming) (spawn_results : List SpawnResult) (spans : List Span) (tasks : List Task) (results : List Outcome) : Type 0 where
  pub spawn_results_are : (n : ℕ) → n < length plan.spec.streams → slice_get spawn_results n ≡ Some (spawn_result_of (spawned_in (slice_get full n)))
  pub results_show : (n : ℕ) (s : Stream) → slice_get plan.spec.streams n ≡ Some s → is_input s ≡ false
      → ShowLiving names (asked_in tasks (slice_get spans n)) (in_span results (slice_get spans n)) (living_in (slice_get full n))
  pub inputs_empty : (n : ℕ) (s : Stream) (p : Span) → slice_get plan.spec.streams n ≡ Some s → is_input s ≡ true → slice_get spans n ≡ Some p → p.count ≡ 0

-- the tasks of a layer

abbrev pub is_fine : Option SpawnResult → Bool
is_fine (Some spawn_result.Fine) = true
is_fine _ = false

-- a stream runs in a layer: it is no input, its node is of the layer, its clause may be active for some instance, and its spawn
-- clause neither has a fault nor is poisoned
abbrev pub runs_in : Plan → Moment → List SpawnResult → ℕ → ℕ → Stream → Bool
runs_in plan m spawn_results layer n s =
    not (is_input s) && (nat_eq (layer_of plan.layers (eval_node n)) layer && (may_be_active_in m (eval_pacing (slice_get plan.pacings n)) && is_fine (slice_get spawn_results n)))

-- so many places from a number on
abbrev pub places_from : ℕ → ℕ → List ℕ
places_from i zero = []
places_from i (suc k) = i ∷ places_from (i + 1) k

-- the places of the instances of stream n that a clause with a pacing may be active for: where it is local, of those that have a deadline
-- at the moment, and else of all
abbrev pub places_paced : Option Pacing → Moment → Seen → ℕ → List ℕ
places_paced (Some (Local r)) m s n = due_places s n m.time
places_paced _ m s n = places_from 0 (length (instances_seen s n))

-- where the instances of stream n stand that are to be evaluated, if that was noted
abbrev pub sought_at : List Whereabouts → ℕ → Whereabouts
sought_at sought n = unwrap_or (slice_get sought n) Unknown

-- the places of those that are to be evaluated: of the one that stands at these whereabouts, if it lives, and where nothing is known of all that
-- the clause may be active for
abbrev pub places_asked : Whereabouts → Option Pacing → Moment → Seen → ℕ → List ℕ
places_asked Unknown p m s n = places_paced p m s n
places_asked Nowhere p m s n = []
places_asked (At i) p m s n = if nat_lt i (length (instances_seen s n)) then i ∷ [] else []

-- the instances of stream n at places
abbrev pub tasks_at : ℕ → List ℕ → List Task
tasks_at n [] = []
tasks_at n (i ∷ is) = record { stream = n; index = i } ∷ tasks_at n is

-- the tasks of stream n in a layer
abbrev pub stream_tasks : Plan → Moment → List SpawnResult → List Whereabouts → Seen → ℕ → ℕ → Stream → List Task
stream_tasks plan m spawn_results sought s layer n x =
    if runs_in plan m spawn_results layer n x then tasks_at n (places_asked (sought_at sought n) (eval_pacing (slice_get plan.pacings n)) m s n) else []

-- of the streams from number n on
abbrev pub layer_tasks : Plan → Moment → List SpawnResult → List Whereabouts → Seen → ℕ → ℕ → List Stream → List Task
layer_tasks plan m spawn_results sought s layer n [] = []
layer_tasks plan m spawn_results sought s layer n (x ∷ xs) = stream_tasks plan m spawn_results sought s layer n x ++ layer_tasks plan m spawn_results sought s layer (n + 1) xs

-- where the outcomes of stream n stand that begin at a place of the results, if it runs in a layer
abbrev pub span_after : Plan → Moment → List SpawnResult → List Whereabouts → Seen → ℕ → ℕ → ℕ → Stream → Span → Span
span_after plan m spawn_results sought s layer from n x p =
    if runs_in plan m spawn_results layer n x then record { from = from; count = length (stream_tasks plan m spawn_results sought s layer n x) } else p

-- the spans after the tasks of a layer, whose outcomes begin at a place of the results
abbrev pub layer_spans : Plan → Moment → List SpawnResult → List Whereabouts → Seen → ℕ → ℕ → ℕ → List Stream → List Span → List Span
layer_spans plan m spawn_results sought s layer from n (x ∷ xs) (p ∷ ps) =
    span_after plan m spawn_results sought s layer from n x p
    ∷ layer_spans plan m spawn_results sought s layer (from + length (stream_tasks plan m spawn_results sought s layer n x)) (n + 1) xs ps
layer_spans plan m spawn_results sought s layer from n _ ps = ps

-- step values

-- a step value with its texts
abbrev pub read_step_value : Naming → StepValue → RowValue
read_step_value names v = record { stream = v.stream; params = read_params names v.params; value = read names v.value }

-- the naming has the texts of a step value
abbrev pub IsStepValueHeld : Naming → StepValue → Type 0
IsStepValueHeld names v = AreHeld names (the_values v.params) × IsHeld names v.value

abbrev pub AreStepValuesHeld : Naming → List StepValue → Type 0
AreStepValuesHeld names [] = Unit {0}
AreStepValuesHeld names (v ∷ vs) = IsStepValueHeld names v × AreStepValuesHeld names vs

-- a value of a stream that is no input, of its kind, with parameters of their kinds
pub record IsStepValue (plan : Plan) (v : StepValue) : Type 0 where
  pub stream : Stream
  pub stream_is : slice_get plan.spec.streams v.stream ≡ Some stream
  pub no_input : is_input stream ≡ false
  pub kind : is_of_kind (kind_in (slice_get (layout_of plan).streams v.stream)) v.value ≡ true
  pub params : are_of_kinds stream.parameters (the_values v.params) ≡ true
  pub well_formed : is_well_formed v.params ≡ true

abbrev pub AreStepValues : Plan → List StepValue → Type 0
AreStepValues plan [] = Unit {0}
AreStepValues plan (v ∷ vs) = IsStepValue plan v × AreStepValues plan vs

-- faults and places

-- a fault that was found, as the row has it
abbrev pub read_fault : Option (ℕ × FaultKind) → Option RowFault
read_fault None = None
read_fault (Some f) = Some (record { stream = f.0; kind = f.1 })

abbrev pub place_of_task : Task → Place
place_of_task t = record { stream = t.stream; index = t.index }

abbrev pub places_of : List Task → List Place
places_of ts = map place_of_task ts

-- instances of streams with a spawn clause, each before the next, by stream and place
abbrev pub IsBefore : Task → Task → Type 0
IsBefore a b = (a.stream < b.stream) ⊎ ((a.stream ≡ b.stream) × (a.index < b.index))

pub record IsClosable (s : Seen) (t : Task) : Type 0 where
  pub spawns : IsTrue (spawns_in (slice_get s.layout.streams t.stream))
  pub lives : t.index < length (instances_seen s t.stream)

-- they can be closed from the last to the first
pub record AreClosable (s : Seen) (ts : List Task) : Type 0 where
  pub each : (i : ℕ) (t : Task) → slice_get ts i ≡ Some t → IsClosable s t
  pub ordered : (i : ℕ) (t u : Task) → slice_get ts i ≡ Some t → slice_get ts (i + 1) ≡ Some u → IsBefore t u
