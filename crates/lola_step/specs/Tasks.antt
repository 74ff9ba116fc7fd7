-- The tasks of a layer.
use Rattle.std.specs.Prelude.{ℕ, ◌≡◌, ◌<◌, List, [], ◌∷◌, Option, Some, None, Bool, true, if◌then◌else◌, length, slice_get, IsTrue}
use Rattle.lola_value.specs.declared.value.Kind.{Kind}
use Rattle.lola_value.specs.declared.value.Params.{Params}
use Rattle.lola_value.specs.declared.value.Outcome.{Outcome}
use Rattle.lola_value.specs.Kinds.{are_of_kinds, is_outcome_of}
use Rattle.lola_value.specs.Naming.{the_values}
use Rattle.lola_model.specs.Model.{eval_pacing, filled_kind}
use Rattle.lola_model.specs.NextStep.{is_local}
use Rattle.lola_model.specs.Store.{Memories, Seen, SeenInstance, instances_seen, kind_in, no_params, spawns_in}
use Rattle.lola_model.specs.declared.pacing.Pacing.{Pacing}
use Rattle.lola_model.specs.declared.plan.Plan.{Plan}
use Rattle.lola_model.specs.declared.spec.Clause.{Clause}
use Rattle.lola_model.specs.declared.spec.Stream.{Stream}
use Rattle.lola_step_contents.specs.Ready.{IsClauseAskable}
use Rattle.lola_step.specs.Clauses.{IsAnswer, eval_answer}
use Rattle.lola_step.specs.Moments.{active_for_in, born_seen, may_be_active_in}
use Rattle.lola_step.specs.declared.moment.Moment.{Moment}
use Rattle.lola_step.specs.declared.tasks.Task.{Task}

-- the parameters of an instance, if there is one
abbrev pub params_at : Option SeenInstance → Params
params_at None = no_params
params_at (Some x) = x.params

-- of the instance at a place of stream n
abbrev pub params_seen : Seen → ℕ → ℕ → Params
params_seen s n i = params_at (slice_get (instances_seen s n) i)

-- the parameters that an instance is evaluated with: its own, and none where its stream has no spawn clause
abbrev pub params_given : Seen → ℕ → ℕ → Params
params_given s n i = if spawns_in (slice_get s.layout.streams n) then params_seen s n i else no_params

-- an instance that lives, and the eval clause of its stream, which may be evaluated for it where parameters of its own are of their kinds
pub record IsActiveTask (plan : Plan) (s : Seen) (t : Task) : Type 0 where
  pub stream : Stream
  pub stream_is : slice_get plan.spec.streams t.stream ≡ Some stream
  pub clause : Clause
  pub clause_is : stream.eval ≡ Some clause
  pub lives : t.index < length (instances_seen s t.stream)
  pub asks : (IsTrue (spawns_in (slice_get s.layout.streams t.stream)) → IsTrue (are_of_kinds stream.parameters (the_values (params_given s t.stream t.index))))
      → IsClauseAskable s (params_given s t.stream t.index) plan.spec.texts (filled_kind stream ∷ []) clause

-- the pacing of the eval clause of a task's stream
abbrev pub pacing_of_task : Plan → Task → Option Pacing
pacing_of_task plan t = eval_pacing (slice_get plan.pacings t.stream)

-- whether the clause is active for the instance
abbrev pub is_active_task : Plan → Moment → Seen → Task → Bool
is_active_task plan m s t = active_for_in m (born_seen s t.stream t.index) (pacing_of_task plan t)

-- an instance that lives, of a stream whose eval clause may be active; a local one stands with a spawn clause
pub record IsTask (plan : Plan) (m : Moment) (s : Seen) (t : Task) : Type 0 where
  pub lives : t.index < length (instances_seen s t.stream)
  pub paced : t.stream < length plan.pacings
  pub may : may_be_active_in m (pacing_of_task plan t) ≡ true
  pub spawns : is_local (pacing_of_task plan t) ≡ true → IsTrue (spawns_in (slice_get s.layout.streams t.stream))
  pub active : is_active_task plan m s t ≡ true → IsActiveTask plan s t

-- each of these
abbrev pub AreTasks : Plan → Moment → Seen → List Task → Type 0
AreTasks plan m s tasks = (i : ℕ) (t : Task) → slice_get tasks i ≡ Some t → IsTask plan m s t

-- the same, in a form that is said in at most one way, so that a job can hold it: of the eval clause of a stream, which has a spawn clause or not
abbrev pub IsEvalReady : Seen → Bool → Params → List (List ℕ) → List Kind → Kind → Option Clause → Type 0
IsEvalReady s spawns p texts kinds want None = ⊥
IsEvalReady s spawns p texts kinds want (Some clause) = (IsTrue spawns → IsTrue (are_of_kinds kinds (the_values p))) → IsClauseAskable s p texts (want ∷ []) clause

-- of a stream
abbrev pub IsReady : Seen → Bool → Params → List (List ℕ) → Option Stream → Type 0
IsReady s spawns p texts None = ⊥
IsReady s spawns p texts (Some stream) = IsEvalReady s spawns p texts stream.parameters (filled_kind stream) stream.eval

-- of each task
abbrev pub AreReady : Plan → Moment → Seen → List Task → Type 0
AreReady plan m s tasks =
    (i : ℕ) (t : Task) → slice_get tasks i ≡ Some t
    → (t.index < length (instances_seen s t.stream)) × (t.stream < length plan.pacings) × IsTrue (may_be_active_in m (pacing_of_task plan t))
    × (IsTrue (is_local (pacing_of_task plan t)) → IsTrue (spawns_in (slice_get s.layout.streams t.stream)))
    × (IsTrue (is_active_task plan m s t) → IsReady s (spawns_in (slice_get s.layout.streams t.stream)) (params_given s t.stream t.index) plan.spec.texts (slice_get plan.spec.streams t.stream))

-- an outcome of a task: of the stream's kind, and the answer of its clause for the instance, where it is active or not
pub record IsOutcome (plan : Plan) (active : Bool) (remembers : Memories) (s : Seen) (t : Task) (r : Outcome) : Type 0 where
  pub kind : IsTrue (is_outcome_of (kind_in (slice_get s.layout.streams t.stream)) r)
  pub answer : IsAnswer plan remembers s (params_given s t.stream t.index) (eval_answer plan.spec active (slice_get plan.spec.streams t.stream)) r

-- at a moment
abbrev pub IsResult : Plan → Moment → Memories → Seen → Task → Outcome → Type 0
IsResult plan m remembers s t r = IsOutcome plan (is_active_task plan m s t) remembers s t r

-- of the task of a number, if there is one
abbrev pub IsResultAt : Plan → Moment → Memories → Seen → Option Task → Outcome → Type 0
IsResultAt plan m remembers s None r = Unit {0}
IsResultAt plan m remembers s (Some t) r = IsResult plan m remembers s t r
