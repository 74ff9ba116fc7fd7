-- Which instances a clause is to be evaluated for.
use Rattle.std.specs.Prelude.{ℕ, ◌≡◌, List, Some, true, false, IsTrue, slice_get}
use Rattle.lola_value.specs.declared.value.Params.{Params}
use Rattle.lola_value.specs.Answer.{Missing}
use Rattle.lola_value.specs.Kinds.{are_of_kinds}
use Rattle.lola_value.specs.Naming.{Naming, read_params, the_values}
use Rattle.lola_model.specs.Content.{Content}
use Rattle.lola_model.specs.Denotation.{truth}
use Rattle.lola_model.specs.Model.{eval_pacing, when_answer}
use Rattle.lola_model.specs.Store.{Memories, Seen, SeenInstance, instances_seen, parameters_of}
use Rattle.lola_model.specs.Whereabouts.{may_stand_at}
use Rattle.lola_model.specs.declared.plan.Plan.{Plan}
use Rattle.lola_model.specs.declared.spec.Clause.{Clause}
use Rattle.lola_model.specs.declared.spec.Stream.{Stream}
use Rattle.lola_model.specs.declared.store.Whereabouts.{Whereabouts}
use Rattle.lola_model.specs.declared.store.Whereabouts.TheVariants.{Unknown}
use Rattle.lola_step_contents.specs.Ready.{IsWhenAskable}
use Rattle.lola_step.specs.Clauses.{eval_answer}
use Rattle.lola_step.specs.Closings.{IsShown}
use Rattle.lola_step.specs.Moments.{active_for_in}
use Rattle.lola_step.specs.Notes.{runs_in, sought_at}
use Rattle.lola_step.specs.Schedules.{has_parameters}
use Rattle.lola_step.specs.declared.spawn_result.SpawnResult.{SpawnResult}
use Rattle.lola_step.specs.declared.moment.Moment.{Moment}

-- the condition of a clause of stream n may be evaluated for each instance
abbrev pub MayAskWhen : Plan → Seen → ℕ → Clause → Type 0
MayAskWhen plan s n k =
    (p : Params) → IsTrue (are_of_kinds (parameters_of (slice_get s.layout.streams n)) (the_values p)) → IsWhenAskable s p plan.spec.texts k.when

-- whatever the store stands for, the condition is false for each instance of stream n that does not stand at these whereabouts
abbrev pub IsFalseElsewhere : Plan → Memories → Seen → ℕ → Clause → Whereabouts → Type 0
IsFalseElsewhere plan remembers s n k w =
    (names : Naming) (c : Content) → IsShown plan names c remembers s → (i : ℕ) (x : SeenInstance) → slice_get (instances_seen s n) i ≡ Some x → may_stand_at w i ≡ false
    → when_answer plan.spec c (read_params names x.params) k.when ≡ truth false

-- whatever the store stands for, the eval clause of stream n has no outcome for an instance that does not stand at these whereabouts
abbrev pub IsSilentElsewhere : Plan → Moment → Memories → Seen → ℕ → Whereabouts → Type 0
IsSilentElsewhere plan m remembers s n w =
    (names : Naming) (c : Content) → IsShown plan names c remembers s → (i : ℕ) (x : SeenInstance) → slice_get (instances_seen s n) i ≡ Some x → may_stand_at w i ≡ false
    → eval_answer plan.spec (active_for_in m x.born (eval_pacing (slice_get plan.pacings n))) (slice_get plan.spec.streams n) c (read_params names x.params) ≡ Missing

-- of each stream that runs in a layer
abbrev pub AreSought : Plan → Moment → List SpawnResult → List Whereabouts → Memories → Seen → ℕ → Type 0
AreSought plan m spawn_results sought remembers s layer =
    (n : ℕ) (x : Stream) → slice_get plan.spec.streams n ≡ Some x → runs_in plan m spawn_results layer n x ≡ true → IsSilentElsewhere plan m remembers s n (sought_at sought n)

-- nothing is noted of streams without parameters, whose one instance is always evaluated
abbrev pub AreUnsought : Plan → List Whereabouts → Type 0
AreUnsought plan sought = (n : ℕ) (x : Stream) → slice_get plan.spec.streams n ≡ Some x → has_parameters x ≡ false → sought_at sought n ≡ Unknown
