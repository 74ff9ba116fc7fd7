-- How a step goes on from stage to stage, and what each stage finds.
use Rattle.std.specs.Prelude.{ℕ, zero, suc, ◌≡◌, ◌+◌, ◌<◌, List, [], ◌∷◌, ◌++◌, Option, Some, None, Result, Ok, Err, Bool, true, false, not, ◌&&◌, if◌then◌else◌, map, length, slice_get, nat_eq}
use Rattle.lola_value.specs.declared.text.Field.{Field}
use Rattle.lola_value.specs.declared.text.Field.TheVariants as field
use Rattle.lola_value.specs.declared.value.FaultKind.TheVariants as fault
use Rattle.lola_value.specs.Answer.{Answer, Given, Missing, Faulted, Poisoned}
use Rattle.lola_value.specs.Naming.{Naming}
use Rattle.lola_model.specs.Acceptance.{IsAccepted}
use Rattle.lola_model.specs.Activity.{is_active, is_active_for, may_be_active}
use Rattle.lola_model.specs.Content.{Content, Life, seen, is_bad, content, time_of}
use Rattle.lola_model.specs.Graph.{eval_node, spawn_node, layer_of}
use Rattle.lola_model.specs.Model.{survivors, last_row, answered, is_input, input_outcome, eval_outcome, eval_pacing, spawn_pacing, when_answer, named_params, spawned_in, newborn}
use Rattle.lola_model.specs.Runs.{begun, content_after, rested}
use Rattle.lola_model.specs.Store.{Memories, Seen, Stands, layout_of}
use Rattle.lola_model.specs.Table.{Step, Spawned, Idle, Named, SpawnFaulted, SpawnPoisoned, Living, StreamRow, TableRow}
use Rattle.lola_model.specs.declared.plan.Plan.{Plan}
use Rattle.lola_model.specs.declared.spec.Spec.{Spec}
use Rattle.lola_model.specs.declared.spec.Stream.{Stream}
use Rattle.lola_model.specs.declared.spec.Clause.{Clause}
use Rattle.lola_model.specs.declared.store.SpawnEnd.TheVariants as spawn
use Rattle.lola_step_contents.specs.Changed.{told, spoiled, after_spawning, spawn_end_among, lives_in}
use Rattle.lola_model.proofs.Orderly.{AreOfRows}
use Rattle.lola_step_contents.specs.Stages.{Stage, AreSettled, is_spawned, full_row, content_so_far, first_stage, layer_stage, spawn_stage, eval_stage}

-- what a spawn clause asks for, before it is known who lives: an instance or nothing, unless it has a fault or poison
abbrev pub asked_of : Result (List Field) Answer → Spawned
asked_of (Ok p) = Named p
asked_of (Err (Faulted k)) = SpawnFaulted k
asked_of (Err Missing) = Idle
asked_of (Err a) = SpawnPoisoned

-- its condition decides first
abbrev pub where_true : Answer → Spawned → Spawned
where_true (Given (field.Bool true)) s = s
where_true (Given v) s = Idle
where_true Missing s = Idle
where_true (Faulted k) s = SpawnFaulted k
where_true Poisoned s = SpawnPoisoned

-- an active spawn clause
abbrev pub spawn_asks : Spec → Content → Clause → Spawned
spawn_asks spec c k = where_true (when_answer spec c [] k.when) (asked_of (named_params spec c k.with))

-- what becomes of a content by what a spawn clause asks for
abbrev pub after_asking : Spawned → Content → ℕ → Content
after_asking Idle c n = c
after_asking (Named p) c n =
    elim (spawn_end_among p (lives_in (slice_get c.streams n))) [ spawn.Born ↦ after_spawning spawn.Born c n p | spawn.Living ↦ c | spawn.TooMany ↦ spoiled c n ]
after_asking (SpawnFaulted k) c n = spoiled c n
after_asking SpawnPoisoned c n = spoiled c n

-- and what the clause did then
abbrev pub did_of : Spawned → Content → ℕ → Spawned
did_of (Named p) c n =
    elim (spawn_end_among p (lives_in (slice_get c.streams n))) [ spawn.Born ↦ Named p | spawn.Living ↦ Named p | spawn.TooMany ↦ SpawnFaulted fault.TooManyInstances ]
did_of s c n = s

-- the instance at a place of a stream, with its answer
pub record Told : Type 0 where
  pub stream : ℕ
  pub index : ℕ
  pub answer : Answer

-- the content once all of these have their answers, as others see them
abbrev pub told_each : Content → List Told → Content
told_each c [] = c
told_each c (t ∷ ts) = told_each (told c t.stream t.index (seen t.answer)) ts

-- the instances of stream n from a place on
abbrev pub told_from : ℕ → ℕ → List Living → List Told
told_from n i [] = []
told_from n i (l ∷ ls) = record { stream = n; index = i; answer = l.outcome } ∷ told_from n (i + 1) ls

-- the instances of a stream, if there is one
abbrev pub living_in : Option StreamRow → List Living
living_in None = []
living_in (Some s) = s.living

-- a stream is evaluated in a layer: it is no input and its node is of that layer, its clause may be active for some instance, and it
-- is not bad
abbrev pub is_run_in : Plan → ℕ → Step → List StreamRow → ℕ → ℕ → Stream → Bool
is_run_in plan start step full layer n s =
    not (is_input s) && (nat_eq (layer_of plan.layers (eval_node n)) layer
    && (may_be_active start step (eval_pacing (slice_get plan.pacings n)) && not (is_bad (spawned_in (slice_get full n)))))

-- all instances of the streams that are evaluated in a layer, from stream n on
abbrev pub told_in_layer : Plan → ℕ → Step → List StreamRow → ℕ → ℕ → List Stream → List Told
told_in_layer plan start step full layer n [] = []
told_in_layer plan start step full layer n (s ∷ ss) =
    (if is_run_in plan start step full layer n s then told_from n 0 (living_in (slice_get full n)) else [])
    ++ told_in_layer plan start step full layer (n + 1) ss

-- how many inputs stand among the first n streams
abbrev pub inputs_before : List Stream → ℕ → ℕ
inputs_before [] n = 0
inputs_before (s ∷ ss) n = elim n [ zero ↦ 0 | suc m ↦ (if is_input s then 1 else 0) + inputs_before ss m ]

-- a step of an accepted plan, after lawful rows
module _ (plan : Plan) (start : ℕ) (rows : List TableRow) (step : Step) where
  abbrev at : Stage → Content
  at g = content_so_far plan start rows step g

  abbrev full : List StreamRow
  full = (full_row plan start rows step).streams

  abbrev count : ℕ
  count = length plan.spec.streams

  -- where a store stands between steps for the content after these rows, it stands at the first stage once the step has begun
  abbrev pub BeginsSo : Memories → Seen → Type 0
  BeginsSo remembers s = s.layout ≡ layout_of plan → (names : Naming) (whole : Content) → rested whole ≡ content_after plan start rows
      → Stands names remembers s (begun whole step.time) → Stands names remembers s (at first_stage)

  -- an input has its one instance, whose outcome is its field
  pub record InputIs (n : ℕ) (s : Stream) : Type 0 where
    pub living : living_in (slice_get full n) ≡ record { instance = record { params = []; born = 0 }; outcome = input_outcome (inputs_before plan.spec.streams n) step.fields } ∷ []
    pub next : at (record { inputs = n + 1; layer = 0; spawns = 0; evals = 0 })
        ≡ told (at (record { inputs = n; layer = 0; spawns = 0; evals = 0 })) n 0 (input_outcome (inputs_before plan.spec.streams n) step.fields)

  -- how the inputs go
  pub record InputsGo : Type 0 where
    pub input : (n : ℕ) (s : Stream) → slice_get plan.spec.streams n ≡ Some s → is_input s ≡ true → InputIs n s
    pub other : (n : ℕ) (s : Stream) → slice_get plan.spec.streams n ≡ Some s → is_input s ≡ false
        → at (record { inputs = n + 1; layer = 0; spawns = 0; evals = 0 }) ≡ at (record { inputs = n; layer = 0; spawns = 0; evals = 0 })
    pub all : at (record { inputs = count; layer = 0; spawns = 0; evals = 0 }) ≡ at (layer_stage count 0)

  -- what a spawn clause asks for over the content of its stage: where it is active, what it did and the next stage follow from that
  pub record SpawnIs (layer n : ℕ) (k : Clause) : Type 0 where
    pub did : spawned_in (slice_get full n) ≡ did_of (spawn_asks plan.spec (at (spawn_stage count layer n)) k) (at (spawn_stage count layer n)) n
    pub next : at (spawn_stage count layer (n + 1)) ≡ after_asking (spawn_asks plan.spec (at (spawn_stage count layer n)) k) (at (spawn_stage count layer n)) n

  -- nothing of stream n happens
  pub record NothingSpawns (layer n : ℕ) : Type 0 where
    pub did : layer_of plan.layers (spawn_node n) ≡ layer → spawned_in (slice_get full n) ≡ Idle
    pub next : at (spawn_stage count layer (n + 1)) ≡ at (spawn_stage count layer n)

  -- how the spawn clauses of a layer go
  pub record SpawnsGo (layer : ℕ) : Type 0 where
    pub active : (n : ℕ) (s : Stream) (k : Clause) → slice_get plan.spec.streams n ≡ Some s → s.spawn ≡ Some k → layer_of plan.layers (spawn_node n) ≡ layer
        → is_active start step (spawn_pacing (slice_get plan.pacings n)) ≡ true → SpawnIs layer n k
    pub passive : (n : ℕ) (s : Stream) → slice_get plan.spec.streams n ≡ Some s → is_active start step (spawn_pacing (slice_get plan.pacings n)) ≡ false → NothingSpawns layer n
    pub none : (n : ℕ) (s : Stream) → slice_get plan.spec.streams n ≡ Some s → s.spawn ≡ None → NothingSpawns layer n
    pub others : (n : ℕ) (s : Stream) → slice_get plan.spec.streams n ≡ Some s → (layer_of plan.layers (spawn_node n) ≡ layer → ⊥) → NothingSpawns layer n
    pub begin : at (spawn_stage count layer 0) ≡ at (layer_stage count layer)
    pub end : at (spawn_stage count layer count) ≡ at (eval_stage count layer)

  -- the instances of a stream of the layer: who they are, and what they come to over the content of the stage
  pub record EvalIs (layer n : ℕ) (s : Stream) : Type 0 where
    pub living : living_in (slice_get full n)
        ≡ map (λ x. record { instance = x; outcome = eval_outcome plan.spec (at (eval_stage count layer)) (is_bad (spawned_in (slice_get full n))) (is_active_for start (time_of step.time (slice_get rows x.born)) step (eval_pacing (slice_get plan.pacings n))) s.eval x.params })
        (survivors n s (last_row rows) ++ newborn (spawned_in (slice_get full n)) (survivors n s (last_row rows)) (length rows))
    -- its spawn clause is done, and the content has them
    pub spawned : is_spawned plan.layers (eval_stage count layer) n ≡ true
    pub lives : map (λ l. l.params) (lives_in (slice_get (at (eval_stage count layer)).streams n)) ≡ map (λ l. l.instance.params) (living_in (slice_get full n))
    pub births : map (λ (l : Life). l.born) (lives_in (slice_get (at (eval_stage count layer)).streams n)) ≡ map (λ (l : Living). time_of step.time (slice_get rows l.instance.born)) (living_in (slice_get full n))

  -- how the instances of a layer go
  pub record EvalsGo (layer : ℕ) : Type 0 where
    pub here : (n : ℕ) (s : Stream) → slice_get plan.spec.streams n ≡ Some s → is_input s ≡ false → layer_of plan.layers (eval_node n) ≡ layer → EvalIs layer n s
    pub next : at (layer_stage count (layer + 1)) ≡ told_each (at (eval_stage count layer)) (told_in_layer plan start step full layer 0 plan.spec.streams)

  -- once all layers are done
  pub record Completes : Type 0 where
    pub done : (layer : ℕ) → ((n : ℕ) → layer_of plan.layers n < layer) → at (layer_stage count layer) ≡ content start rows (full_row plan start rows step)

  -- the whole step
  pub record GoesBy : Type 0 where
    pub inputs : InputsGo
    pub spawns : (layer : ℕ) → SpawnsGo layer
    pub evals : (layer : ℕ) → EvalsGo layer
    pub completes : Completes

-- each step of an accepted plan goes by stages
abbrev pub StepsGo : Plan → Type 0
StepsGo plan = IsAccepted plan → (start : ℕ) (rows : List TableRow) (step : Step) → AreOfRows rows → AreSettled plan rows → GoesBy plan start rows step

-- rows stay settled as the next row of the model comes
abbrev pub StaySettled : Plan → Type 0
StaySettled plan = (start : ℕ) (rows : List TableRow) (step : Step) → AreOfRows rows → AreSettled plan rows → AreSettled plan (rows ++ answered plan start rows step ∷ [])
