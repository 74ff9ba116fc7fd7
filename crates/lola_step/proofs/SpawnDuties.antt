-- How the spawn clauses of a layer go on by one stream.
use Rattle.std.proofs.Common.{◌≡◌, refl, ap, ◌∙◌, sym, subst, ℕ, ◌+◌, ◌<◌, ◌≤◌, ◌⊎◌, inl, inr, List, Option, Some, None, Bool, true, false, not, length, nat_eq, slice_get, set, arith}
use Rattle.std.proofs.lemmas.Bool.{and_parts, cases_eq, eqb-true, leb-true}
use Rattle.std.proofs.lemmas.Option.{slice_get_within}
use Rattle.lola_value.specs.Naming.{Naming}
use Rattle.lola_model.specs.Acceptance.{IsAccepted}
use Rattle.lola_model.specs.Graph.{layer_of, spawn_node}
use Rattle.lola_model.specs.Model.{spawn_pacing, spawned_in}
use Rattle.lola_model.specs.Named.{count_with, has_clause, has_few_parameters, has_when, is_input_shape, is_of_bool, is_output_shape, is_trigger_shape, is_well_shaped}
use Rattle.lola_model.specs.Store.{Memories, Seen, Stands, no_params, parameters_of, spawns_in}
use Rattle.lola_model.specs.Table.{Step, Spawned, Idle, TableRow}
use Rattle.lola_model.specs.declared.plan.Plan.{Plan}
use Rattle.lola_model.specs.declared.spec.Clause.{Clause}
use Rattle.lola_model.specs.declared.spec.Sort.{Sort}
use Rattle.lola_model.specs.declared.spec.Sort.TheVariants as sort
use Rattle.lola_model.specs.declared.spec.Stream.{Stream}
use Rattle.lola_expr.specs.Evaluation.{Sees}
use Rattle.lola_step_contents.specs.Ready.{IsClauseAskable}
use Rattle.lola_step_contents.proofs.Clauses.{spawn_may_ask}
use Rattle.lola_step_contents.specs.Nexts.{NothingSpawns, SpawnIs, after_asking, did_of}
use Rattle.lola_step_contents.specs.Stages.{Stage, content_so_far, full_row, is_spawned, layer_stage, spawn_stage}
use Rattle.lola_step_contents.proofs.Behind.{next_behind, other_behind}
use Rattle.lola_step_contents.proofs.Shapes.{input_never_spawns, passes_at}
use Rattle.lola_step_contents.proofs.Spawns.{spawns_go}
use Rattle.lola_step.specs.Clauses.{IsSpawning, IsWellNamed}
use Rattle.lola_step.specs.Moments.{IsMoment, active_in}
use Rattle.lola_step.specs.Notes.{AreSpawnResults, done_of, spawn_result_of}
use Rattle.lola_step.specs.Progress.{GoesOn, IsAt, IsMomentOf, IsRunAt, TakesTo}
use Rattle.lola_step.specs.Spawns.{IsAfterClause, IsFor, IsNextSpawn, IsTaken, MaySpawn, spawn_result_at}
use Rattle.lola_step.specs.declared.clauses.Spawning.{Spawning}
use Rattle.lola_step.specs.declared.spawn_result.SpawnResult.{SpawnResult}
use Rattle.lola_step.specs.declared.moment.Moment.{Moment}
use Rattle.lola_step.proofs.Activities.{active_is, at_step}
use Rattle.lola_step.proofs.Births.{at_changed, at_next, clause_changes, done_here, to_come_here}
use Rattle.lola_step.proofs.Layouts.{layouts_length, parameters_there, spawns_there}
use Rattle.lola_step.proofs.Shown.{goes_on_far, goes_on_same, set_else, set_here}

-- what the shape of a stream with a spawn clause says

without : (k : Clause) (o : Option Clause) → o ≡ Some k → not (has_clause o) ≡ true → ⊥
without k None e h = cc
without k (Some c) e h = cc

trigger_never_spawns : (s : Stream) → is_trigger_shape s ≡ true → not (has_clause s.spawn) ≡ true
trigger_never_spawns s h =
    let a = (and_parts (is_of_bool s.kind) _ h).1 in
    let b = (and_parts (nat_eq (count_with s.eval) 1) _ a).1 in
    let c = (and_parts (not (has_when s.eval)) _ b).1 in
    let d = (and_parts (nat_eq (length s.parameters) 0) _ c).1 in
    (and_parts (not (has_clause s.spawn)) (not (has_clause s.close)) d).0

output_names : (s : Stream) → is_output_shape s ≡ true → count_with s.spawn ≡ length s.parameters
output_names s h =
    let a = (and_parts (nat_eq (count_with s.eval) 1) _ h).1 in
    eqb-true (count_with s.spawn) (length s.parameters) (and_parts (nat_eq (count_with s.spawn) (length s.parameters)) _ a).0

abbrev shape_of : Stream → Sort → Bool
shape_of s t = elim t [ sort.Input ↦ is_input_shape s | sort.Output ↦ is_output_shape s | sort.Trigger ↦ is_trigger_shape s ]

abbrev input_of : Sort → Bool
input_of t = elim t [ sort.Input ↦ true | sort.Output ↦ false | sort.Trigger ↦ false ]

-- it names as many values as the stream has parameters
pub names_all : (s : Stream) (k : Clause) → is_well_shaped s ≡ true → s.spawn ≡ Some k → length k.with ≡ length s.parameters
names_all s k h has = by_sort s.sort refl
  where
    by_sort : (t : Sort) → s.sort ≡ t → length k.with ≡ length s.parameters
    by_sort sort.Input e = let n = input_never_spawns s h (ap input_of e) in absurd (cc)
    by_sort sort.Output e = ap count_with (sym has) ∙ output_names s (sym (ap (shape_of s) e) ∙ h)
    by_sort sort.Trigger e = absurd (without k s.spawn has (trigger_never_spawns s (sym (ap (shape_of s) e) ∙ h)))

-- a spawn result of what is idle is the same done or not
idle_spawn_result : (b c : Bool) (sp : Spawned) → sp ≡ Idle → spawn_result_of (done_of b sp) ≡ spawn_result_of (done_of c sp)
idle_spawn_result true true sp e = refl
idle_spawn_result true false sp e = ap spawn_result_of e
idle_spawn_result false true sp e = ap spawn_result_of (sym e)
idle_spawn_result false false sp e = refl

module _ (plan : Plan) (accepted : IsAccepted plan) (m : Moment) (layer n : ℕ) (stream : Stream) (at : slice_get plan.spec.streams n ≡ Some stream)
    (spawn_result : SpawnResult) (remembers : Memories) (s : Seen) (here : IsAt plan (spawn_stage (length plan.spec.streams) layer n) s) where
  abbrev stage : ℕ → Stage
  stage k = spawn_stage (length plan.spec.streams) layer k

  abbrev node_layer : ℕ
  node_layer = layer_of plan.layers (spawn_node n)

  -- nothing of the stream happens, and the store stays as it is
  abbrev pub NothingHappens : Type 0
  NothingHappens = (names : Naming) (rows : List TableRow) (step : Step) → IsRunAt plan m (stage n) remembers s names rows step → NothingSpawns plan m.start rows step layer n

  nothing_next : NothingHappens → IsNextSpawn plan m layer n spawn_result spawn_result remembers s remembers s
  nothing_next nothing = record {
    at = at_next plan layer n s here;
    goes_on = goes_on_same s;
    takes = λ names rows step run.
        record { run = run.run; moment = run.moment; stands = subst (λ c. Stands names remembers s c) (sym (nothing names rows step run).next) run.stands };
    spawn_results = λ names rows step run is. is ∙ same rows step (nothing names rows step run) (cases_eq node_layer layer);
  }
    where
      same : (rows : List TableRow) (step : Step) → NothingSpawns plan m.start rows step layer n → (node_layer ≡ layer) ⊎ (node_layer ≡ layer → ⊥)
          → spawn_result_at plan (full_row plan m.start rows step).streams (stage n) n ≡ spawn_result_at plan (full_row plan m.start rows step).streams (stage (n + 1)) n
      same rows step nothing (inl e) =
          idle_spawn_result (is_spawned plan.layers (stage n) n) (is_spawned plan.layers (stage (n + 1)) n) (spawned_in (slice_get (full_row plan m.start rows step).streams n)) (nothing.did e)
      same rows step nothing (inr d) = ap (λ b. spawn_result_of (done_of b (spawned_in (slice_get (full_row plan m.start rows step).streams n)))) (other_behind node_layer n layer n (n + 1) d)

  -- the node of its spawn clause is of another layer
  pub other_layer_next : (node_layer ≡ layer → ⊥) → IsNextSpawn plan m layer n spawn_result spawn_result remembers s remembers s
  other_layer_next d = nothing_next (λ names rows step run. (spawns_go plan accepted m.start rows step layer).others n stream at d)

  -- it has no spawn clause
  pub no_clause_next : stream.spawn ≡ None → IsNextSpawn plan m layer n spawn_result spawn_result remembers s remembers s
  no_clause_next e = nothing_next (λ names rows step run. (spawns_go plan accepted m.start rows step layer).none n stream at e)

  -- the clause is not active
  pub passive_next : active_in m (spawn_pacing (slice_get plan.pacings n)) ≡ false → IsNextSpawn plan m layer n spawn_result spawn_result remembers s remembers s
  passive_next e = nothing_next
      (λ names rows step run. (spawns_go plan accepted m.start rows step layer).passive n stream at (sym (active_is m.start step m run.moment (spawn_pacing (slice_get plan.pacings n))) ∙ e))

  module _ (k : Clause) (has : stream.spawn ≡ Some k) (of_layer : node_layer ≡ layer) (active : active_in m (spawn_pacing (slice_get plan.pacings n)) ≡ true) where
    -- it is asked, and what it asks for is taken
    pub asked_next : (asked : Spawning) (spawn_result' : SpawnResult) (remembers' : Memories) (s' : Seen) → IsSpawning plan remembers s k asked → IsAfterClause s n s'
        → IsTaken asked n spawn_result' remembers s remembers' s' → IsNextSpawn plan m layer n spawn_result spawn_result' remembers s remembers' s'
    asked_next asked spawn_result' remembers' s' asks after taken =
        let change = clause_changes plan n s s' stream k at has here.of (here.unspawned n (to_come_here plan layer n of_layer)) after in
        record {
          at = at_changed plan layer n s s' of_layer here change;
          goes_on = change.goes_on;
          takes = λ names rows step run. (let now = content_so_far plan m.start rows step (stage n) in
              let a = asks names now (seen_by names rows step run) run.run.texts in
              let t = taken names now run.run.naming a.1 run.stands in
              record {
                run = run.run;
                moment = run.moment;
                stands = subst (λ c. Stands names remembers' s' c) (sym (goes rows step run.moment).next) (subst (λ q. Stands names remembers' s' (after_asking q now n)) a.0 t.stands);
              });
          spawn_results = λ names rows step run is. (let now = content_so_far plan m.start rows step (stage n) in
              let a = asks names now (seen_by names rows step run) run.run.texts in
              let t = taken names now run.run.naming a.1 run.stands in
              let full = (full_row plan m.start rows step).streams in
              t.spawn_results ∙ (ap (λ q. spawn_result_of (did_of q now n)) a.0
              ∙ (ap spawn_result_of (sym (goes rows step run.moment).did) ∙ ap (λ b. spawn_result_of (done_of b (spawned_in (slice_get full n)))) (sym (done_here plan layer n of_layer)))));
        }
      where
        seen_by : (names : Naming) (rows : List TableRow) (step : Step) → IsRunAt plan m (stage n) remembers s names rows step
            → Sees plan names (content_so_far plan m.start rows step (stage n)) remembers s no_params
        seen_by names rows step run = record { naming = run.run.naming; layout = here.of.layout; held = tt; stands = run.stands }

        goes : (rows : List TableRow) (step : Step) → IsMoment m.start step m → SpawnIs plan m.start rows step layer n k
        goes rows step moment =
            (spawns_go plan accepted m.start rows step layer).active n stream k at has of_layer (sym (active_is m.start step m moment (spawn_pacing (slice_get plan.pacings n))) ∙ active)

    -- what is to be known before

    pub may_ask : IsMomentOf m s → IsClauseAskable s no_params plan.spec.texts stream.parameters k
    may_ask of =
        spawn_may_ask plan m.start of.step s n stream k accepted (at_step plan m s of (stage n) here) at has
        (sym (active_is m.start of.step m of.is (spawn_pacing (slice_get plan.pacings n))) ∙ active)

    pub names_each : length k.with ≡ length stream.parameters
    names_each = names_all stream k (passes_at _ plan.spec.streams n stream accepted.named.shapes at) has

    pub few_names : length stream.parameters ≤ 4
    few_names = leb-true (length stream.parameters) 4 (passes_at has_few_parameters plan.spec.streams n stream accepted.named.few_parameters at)

    pub may_spawn : MaySpawn s n
    may_spawn = record {
      running = here.running;
      stream = (let a = slice_get_within plan.spec.streams n stream at in
          let b = layouts_length plan.spec.streams plan.kept plan.pacings in
          let c : length s.layout.streams ≡ _ = ap (λ l. length l.streams) here.of.layout in
          omega (arith, a, b, c));
      spawns = ap (λ l. spawns_in (slice_get l.streams n)) here.of.layout ∙ spawns_there plan.spec.streams plan.kept plan.pacings n stream k at has;
      first = here.unspawned n (to_come_here plan layer n of_layer);
    }

    pub is_for : (asked : Spawning) → IsWellNamed stream.parameters asked → IsFor s n asked
    is_for asked h =
        subst (λ ks. IsWellNamed ks asked)
        (sym (ap (λ l. parameters_of (slice_get l.streams n)) here.of.layout ∙ parameters_there plan.spec.streams plan.kept plan.pacings n stream at)) h

-- the spawn clauses of the streams below a number are done
pub record AreSpawned (plan : Plan) (m : Moment) (layer n : ℕ) (spawn_results spawn_results' : List SpawnResult) (remembers : Memories) (s : Seen) (remembers' : Memories) (s' : Seen) : Type 0 where
  pub at : IsAt plan (spawn_stage (length plan.spec.streams) layer n) s'
  pub goes_on : GoesOn s s'
  pub takes : TakesTo plan m (layer_stage (length plan.spec.streams) layer) (spawn_stage (length plan.spec.streams) layer n) remembers s remembers' s'
  pub with_spawn_results : (names : Naming) (rows : List TableRow) (step : Step) → IsRunAt plan m (layer_stage (length plan.spec.streams) layer) remembers s names rows step
      → AreSpawnResults plan (full_row plan m.start rows step).streams (layer_stage (length plan.spec.streams) layer) spawn_results
      → AreSpawnResults plan (full_row plan m.start rows step).streams (spawn_stage (length plan.spec.streams) layer n) spawn_results'

-- of one more
module _ (plan : Plan) (m : Moment) (layer n : ℕ) (spawn_results spawn_results' : List SpawnResult) (remembers : Memories) (s : Seen) (before : Memories) (t : Seen) (after : Memories) (u : Seen) (spawn_result spawn_result' : SpawnResult) where
  pub one_more_spawned : AreSpawned plan m layer n spawn_results spawn_results' remembers s before t → length spawn_results' ≡ length plan.spec.streams → n < length plan.spec.streams → slice_get spawn_results' n ≡ Some spawn_result
      → IsNextSpawn plan m layer n spawn_result spawn_result' before t after u → AreSpawned plan m layer (n + 1) spawn_results (set spawn_results' n spawn_result') remembers s after u
  one_more_spawned so_far long below is next = record {
    at = next.at;
    goes_on = goes_on_far s t u so_far.goes_on next.goes_on;
    takes = λ names rows step run. next.takes names rows step (so_far.takes names rows step run);
    with_spawn_results = λ names rows step run old. (let known = so_far.with_spawn_results names rows step run old in
        let full = (full_row plan m.start rows step).streams in
        let g = spawn_stage (length plan.spec.streams) layer n in
        let h = spawn_stage (length plan.spec.streams) layer (n + 1) in
        let same : spawn_result ≡ spawn_result_at plan full g n = (let a = known n below in cc) in
        let new = next.spawn_results names rows step (so_far.takes names rows step run) same in
        λ i lt. by names rows step i lt (known i lt) new (cases_eq i n));
  }
    where
      by : (names : Naming) (rows : List TableRow) (step : Step) (i : ℕ) → i < length plan.spec.streams
          → slice_get spawn_results' i ≡ Some (spawn_result_at plan (full_row plan m.start rows step).streams (spawn_stage (length plan.spec.streams) layer n) i)
          → spawn_result' ≡ spawn_result_at plan (full_row plan m.start rows step).streams (spawn_stage (length plan.spec.streams) layer (n + 1)) n
          → (i ≡ n) ⊎ (i ≡ n → ⊥)
          → slice_get (set spawn_results' n spawn_result') i ≡ Some (spawn_result_at plan (full_row plan m.start rows step).streams (spawn_stage (length plan.spec.streams) layer (n + 1)) i)
      by names rows step i lt known new (inl e) = rw e (set_here spawn_results' n spawn_result' (omega (arith, long, below)) ∙ ap Some new)
      by names rows step i lt known new (inr d) =
          set_else spawn_results' n i spawn_result' d
          ∙ (known ∙ ap (λ b. Some (spawn_result_of (done_of b (spawned_in (slice_get (full_row plan m.start rows step).streams i))))) (next_behind (layer_of plan.layers (spawn_node i)) i layer n d))
