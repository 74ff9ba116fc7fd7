-- How far a step is evaluated before a layer, and what all layers come to.
use Rattle.std.proofs.Common.{◌≡◌, refl, ap, ◌∙◌, sym, subst, ℕ, ◌+◌, ◌<◌, ◌≤◌, List, [], ◌∷◌, Some, Bool, true, false, ◌&&◌, ◌||◌, if◌then◌else◌, length, get_or, replicate, slice_get, nat_eq, nat_lt, vec_len, arith}
use Rattle.std.proofs.lemmas.Bool.{le-ltb, lt-ltb}
use Rattle.std.proofs.lemmas.List.{get_or-replicate}
use Rattle.std.proofs.lemmas.Option.{slice_get-get_or, get_or_from_slice_get, slice_get_within}
use Rattle.std.specs.Global.{Vec}
use Rattle.std.specs.Vec.{vec_capacity}
use Rattle.lola_value.specs.declared.value.Outcome.{Outcome}
use Rattle.lola_value.specs.Naming.{Naming}
use Rattle.lola_model.specs.Acceptance.{IsAccepted}
use Rattle.lola_model.specs.Content.{content}
use Rattle.lola_model.specs.Graph.{eval_node, layer_of, spawn_node}
use Rattle.lola_model.specs.Model.{is_input, spawned_in}
use Rattle.lola_model.specs.Store.{Memories, Seen, Stands, instances_seen, kind_in, start_seen, time_seen}
use Rattle.lola_model.specs.Table.{Step, StreamRow, TableRow}
use Rattle.lola_model.specs.declared.plan.Plan.{Plan}
use Rattle.lola_model.specs.declared.spec.Stream.{Stream}
use Rattle.lola_step_contents.specs.Stages.{Stage, eval_stage, full_row, is_behind, is_evaluated, layer_stage}
use Rattle.lola_step_contents.proofs.Behind.{layer_behind}
use Rattle.lola_step_contents.proofs.Complete.{completes}
use Rattle.lola_step.specs.Evals.{EvalsTake, HasRooms, IsReadyFor, ShowsMore}
use Rattle.lola_step.specs.Notes.{AreSpawnResults, AreNoted, AreOutcomesOf, IsSpan, ShowResults, asked_in, done_of, in_span, spawn_result_of}
use Rattle.lola_step.specs.Progress.{GoesOn, IsAt, IsMomentOf, IsRunAt, TakesTo}
use Rattle.lola_step.specs.Rooms.{rooms, to_come, total}
use Rattle.lola_step.specs.Scratches.{no_span}
use Rattle.lola_step.specs.declared.spawn_result.SpawnResult.{SpawnResult}
use Rattle.lola_step.specs.declared.spawn_result.SpawnResult.TheVariants as spawn_result
use Rattle.lola_step.specs.declared.moment.Moment.{Moment}
use Rattle.lola_step.specs.declared.scratch.Span.{Span}
use Rattle.lola_step.specs.declared.tasks.Task.{Task}
use Rattle.lola_step.proofs.Places.{of_stream_up}

-- a step goes on

-- where it stands
pub stays : (s : Seen) → GoesOn s s
stays s = record { layout = refl; phase = refl; prepared = refl; steps = refl; rooms = refl; stay = λ n. omega arith }

-- and on again
pub goes_on_again : (s t u : Seen) → GoesOn s t → GoesOn t u → GoesOn s u
goes_on_again s t u a b = record {
  layout = b.layout ∙ a.layout;
  phase = b.phase ∙ a.phase;
  prepared = b.prepared ∙ a.prepared;
  steps = b.steps ∙ a.steps;
  rooms = b.rooms ∙ a.rooms;
  stay = λ n. omega (arith, a.stay n, b.stay n);
}

-- the moment stays the same
pub same_moment : (m : Moment) (s t : Seen) → t.phase ≡ s.phase → IsMomentOf m s → IsMomentOf m t
same_moment m s t e h = record {
  start_is = h.start_is ∙ ap (λ p. start_seen (record s { phase = p })) (sym e);
  time_is = h.time_is ∙ ap (λ p. time_seen (record s { phase = p })) (sym e);
  step = h.step;
  is = h.is;
}

-- before the first layer

none_behind : (l n : ℕ) → is_behind l n 0 0 ≡ false
none_behind l n = rw (le-ltb l 0 (omega arith), le-ltb n 0 (omega arith)) (go (nat_eq l 0))
  where
    go : (b : Bool) → (b && false) ≡ false
    go true = refl
    go false = refl

-- nothing is spawned
first_spawn_results : (plan : Plan) (full : List StreamRow) (spawn_results : List SpawnResult) → length spawn_results ≡ length plan.spec.streams → spawn_results ≡ replicate (length spawn_results) spawn_result.Fine
    → AreSpawnResults plan full (layer_stage (length plan.spec.streams) 0) spawn_results
first_spawn_results plan full spawn_results e f n lt =
    let within : n < length spawn_results = omega arith in
    let fine : get_or spawn_results n spawn_result.Fine ≡ spawn_result.Fine =
    ap (λ ms. get_or ms n spawn_result.Fine) f ∙ get_or-replicate (length spawn_results) n spawn_result.Fine spawn_result.Fine within in
    slice_get-get_or spawn_results n spawn_result.Fine within
    ∙ (ap (λ m. Some m) fine
    ∙ sym (ap (λ b. Some (spawn_result_of (done_of b (spawned_in (slice_get full n))))) (none_behind (layer_of plan.layers (spawn_node n)) n)))

-- of a stream that is no input
as_node : (layers : List ℕ) (g : Stage) (n : ℕ) (s : Stream) → is_input s ≡ false → is_evaluated layers g n s ≡ is_behind (layer_of layers (eval_node n)) n g.layer g.evals
as_node layers g n s e = ap (λ b. if b then nat_lt n g.inputs else is_behind (layer_of layers (eval_node n)) n g.layer g.evals) e

-- nothing is evaluated
first_results : (plan : Plan) (full : List StreamRow) (names : Naming) (spans : List Span) (tasks : List Task) (results : List Outcome)
    → ShowResults plan full (layer_stage (length plan.spec.streams) 0) names spans tasks results
first_results plan full names spans tasks results n s at no_input done =
    let e : is_evaluated plan.layers (layer_stage (length plan.spec.streams) 0) n s ≡ false =
    as_node plan.layers (layer_stage (length plan.spec.streams) 0) n s no_input ∙ none_behind (layer_of plan.layers (eval_node n)) n in
    absurd (cc)

-- each span is empty
first_span : (spans : List Span) (n : ℕ) (p : Span) → spans ≡ replicate (length spans) no_span → slice_get spans n ≡ Some p → p ≡ no_span
first_span spans n p e at =
    let within : n < length spans = slice_get_within spans n p at in
    sym (get_or_from_slice_get spans n p no_span at)
    ∙ (ap (λ ps. get_or ps n no_span) e ∙ get_or-replicate (length spans) n no_span no_span within)

empty_span : (s : Seen) (tasks : List Task) (results : List Outcome) (n : ℕ) → IsSpan s tasks results n no_span
empty_span s tasks results n = record { within = omega arith; few = omega arith; asked = tt; kinds = tt }

-- all spans are ready
first_spans : (plan : Plan) (s : Seen) (tasks : List Task) (results : List Outcome) (spans : List Span) → length spans ≡ length plan.spec.streams → spans ≡ replicate (length spans) no_span
    → IsReadyFor plan (layer_stage (length plan.spec.streams) 0) s tasks results spans
first_spans plan s tasks results spans e f = record {
  each = e;
  within = λ n p at. subst (λ q. IsSpan s tasks results n q) (sym (first_span spans n p f at)) (empty_span s tasks results n);
  empty = λ n x p of not at. ap (λ (q : Span). q.count) (first_span spans n p f at);
  inputs = λ n x p of is at. ap (λ (q : Span). q.count) (first_span spans n p f at);
}

if_le : (b : Bool) (k : ℕ) → (if b then 0 else k) ≤ k
if_le true k = omega arith
if_le false k = omega arith

-- no more is to come than there is in all
to_come_le : (layers : List ℕ) (g : Stage) (n : ℕ) (ss : List Stream) (ks : List ℕ) → to_come layers g n ss ks ≤ total ks
to_come_le layers g n [] ks = omega arith
to_come_le layers g n (s ∷ ss) [] = omega arith
to_come_le layers g n (s ∷ ss) (k ∷ ks) = omega (arith, to_come_le layers g (n + 1) ss ks, if_le (is_input s || is_evaluated layers g n s) k)

-- there is room
first_rooms : (plan : Plan) (s : Seen) (places : Vec ℕ) (tasks : Vec Task) (results : Vec Outcome) → tasks.items ≡ [] → results.items ≡ []
    → total (rooms s) ≤ vec_capacity places → total (rooms s) ≤ vec_capacity tasks → total (rooms s) ≤ vec_capacity results
    → HasRooms plan (layer_stage (length plan.spec.streams) 0) s places tasks results
first_rooms plan s places tasks results idle none p a b =
    let d : vec_len tasks ≡ 0 = tasks.ok.0 ∙ ap length idle in
    let e : vec_len results ≡ 0 = results.ok.0 ∙ ap length none in
    let few = to_come_le plan.layers (layer_stage (length plan.spec.streams) 0) 0 plan.spec.streams (rooms s) in
    record {
      each = ap length idle ∙ sym (ap length none);
      places_room = p;
      tasks_room = omega (arith, a, d, few);
      results_room = omega (arith, b, e, few);
    }

-- before a layer

-- what a run comes to: where the store stands, what spawn clauses did, and the outcomes so far
pub record IsRunSoFar (plan : Plan) (m : Moment) (layer : ℕ) (remembers : Memories) (s : Seen) (spawn_results : List SpawnResult) (spans : List Span) (tasks : List Task) (results : List Outcome) (names : Naming) (rows : List TableRow) (step : Step) : Type 0 where
  pub run : IsRunAt plan m (layer_stage (length plan.spec.streams) layer) remembers s names rows step
  pub spawn_results_are : AreSpawnResults plan (full_row plan m.start rows step).streams (layer_stage (length plan.spec.streams) layer) spawn_results
  pub results_show : ShowResults plan (full_row plan m.start rows step).streams (layer_stage (length plan.spec.streams) layer) names spans tasks results

-- the layers below are evaluated, in each run that stood before the first layer
pub record IsSoFar (plan : Plan) (m : Moment) (layer : ℕ) (remembers : Memories) (s : Seen) (remembers' : Memories) (s' : Seen) (spawn_results : List SpawnResult) (spans : List Span) (places : Vec ℕ) (tasks : Vec Task) (results : Vec Outcome) : Type 0 where
  pub at : IsAt plan (layer_stage (length plan.spec.streams) layer) s'
  pub goes_on : GoesOn s s'
  pub has_rooms : HasRooms plan (layer_stage (length plan.spec.streams) layer) s' places tasks results
  pub ready : IsReadyFor plan (layer_stage (length plan.spec.streams) layer) s' tasks.items results.items spans
  pub runs : (names : Naming) (rows : List TableRow) (step : Step) → IsRunAt plan m (layer_stage (length plan.spec.streams) 0) remembers s names rows step
      → IsRunSoFar plan m layer remembers' s' spawn_results spans tasks.items results.items names rows step

-- before the first
pub first_layer : (plan : Plan) (m : Moment) (remembers : Memories) (s : Seen) (spawn_results : List SpawnResult) (spans : List Span) (places : Vec ℕ) (tasks : Vec Task) (results : Vec Outcome)
    → IsAt plan (layer_stage (length plan.spec.streams) 0) s
    → length spawn_results ≡ length plan.spec.streams → spawn_results ≡ replicate (length spawn_results) spawn_result.Fine
    → length spans ≡ length plan.spec.streams → spans ≡ replicate (length spans) no_span
    → tasks.items ≡ [] → results.items ≡ []
    → total (rooms s) ≤ vec_capacity places → total (rooms s) ≤ vec_capacity tasks → total (rooms s) ≤ vec_capacity results
    → IsSoFar plan m 0 remembers s remembers s spawn_results spans places tasks results
first_layer plan m remembers s spawn_results spans places tasks results at ms fine ss empty idle none p a b = record {
  at = at;
  goes_on = stays s;
  has_rooms = first_rooms plan s places tasks results idle none p a b;
  ready = first_spans plan s tasks.items results.items spans ss empty;
  runs = λ names rows step run. record {
    run = run;
    spawn_results_are = first_spawn_results plan (full_row plan m.start rows step).streams spawn_results ms fine;
    results_show = first_results plan (full_row plan m.start rows step).streams names spans tasks.items results.items;
  };
}

-- once the spawn clauses of a layer ran

-- the spans are ready
pub spans_then : (plan : Plan) (layer : ℕ) (s t : Seen) (tasks : List Task) (results : List Outcome) (spans : List Span) → GoesOn s t
    → IsReadyFor plan (layer_stage (length plan.spec.streams) layer) s tasks results spans → IsReadyFor plan (eval_stage (length plan.spec.streams) layer) t tasks results spans
spans_then plan layer s t tasks results spans g h = record {
  each = h.each;
  within = λ n p at.
      let i : IsSpan s tasks results n p = h.within n p at in
      record {
        within = i.within;
        few = omega (arith, i.few, g.stay n);
        asked = of_stream_up n 0 (length (instances_seen s n)) (length (instances_seen t n)) (asked_in tasks (Some p)) (g.stay n) i.asked;
        kinds = subst (λ l. AreOutcomesOf (kind_in (slice_get l.streams n)) (in_span results (Some p))) (sym g.layout) i.kinds;
      };
  empty = h.empty;
  inputs = h.inputs;
}

-- once its instances are evaluated

-- the spawn clauses of the layer are done
spawn_results_then : (plan : Plan) (full : List StreamRow) (layer : ℕ) (spawn_results : List SpawnResult)
    → AreSpawnResults plan full (eval_stage (length plan.spec.streams) layer) spawn_results → AreSpawnResults plan full (layer_stage (length plan.spec.streams) (layer + 1)) spawn_results
spawn_results_then plan full layer spawn_results h n lt =
    h n lt
    ∙ ap (λ b. Some (spawn_result_of (done_of b (spawned_in (slice_get full n))))) (layer_behind (layer_of plan.layers (spawn_node n)) n layer (length plan.spec.streams) lt)

-- in each run: spawn results of a layer before its spawn clauses become those after
abbrev pub SpawnResultsThen : Plan → Moment → ℕ → Memories → Seen → List SpawnResult → List SpawnResult → Type 0
SpawnResultsThen plan m layer remembers s spawn_results spawn_results' =
    (names : Naming) (rows : List TableRow) (step : Step)
    → IsRunAt plan m (layer_stage (length plan.spec.streams) layer) remembers s names rows step
    → AreSpawnResults plan (full_row plan m.start rows step).streams (layer_stage (length plan.spec.streams) layer) spawn_results
    → AreSpawnResults plan (full_row plan m.start rows step).streams (eval_stage (length plan.spec.streams) layer) spawn_results'

-- and so layer by layer
module _ (plan : Plan) (m : Moment) (layer : ℕ) (remembers : Memories) (s : Seen) (r1 : Memories) (s1 : Seen) (r2 : Memories) (s2 : Seen) (r3 : Memories) (s3 : Seen) where
  pub next_layer : (spawn_results spawn_results' : List SpawnResult) (spans spans' : List Span) (places places' : Vec ℕ) (tasks tasks' : Vec Task) (results results' : Vec Outcome)
      → IsSoFar plan m layer remembers s r1 s1 spawn_results spans places tasks results
      → GoesOn s1 s2 → TakesTo plan m (layer_stage (length plan.spec.streams) layer) (eval_stage (length plan.spec.streams) layer) r1 s1 r2 s2
      → SpawnResultsThen plan m layer r1 s1 spawn_results spawn_results'
      → IsAt plan (layer_stage (length plan.spec.streams) (layer + 1)) s3 → GoesOn s2 s3
      → HasRooms plan (layer_stage (length plan.spec.streams) (layer + 1)) s3 places' tasks' results'
      → IsReadyFor plan (layer_stage (length plan.spec.streams) (layer + 1)) s3 tasks'.items results'.items spans'
      → EvalsTake plan m layer spawn_results' r2 s2 r3 s3
      → ShowsMore plan m layer spawn_results' r2 s2 spans tasks.items results.items spans' tasks'.items results'.items
      → IsSoFar plan m (layer + 1) remembers s r3 s3 spawn_results' spans' places' tasks' results'
  next_layer spawn_results spawn_results' spans spans' places places' tasks tasks' results results' h on takes with_spawn_results at on' has_rooms ready evals shows = record {
    at = at;
    goes_on = goes_on_again s s2 s3 (goes_on_again s s1 s2 h.goes_on on) on';
    has_rooms = has_rooms;
    ready = ready;
    runs = λ names rows step run.
        let so_far : IsRunSoFar plan m layer r1 s1 spawn_results spans tasks.items results.items names rows step = h.runs names rows step run in
        let full : List StreamRow = (full_row plan m.start rows step).streams in
        let there : IsRunAt plan m (eval_stage (length plan.spec.streams) layer) r2 s2 names rows step = takes names rows step so_far.run in
        let ms : AreSpawnResults plan full (eval_stage (length plan.spec.streams) layer) spawn_results' = with_spawn_results names rows step so_far.run so_far.spawn_results_are in
        record {
          run = evals names rows step there ms;
          spawn_results_are = spawn_results_then plan full layer spawn_results' ms;
          results_show = shows names rows step there ms so_far.results_show;
        };
  }

-- once all layers are evaluated

all_behind : (l n layers : ℕ) → l < layers → is_behind l n layers 0 ≡ true
all_behind l n layers lt = rw (lt-ltb l layers lt) refl

-- all is noted, and the store stands for the whole row
pub all_layers : (plan : Plan) (m : Moment) (layers : ℕ) (remembers : Memories) (s : Seen) (remembers' : Memories) (s' : Seen) (spawn_results : List SpawnResult) (spans : List Span) (places : Vec ℕ) (tasks : Vec Task) (results : Vec Outcome)
    → IsAccepted plan → ((node : ℕ) → layer_of plan.layers node < layers)
    → IsSoFar plan m layers remembers s remembers' s' spawn_results spans places tasks results
    → (names : Naming) (rows : List TableRow) (step : Step) → IsRunAt plan m (layer_stage (length plan.spec.streams) 0) remembers s names rows step
    → AreNoted plan (full_row plan m.start rows step).streams names spawn_results spans tasks.items results.items
    × Stands names remembers' s' (content m.start rows (full_row plan m.start rows step))
all_layers plan m layers remembers s remembers' s' spawn_results spans places tasks results accepted low h names rows step run =
    let so_far : IsRunSoFar plan m layers remembers' s' spawn_results spans tasks.items results.items names rows step = h.runs names rows step run in
    let full : List StreamRow = (full_row plan m.start rows step).streams in (
      record {
        spawn_results_are = λ n lt.
            so_far.spawn_results_are n lt
            ∙ ap (λ b. Some (spawn_result_of (done_of b (spawned_in (slice_get full n))))) (all_behind (layer_of plan.layers (spawn_node n)) n layers (low (spawn_node n)));
        results_show = λ n x at no_input.
            so_far.results_show n x at no_input
            (as_node plan.layers (layer_stage (length plan.spec.streams) layers) n x no_input ∙ all_behind (layer_of plan.layers (eval_node n)) n layers (low (eval_node n)));
        inputs_empty = h.ready.inputs;
      },
      subst (λ c. Stands names remembers' s' c) ((completes plan accepted m.start rows step).done layers low) so_far.run.stands,
    )
