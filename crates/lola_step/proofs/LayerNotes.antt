-- What is noted once a layer is evaluated.
use Rattle.std.proofs.Common.{◌≡◌, refl, ap, ◌∙◌, sym, subst, ℕ, zero, suc, ◌+◌, ◌<◌, ◌≤◌, ◌⊎◌, inl, inr, List, [], ◌∷◌, ◌++◌, Some, None, Bool, true, false, length, slice_get, take, drop, arith, vec_len, length-append, length-drop}
use Rattle.std.specs.Global.{Vec}
use Rattle.std.specs.Vec.{vec_capacity}
use Rattle.std.proofs.lemmas.List.{drop-append-le, take-append-le}
use Rattle.std.proofs.lemmas.Option.{slice_get_within}
use Rattle.lola_value.specs.declared.value.Outcome.{Outcome}
use Rattle.lola_model.specs.Model.{eval_pacing, is_input}
use Rattle.lola_model.specs.Store.{Memories, Seen, instances_seen, kind_in}
use Rattle.lola_model.specs.declared.plan.Plan.{Plan}
use Rattle.lola_model.specs.declared.spec.Stream.{Stream}
use Rattle.lola_model.specs.declared.store.Whereabouts.{Whereabouts}
use Rattle.lola_step_contents.specs.Stages.{Stage, eval_stage, is_evaluated, layer_stage}
use Rattle.lola_step_contents.proofs.Places.{stream_or_none}
use Rattle.lola_step.specs.Evals.{HasRooms, IsReadyFor}
use Rattle.lola_step.specs.Given.{AreResults, after_all}
use Rattle.lola_step.specs.Notes.{AreOfStream, AreOutcomesOf, IsSpan, asked_in, in_span, layer_spans, layer_tasks, sought_at}
use Rattle.lola_step.specs.Progress.{IsAt}
use Rattle.lola_step.specs.Rooms.{rooms, to_come, total}
use Rattle.lola_step.specs.declared.spawn_result.SpawnResult.{SpawnResult}
use Rattle.lola_step.specs.declared.moment.Moment.{Moment}
use Rattle.lola_step.specs.declared.scratch.Span.{Span}
use Rattle.lola_step.specs.declared.tasks.Task.{Task}
use Rattle.lola_step.proofs.Gathering.{all_rooms, asked_tasks, done_stays, layer_fits, length_spans, run_is_done, runs_so}
use Rattle.lola_step.proofs.Keeping.{Keeps, keeps_given}
use Rattle.lola_step.proofs.Places.{asked_of_stream}
use Rattle.lola_step.proofs.Results.{SpanOf, each_span, kinds_of_stream}

-- a span within the earlier results has the outcomes that it had
pub same_in_span : (first more : List Outcome) (p : Span) → p.from + p.count ≤ length first → in_span (first ++ more) (Some p) ≡ in_span first (Some p)
same_in_span first more p h =
    ap (take p.count) (drop-append-le p.from first more (omega (arith, h)))
    ∙ take-append-le p.count (drop p.from first) more (omega (arith, h, length-drop p.from first))

-- and the tasks
pub same_asked_in : (first more : List Task) (p : Span) → p.from + p.count ≤ length first → asked_in (first ++ more) (Some p) ≡ asked_in first (Some p)
same_asked_in first more p h =
    ap (take p.count) (drop-append-le p.from first more (omega (arith, h)))
    ∙ take-append-le p.count (drop p.from first) more (omega (arith, h, length-drop p.from first))

module _ (plan : Plan) (m : Moment) (spawn_results : List SpawnResult) (sought : List Whereabouts) (remembers : Memories) (s : Seen) (layer : ℕ) (before : List Task) (first fresh : List Outcome) (spans : List Span) where
  abbrev count : ℕ
  count = length plan.spec.streams

  abbrev now : Stage
  now = eval_stage count layer

  abbrev next : Stage
  next = layer_stage count (layer + 1)

  abbrev tasks : List Task
  tasks = layer_tasks plan m spawn_results sought s layer 0 plan.spec.streams

  abbrev after : Seen
  after = after_all s tasks fresh

  abbrev pub spans_after : List Span
  spans_after = layer_spans plan m spawn_results sought s layer (length before) 0 plan.spec.streams spans

  module _ (each : length before ≡ length first) (results : AreResults plan m remembers s tasks fresh) where
    abbrev SpanNow : ℕ → Stream → Span → Type 0
    SpanNow n x p = SpanOf plan m remembers s spawn_results sought layer n x (slice_get spans n) p (before ++ tasks) (first ++ fresh)

    pub span_of : (n : ℕ) (x : Stream) (p : Span) → slice_get plan.spec.streams n ≡ Some x → slice_get spans_after n ≡ Some p → SpanNow n x p
    span_of n x p e f =
        each_span plan m remembers s spawn_results sought layer 0 plan.spec.streams spans (length before) before (before ++ tasks) first fresh (first ++ fresh) refl refl refl each results n n x p (omega arith) e f

    module _ (ready : IsReadyFor plan now s before first spans) where
      keeps : Keeps s after
      keeps = keeps_given tasks fresh s

      abbrev IsSpanAfter : ℕ → Span → Type 0
      IsSpanAfter n p = IsSpan after (before ++ tasks) (first ++ fresh) n p

      of_kind : (n : ℕ) (os : List Outcome) → AreOutcomesOf (kind_in (slice_get s.layout.streams n)) os → AreOutcomesOf (kind_in (slice_get after.layout.streams n)) os
      of_kind n os h = subst (λ l. AreOutcomesOf (kind_in (slice_get l.streams n)) os) (sym keeps.layout) h

      -- as many instances live as did
      of_stream : (n : ℕ) (ts us : List Task) → us ≡ ts → AreOfStream n 0 (length (instances_seen s n)) ts → AreOfStream n 0 (length (instances_seen after n)) us
      of_stream n ts us e h =
          subst (λ k. AreOfStream n 0 k us) (sym (keeps.counts n)) (subst (λ vs. AreOfStream n 0 (length (instances_seen s n)) vs) (sym e) h)

      span_is : (n : ℕ) (x : Stream) (p : Span) → SpanNow n x p → IsSpanAfter n p
      span_is n x p (inl h) =
          let own = asked_of_stream (sought_at sought n) (eval_pacing (slice_get plan.pacings n)) m s n in
          let ts = asked_tasks plan m spawn_results sought s layer n in
          record {
            within = h.within;
            few = omega (arith, h.few, keeps.counts n);
            asked = of_stream n ts (asked_in (before ++ tasks) (Some p)) h.asked_are own;
            kinds = of_kind n _ (kinds_of_stream plan m remembers s n 0 (length (instances_seen s n)) ts (in_span (first ++ fresh) (Some p)) own h.results_are);
          }
      span_is n x p (inr h) =
          let old = ready.within n p h.same in
          record {
            within = omega (arith, old.within, length-append first fresh);
            few = omega (arith, old.few, keeps.counts n);
            asked = of_stream n (asked_in before (Some p)) (asked_in (before ++ tasks) (Some p)) (same_asked_in before tasks p (omega (arith, old.within, each))) old.asked;
            kinds = of_kind n _ (subst (λ os. AreOutcomesOf (kind_in (slice_get s.layout.streams n)) os) (sym (same_in_span first fresh p old.within)) old.kinds);
          }

      pub as_many_spans : length spans_after ≡ count
      as_many_spans = length_spans plan m spawn_results sought s layer 0 plan.spec.streams spans (length before) ∙ ready.each

      within_after : (n : ℕ) (p : Span) → slice_get spans_after n ≡ Some p → ((x : Stream) × (slice_get plan.spec.streams n ≡ Some x)) ⊎ (slice_get plan.spec.streams n ≡ None) → IsSpanAfter n p
      within_after n p e (inl h) = span_is n h.0 p (span_of n h.0 p h.1 e)
      within_after n p e (inr h) = absurd (no_stream plan.spec.streams n h (omega (arith, slice_get_within spans_after n p e, as_many_spans)))
        where
          no_stream : (xs : List Stream) (i : ℕ) → slice_get xs i ≡ None → i < length xs → ⊥
          no_stream [] i g l = omega (arith, l)
          no_stream (x ∷ xs) zero g l = absurd (cc)
          no_stream (x ∷ xs) (suc i) g l = no_stream xs i g (omega (arith, l))

      to_come_still : (n : ℕ) (x : Stream) → slice_get plan.spec.streams n ≡ Some x → is_evaluated plan.layers next n x ≡ false → (b : Bool) → is_evaluated plan.layers now n x ≡ b → is_evaluated plan.layers now n x ≡ false
      to_come_still n x e f false g = g
      to_come_still n x e f true g = absurd (let h = done_stays plan m spawn_results sought s layer n x (slice_get_within plan.spec.streams n x e) g in cc)

      empty_after : (n : ℕ) (x : Stream) (p : Span) → slice_get plan.spec.streams n ≡ Some x → is_evaluated plan.layers next n x ≡ false
          → SpanNow n x p → p.count ≡ 0
      empty_after n x p e f (inl h) =
          absurd (let g = run_is_done plan m spawn_results sought s layer n x (runs_so plan m spawn_results sought s layer n x h.runs) (slice_get_within plan.spec.streams n x e) in cc)
      empty_after n x p e f (inr h) = ready.empty n x p e (to_come_still n x e f (is_evaluated plan.layers now n x) refl) h.same

      inputs_after : (n : ℕ) (x : Stream) (p : Span) → slice_get plan.spec.streams n ≡ Some x → is_input x ≡ true
          → SpanNow n x p → p.count ≡ 0
      inputs_after n x p e f (inl h) = absurd (let g = (runs_so plan m spawn_results sought s layer n x h.runs).no_input in cc)
      inputs_after n x p e f (inr h) = ready.inputs n x p e f h.same

      pub ready_after : IsReadyFor plan next after (before ++ tasks) (first ++ fresh) spans_after
      ready_after = record {
        each = as_many_spans;
        within = λ n p e. within_after n p e (stream_or_none plan.spec.streams n);
        empty = λ n x p e f g. empty_after n x p e f (span_of n x p e g);
        inputs = λ n x p e f g. inputs_after n x p e f (span_of n x p e g);
      }

-- the room that is left
pub rooms_after : (plan : Plan) (m : Moment) (spawn_results : List SpawnResult) (sought : List Whereabouts) (s t : Seen) (layer : ℕ) (old_places new_places : Vec ℕ) (old_tasks new_tasks : Vec Task) (old new : Vec Outcome)
    → IsAt plan (eval_stage (length plan.spec.streams) layer) s → HasRooms plan (eval_stage (length plan.spec.streams) layer) s old_places old_tasks old → rooms t ≡ rooms s
    → vec_capacity new_places ≡ vec_capacity old_places → vec_capacity new_tasks ≡ vec_capacity old_tasks → vec_capacity new ≡ vec_capacity old
    → vec_len new_tasks ≡ vec_len old_tasks + length (layer_tasks plan m spawn_results sought s layer 0 plan.spec.streams)
    → vec_len new ≡ vec_len old + length (layer_tasks plan m spawn_results sought s layer 0 plan.spec.streams)
    → HasRooms plan (layer_stage (length plan.spec.streams) (layer + 1)) t new_places new_tasks new
rooms_after plan m spawn_results sought s t layer old_places new_places old_tasks new_tasks old new at h same p a b c d =
    let fits = layer_fits plan m spawn_results sought s layer 0 plan.spec.streams (rooms s) (omega arith) (all_rooms plan m spawn_results sought s layer at.of.streams) in
    let rest = ap (to_come plan.layers (layer_stage (length plan.spec.streams) (layer + 1)) 0 plan.spec.streams) same in
    record {
      each = omega (arith, h.each, c, d, new_tasks.ok.0, old_tasks.ok.0, new.ok.0, old.ok.0);
      places_room = omega (arith, h.places_room, p, ap total same);
      tasks_room = omega (arith, h.tasks_room, a, c, fits, rest);
      results_room = omega (arith, h.results_room, b, d, fits, rest);
    }
