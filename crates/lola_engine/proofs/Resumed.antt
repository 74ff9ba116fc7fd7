-- An engine that goes on where others left off.
use Rattle.std.proofs.Common.{◌≡◌, refl, ap, sym, subst, ◌∙◌, ℕ, ◌^◌, ◌≤◌, ◌⊎◌, inl, inr, List, [], ◌∷◌, ◌++◌, Option, Some, None, IsSome, is_some, Bool, true, false, nat_eq, if◌then◌else◌, length, append-nil, arith}
use Rattle.std.proofs.lemmas.Bool.{ne_eqb}
use Rattle.lola_value.specs.Naming.{IsNaming}
use Rattle.lola_model.specs.Acceptance.{IsAccepted}
use Rattle.lola_model.specs.Journal.{accepted, known_start, last_accepted, merged_from, opening_time}
use Rattle.lola_model.specs.Faults.{fault_of_last}
use Rattle.lola_model.specs.Model.{answered, last_row, made, model}
use Rattle.lola_model.specs.NextStep.{most_steps, next_settled}
use Rattle.lola_model.specs.Runs.{content_after, run_start, settled_fault, settled_model}
use Rattle.lola_model.specs.Standing.{StandsBetween}
use Rattle.lola_model.specs.Steps.{start_of}
use Rattle.lola_model.specs.Store.{Memories, New, Phase, Running, Seen, Started, time_seen, is_new}
use Rattle.lola_model.specs.Table.{Step, TableRow}
use Rattle.lola_model.specs.declared.journal.Entry.{Entry}
use Rattle.lola_model.specs.declared.journal.Row.{Row}
use Rattle.lola_model.specs.declared.journal.Show.{Show}
use Rattle.lola_model.specs.declared.plan.Plan.{Plan}
use Rattle.lola_model.proofs.Growing.{grown, is_ended, model_more, model_none}
use Rattle.lola_model.proofs.Orderly.{AreOfRows, answered_orderly, of_more_rows, of_no_rows}
use Rattle.lola_step_contents.specs.Ready.{HasTexts}
use Rattle.lola_step_contents.specs.Stages.{AreSettled}
use Rattle.lola_step_contents.proofs.Settled.{settled_at_none, stay_settled}
use Rattle.lola_step.specs.Progress.{IsOf, IsRun}
use Rattle.lola_text.specs.Texts.{Texts}
use Rattle.lola_engine.specs.Behind.{StandsBehind}
use Rattle.lola_engine.specs.Engines.{AreStarted, IsEngine, IsSound, IsUnderWay, IsWaiting}
use Rattle.lola_engine.specs.Going.{IsMade}
use Rattle.lola_engine.specs.Resuming.{HasReached, IsAtTimes, IsLeftAt, IsRestored, StandsAfter, going_on, last_or_start, steps_at, times_of}
use Rattle.lola_engine.specs.declared.engine.EngineState.{EngineState}
use Rattle.lola_engine.specs.declared.times.RunTimes.{RunTimes}
use Rattle.lola_engine.proofs.Joining.{none_or}
use Rattle.lola_engine.proofs.Longer.{own_steps}
use Rattle.lola_engine.proofs.Rows.{last_or, merged_is_last}
use Rattle.lola_engine.proofs.Rules.{steps_of}
use Rattle.lola_engine.proofs.Standings.{at_behind}
use Rattle.lola_engine.proofs.Tables.{one_by_one}

-- what holds of every engine holds of one that goes on

module _ (plan : Plan) (texts : Texts) (given_start : Option ℕ) (show : Show) (workers : ℕ) (e : EngineState) (made : IsMade plan texts given_start show workers e) (s : Seen) where
  going_sound : (start last : Option ℕ) (steps : ℕ) → IsOf plan s → IsAtTimes start last s.phase → s.steps ≡ steps_at last steps → IsSound (going_on start last steps e) s
  going_sound None None steps of at counted = record {
    accepted = made.sound.accepted;
    workers = made.sound.workers;
    rates = made.sound.rates;
    local = made.sound.local;
    of = subst (λ p. IsOf p s) (sym made.plan_is) of;
    started = subst (λ o. AreStarted s o) (sym made.clock.0) (ap is_new at);
    scratch = made.sound.scratch;
    table = made.sound.table;
    texts = made.sound.texts;
    counted = omega (arith, made.nothing.2, counted);
    few_lines = made.sound.few_lines;
  }
  going_sound None (Some last) steps of at counted = absurd at
  going_sound (Some start) None steps of at counted = record {
    accepted = made.sound.accepted;
    workers = made.sound.workers;
    rates = made.sound.rates;
    local = made.sound.local;
    of = subst (λ p. IsOf p s) (sym made.plan_is) of;
    started = subst (λ p. AreStarted (record s { phase = p }) (Some start)) (sym at) (refl, refl);
    scratch = made.sound.scratch;
    table = made.sound.table;
    texts = made.sound.texts;
    counted = omega (arith, made.nothing.2, counted);
    few_lines = made.sound.few_lines;
  }
  going_sound (Some start) (Some last) steps of at counted = record {
    accepted = made.sound.accepted;
    workers = made.sound.workers;
    rates = made.sound.rates;
    local = made.sound.local;
    of = subst (λ p. IsOf p s) (sym made.plan_is) of;
    started = subst (λ p. AreStarted (record s { phase = p }) (Some start)) (sym at) (refl, refl);
    scratch = made.sound.scratch;
    table = made.sound.table;
    texts = made.sound.texts;
    counted = omega (arith, made.nothing.2, counted);
    few_lines = made.sound.few_lines;
  }

  time_at : (p : Phase) → s.phase ≡ p → time_seen s ≡ elim p [ New ↦ 0 | Started a ↦ a | Running a t ↦ t ]
  time_at p q = ap (λ (r : Phase). elim r [ New ↦ 0 | Started a ↦ a | Running a t ↦ t ]) q

  given_is : e.texts.given ≡ texts.given
  given_is = ap (λ (t : Texts). t.given) made.texts_are

  going_engine : (start last : Option ℕ) (steps : ℕ) → IsOf plan s → IsAtTimes start last s.phase → s.steps ≡ steps_at last steps → steps ≤ 2 ^ 62 → texts.given ≤ 2 ^ 62 → IsEngine (going_on start last steps e) s
  going_engine None None steps of at counted most few = record {
    sound = going_sound None None steps of at counted;
    time = (let now = time_at New at in omega (arith, now));
    passed = λ a q. absurd (none_or e.clock.start a made.clock.0 q);
    merged = omega (arith, made.nothing.1);
    few_behind = most;
    few_rows = omega (arith, made.nothing.0);
    few_steps = omega (arith, counted);
    few_texts = omega (arith, given_is, few);
    few_swept = omega (arith, given_is, few, made.few_swept);
  }
  going_engine None (Some last) steps of at counted most few = absurd at
  going_engine (Some start) None steps of at counted most few =
      let now = time_at (Started start) at in
      record {
        sound = going_sound (Some start) None steps of at counted;
        time = omega (arith, now);
        passed = λ a q. let same : start ≡ a = cc in omega (arith, same);
        merged = omega (arith, now, of.in_time);
        few_behind = most;
        few_rows = omega (arith, made.nothing.0);
        few_steps = omega (arith, counted);
        few_texts = omega (arith, given_is, few);
        few_swept = omega (arith, given_is, few, made.few_swept);
      }
  going_engine (Some start) (Some last) steps of at counted most few =
      let now = time_at (Running start last) at in
      record {
        sound = going_sound (Some start) (Some last) steps of at counted;
        time = omega (arith, now);
        passed = λ a q. let same : start ≡ a = cc in omega (arith, same);
        merged = omega (arith, now, of.in_time);
        few_behind = most;
        few_rows = omega arith;
        few_steps = omega (arith, counted);
        few_texts = omega (arith, given_is, few);
        few_swept = omega (arith, given_is, few, made.few_swept);
      }

  pub resumed_engine : (times : RunTimes) → IsRestored plan times s → texts.given ≤ 2 ^ 62 → IsEngine (going_on times.start times.last times.steps e) s
  resumed_engine times h few = going_engine times.start times.last times.steps h.of h.phase h.steps h.few few

-- rows that may stand before a step: those of each model over steps

module _ (plan : Plan) (known : IsAccepted plan) where
  abbrev MayStand : List TableRow → Type 0
  MayStand rows = AreOfRows rows × AreSettled plan rows

  module _ (start : ℕ) where
    one_more : (ended : Bool) (rows : List TableRow) (x : Step) → MayStand rows → MayStand (grown ended rows (answered plan start rows x))
    one_more true rows x h = h
    one_more false rows x h = (of_more_rows rows (answered plan start rows x) (answered_orderly plan start rows x h.0), stay_settled plan known start rows x h.0 h.1)

    more_stand : (done more : List Step) → MayStand (model plan start done) → MayStand (model plan start (done ++ more))
    more_stand done [] h = subst (λ xs. MayStand (model plan start xs)) (sym (append-nil done)) h
    more_stand done (x ∷ more) h =
        subst (λ xs. MayStand (model plan start xs)) (sym (one_by_one done x more))
        (more_stand (done ++ x ∷ []) more (subst MayStand (sym (model_more plan start done x)) (one_more (is_ended (model plan start done)) (model plan start done) x h)))

    all_stand : (steps : List Step) → MayStand (model plan start steps)
    all_stand steps = more_stand [] steps (subst MayStand (sym (model_none plan start)) (of_no_rows, settled_at_none plan))

  settled_stand : (given_start : Option ℕ) (journal : List Entry) → MayStand (settled_model plan given_start journal)
  settled_stand given_start journal =
      subst MayStand (own_steps plan known given_start journal) (all_stand (run_start plan given_start journal) (steps_of (settled_model plan given_start journal)))

-- a run whose start is given where it was

one_start : (option : Option ℕ) (rows : List Row) (start : Option ℕ) → start ≡ known_start option rows → start_of start rows ≡ start_of option rows
one_start (Some t) rows start e = ap (λ o. start_of o rows) e
one_start None [] start e = ap (λ o. start_of o []) e
one_start None (r ∷ rows) start e = ap (λ o. start_of o (r ∷ rows)) e

module _ (plan : Plan) (start option : Option ℕ) (journal : List Entry) (same : run_start plan start journal ≡ run_start plan option journal) where
  same_settled : settled_model plan start journal ≡ settled_model plan option journal
  unfolding settled_model
  same_settled = ap (λ z. made plan z (next_settled plan z (accepted journal)) (most_steps 0 0 (accepted journal)) []) same

  same_fault : settled_fault plan start journal ≡ settled_fault plan option journal
  unfolding settled_fault
  same_fault = ap (λ t. fault_of_last (last_row t)) same_settled

-- the last stamp

stamp_behind : (row : Row) (rows : List Row) → last_accepted (row ∷ rows) ≡ Some (last_or row.stamp rows)
stamp_behind row [] = refl
stamp_behind row (r ∷ rows) = stamp_behind r rows

none_last : (rows : List Row) → None ≡ last_accepted rows → rows ≡ []
none_last [] e = refl
none_last (r ∷ rows) e = let k = stamp_behind r rows in absurd (cc)

some_last : (m : ℕ) (rows : List Row) (last : ℕ) → Some last ≡ last_accepted rows → (last ≡ last_or m rows) × (1 ≤ length rows)
some_last m [] last e = absurd (cc)
some_last m (r ∷ rows) last e = let k = stamp_behind r rows in let same : last ≡ last_or r.stamp rows = cc in (same, omega arith)

-- it stands for the journal

module _ (e : EngineState) (known : IsAccepted e.plan) (naming : IsNaming e.texts.held) (texts : HasTexts e.texts.held e.plan.spec.texts)
    (going : e.ended ≡ None) (waits : e.clock.start ≡ None) (no_rows : e.rows ≡ 0) (no_time : e.merged ≡ 0) (no_steps : e.steps ≡ 0) (no_lines : e.lines ≡ 0)
    (s : Seen) (m : Memories) (option : Option ℕ) (journal : List Entry) (fine : settled_fault e.plan option journal ≡ None) where
  module _ (start : Option ℕ) (given : e.given_start ≡ start) (at : start ≡ known_start option (accepted journal)) where
    same_start : run_start e.plan e.given_start journal ≡ run_start e.plan option journal
    same_start = one_start option (accepted journal) e.given_start (given ∙ at)

    same_table : settled_model e.plan e.given_start journal ≡ settled_model e.plan option journal
    same_table = same_settled e.plan e.given_start option journal same_start

    fine_then : settled_fault e.plan e.given_start journal ≡ None
    fine_then = same_fault e.plan e.given_start option journal same_start ∙ fine

    merged_then : merged_from (opening_time e.given_start) journal ≡ last_or (opening_time start) (accepted journal)
    merged_then = merged_is_last (opening_time e.given_start) journal ∙ ap (λ o. last_or (opening_time o) (accepted journal)) given

    run_then : IsRun e.plan e.texts.held (settled_model e.plan e.given_start journal)
    run_then = let may = settled_stand e.plan known e.given_start journal in record { naming = naming; texts = texts; of_rows = may.0; settled = may.1 }

    steps_then : (steps : ℕ) → steps ≡ length (settled_model e.plan option journal) → steps ≡ length (settled_model e.plan e.given_start journal)
    steps_then steps is = is ∙ ap length (sym same_table)

  module _ (start : ℕ) (given : e.given_start ≡ Some start) (at : Some start ≡ known_start option (accepted journal)) where
    start_then : run_start e.plan e.given_start journal ≡ start
    start_then = ap (λ o. start_of o (accepted journal)) given

    stands_then : StandsBetween e.texts.held m s (content_after e.plan start (settled_model e.plan option journal))
        → StandsBetween e.texts.held m s (content_after e.plan (run_start e.plan e.given_start journal) (settled_model e.plan e.given_start journal))
    stands_then h =
        subst (λ z. StandsBetween e.texts.held m s (content_after e.plan z (settled_model e.plan e.given_start journal))) (sym start_then)
        (subst (λ t. StandsBetween e.texts.held m s (content_after e.plan start t)) (sym (same_table (Some start) given at)) h)

  going_stands : (start last : Option ℕ) (steps : ℕ) → IsAtTimes start last s.phase → e.given_start ≡ start → start ≡ known_start option (accepted journal) → last ≡ last_accepted (accepted journal)
      → steps ≡ length (settled_model e.plan option journal) → StandsAfter e.plan e.texts.held m s start option journal → StandsBehind (going_on start last steps e) s m journal journal
  going_stands None None steps phase given at last counted stands =
      let none = none_last (accepted journal) last in
      let empty : length (accepted journal) ≡ 0 = ap length none in
      let behind = steps_then None given at steps counted in
      record {
        since = [];
        split = sym (append-nil journal);
        going = going;
        fine = fine_then None given at;
        merged = no_time ∙ sym (merged_then None given at ∙ ap (λ rs. last_or 0 rs) none);
        behind = behind;
        steps = omega (arith, behind, no_steps);
        lines = omega (arith, no_lines);
        rows = omega (arith, empty, no_rows);
        state = inl (record { without = given; none = none; new = stands.0; past = stands.1; clock = waits });
      }
  going_stands None (Some last) steps phase given at stamp counted stands = absurd phase
  going_stands (Some start) None steps phase given at last counted stands =
      let none = none_last (accepted journal) last in
      let empty : length (accepted journal) ≡ 0 = ap length none in
      let behind = steps_then (Some start) given at steps counted in
      let here = start_then start given at in
      record {
        since = [];
        split = sym (append-nil journal);
        going = going;
        fine = fine_then (Some start) given at;
        merged = sym (merged_then (Some start) given at ∙ ap (λ rs. last_or start rs) none);
        behind = behind;
        steps = omega (arith, behind, no_steps);
        lines = omega (arith, no_lines);
        rows = omega (arith, empty, no_rows);
        state = inr (record {
          begun = λ q. ap is_some given;
          run = run_then (Some start) given at;
          stands = stands_then start given at stands;
          clock = ap Some (sym here);
          passed = omega (arith, here);
        });
      }
  going_stands (Some start) (Some last) steps phase given at stamp counted stands =
      let is = some_last start (accepted journal) last stamp in
      let behind = steps_then (Some start) given at steps counted in
      let here = start_then start given at in
      record {
        since = [];
        split = sym (append-nil journal);
        going = going;
        fine = fine_then (Some start) given at;
        merged = is.0 ∙ sym (merged_then (Some start) given at);
        behind = behind;
        steps = omega (arith, behind, no_steps);
        lines = omega (arith, no_lines);
        rows = omega (arith, is.1);
        state = inr (record {
          begun = λ q. ap is_some given;
          run = run_then (Some start) given at;
          stands = stands_then start given at stands;
          clock = ap Some (sym here);
          passed = omega (arith, here);
        });
      }

pub resumed_stands : (plan : Plan) (texts : Texts) (show : Show) (workers : ℕ) (times : RunTimes) (e : EngineState) (s : Seen) (m : Memories) → IsMade plan texts times.start show workers e → IsRestored plan times s
    → (option : Option ℕ) (journal : List Entry) → IsLeftAt plan texts.held m s times option journal → StandsBehind (going_on times.start times.last times.steps e) s m journal journal
resumed_stands plan texts show workers times e s m made restored option journal left =
    let back = sym made.plan_is in
    going_stands e made.sound.accepted made.sound.table.naming made.sound.texts made.nothing.4 made.clock.0 made.nothing.0 made.nothing.1 made.nothing.2 made.nothing.3 s m option journal
    (subst (λ (p : Plan). settled_fault p option journal ≡ None) back left.fine)
    times.start times.last times.steps restored.phase made.given_start_is left.reached.start left.reached.last
    (left.reached.steps ∙ ap (λ (p : Plan). length (settled_model p option journal)) back)
    (subst (λ (p : Plan). StandsAfter p e.texts.held m s times.start option journal) back
    (subst (λ (t : Texts). StandsAfter plan t.held m s times.start option journal) (sym made.texts_are) left.stands))

-- what an engine tells of how far it has come

known_is : (given_start : Option ℕ) (rows : List Row) → (rows ≡ [] → IsSome given_start) → Some (start_of given_start rows) ≡ known_start given_start rows
known_is (Some t) rows begun = refl
known_is None [] begun = let some = begun refl in absurd (cc)
known_is None (r ∷ rows) begun = refl

module _ (e : EngineState) (s : Seen) (m : Memories) (before journal : List Entry) (h : StandsBehind e s m before journal) where
  told_start : IsWaiting e s m journal ⊎ IsUnderWay e s m journal → e.clock.start ≡ known_start e.given_start (accepted journal)
  told_start (inl w) = w.clock ∙ sym (ap (λ o. known_start o (accepted journal)) w.without ∙ ap (known_start None) w.none)
  told_start (inr u) = u.clock ∙ known_is e.given_start (accepted journal) u.begun

  told_last : (rows : List Row) → accepted journal ≡ rows → (if nat_eq e.rows 0 then None else Some e.merged) ≡ last_accepted rows
  told_last [] is = let none : e.rows ≡ 0 = (at_behind e s m before journal h).some is in rw none refl
  told_last (r ∷ rows) is =
      let some : e.rows ≡ 0 → ⊥ = λ q. let none = (at_behind e s m before journal h).none q in let k = sym none ∙ is in cc in
      let merged : e.merged ≡ last_or r.stamp rows = h.merged ∙ (merged_is_last (opening_time e.given_start) journal ∙ ap (last_or (opening_time e.given_start)) is) in
      ap (λ b. if b then None else Some e.merged) (ne_eqb e.rows 0 some) ∙ (ap Some merged ∙ sym (stamp_behind r rows))

  pub has_reached : HasReached e.plan e.given_start journal (times_of e)
  has_reached = record { start = told_start h.state; last = told_last (accepted journal) refl; steps = h.steps }

-- of rows it has counted one at most, the last one of those that ran before
pub few_rows : (start last : Option ℕ) (steps : ℕ) (e : EngineState) → e.rows ≡ 0 → (going_on start last steps e).rows ≤ 1
few_rows None last steps e none = omega (arith, none)
few_rows (Some start) None steps e none = omega (arith, none)
few_rows (Some start) (Some last) steps e none = omega arith

-- it has merged up to the last row of those that ran before, or up to the start where there was none
pub merged_so_far : (start last : Option ℕ) (steps : ℕ) (e : EngineState) (phase : Phase) → e.merged ≡ 0 → IsAtTimes start last phase
    → (going_on start last steps e).merged ≡ opening_time (last_or_start last start)
merged_so_far None None steps e phase none at = none
merged_so_far None (Some last) steps e phase none at = absurd at
merged_so_far (Some start) None steps e phase none at = refl
merged_so_far (Some start) (Some last) steps e phase none at = refl
