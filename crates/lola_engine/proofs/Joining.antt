-- From the steps of a row to the journal with the row, and from the last steps to the end.
use Rattle.std.proofs.Common.{◌≡◌, refl, ap, sym, subst, ◌∙◌, ℕ, ◌+◌, ◌-◌, ◌<◌, ◌≤◌, ◌⊎◌, inl, inr, List, [], ◌∷◌, ◌++◌, Option, Some, None, false, Result, Ok, Err, max, length, append-nil, length-append, arith}
use Rattle.std.proofs.lemmas.Bool.{le-ltb, lt-ltb}
use Rattle.lola_value.specs.Naming.{Naming, IsNaming}
use Rattle.lola_model.specs.Acceptance.{IsAccepted}
use Rattle.lola_model.specs.Content.{Content}
use Rattle.lola_model.specs.Faults.{RowFault, RunFault, at_time, fault_of_last, row_fault}
use Rattle.lola_model.specs.Journal.{accepted, opening_time}
use Rattle.lola_model.specs.Model.{Next, answered, last_row, made, model}
use Rattle.lola_model.specs.NextStep.{after_last, below_or, due, most_steps, next_settled, next_step}
use Rattle.lola_model.specs.Runs.{content_after, final_lines, first_fault, run_start, settled_fault, settled_lines, settled_model, whole_model}
use Rattle.lola_model.specs.Standing.{StandsBetween}
use Rattle.lola_model.specs.Steps.{deadline_step, start_of}
use Rattle.lola_model.specs.Store.{Memories, Seen, instances_seen, layout_of, new_seen, start_seen}
use Rattle.lola_model.specs.Table.{Step, TableRow}
use Rattle.lola_model.specs.Texts.{table_lines, text_of}
use Rattle.lola_model.specs.declared.journal.Entry.{Entry}
use Rattle.lola_model.specs.declared.journal.Row.{Row}
use Rattle.lola_model.specs.declared.plan.Plan.{Plan}
use Rattle.lola_model.proofs.Growing.{is_ended, model_none}
use Rattle.lola_model.proofs.Growth.{last_row-append}
use Rattle.lola_model.proofs.Journals.{accepted-append_accepted, merged_from-append_accepted, table_lines-append, table_lines-append_one}
use Rattle.lola_model.proofs.Orderly.{of_no_rows}
use Rattle.lola_step_contents.specs.Ready.{HasTexts}
use Rattle.lola_step_contents.proofs.Settled.{settled_at_none}
use Rattle.lola_step.specs.Progress.{IsRun}
use Rattle.lola_engine.specs.Engines.{AreStarted, Brings, Completes, CutsOut, CutsRow, FaultAtEnd, IsEngine, IsUnderWay, IsWaiting, accepted_entry}
use Rattle.lola_engine.specs.Going.{Add, CutsOn, FaultInSteps, Goes, GoesBy, HasKept, HasRun, IsOpenBehind, RunsOn, Tally, lines_after, tally_of}
use Rattle.lola_engine.specs.Rules.{Come, TellsDue, deadlines_below, due_told}
use Rattle.lola_engine.specs.declared.engine.EngineState.{EngineState}
use Rattle.lola_engine.specs.declared.end.EngineEnd.{EngineEnd}
use Rattle.lola_engine.specs.declared.end.EngineEnd.TheVariants.{Fault, Memory}
use Rattle.lola_engine.proofs.Longer.{after_last_is, goes_longer, own_steps, settled_front, settled_taken, whole_has_one, whole_is_settled}
use Rattle.lola_engine.proofs.Rows.{merged_is_last, opening_is_start, start_stays}
use Rattle.lola_engine.proofs.Rules.{comes_to, steps_of}
use Rattle.lola_engine.proofs.Standings.{AcceptsBoth, EndsOut, EndsRow, FinishesBoth, IsAt, RunsOutAt, RunsRowAt, both_end, both_end_out, both_run, both_run_out, nothing_of}
use Rattle.lola_engine.proofs.Tables.{faulty_lines, fine_goes_on}
use Rattle.lola_engine.proofs.Tables as tables
use Rattle.lola_engine.proofs.Told.{told_due, told_open}

-- one of two that an option has
pub some_is : {A : Type 0} (o : Option A) (a b : A) → o ≡ Some a → o ≡ Some b → a ≡ b
some_is None a b h k = absurd (cc)
some_is (Some x) a b h k = cc

pub none_or : {A : Type 0} (o : Option A) (a : A) → o ≡ None → o ≡ Some a → ⊥
none_or None a h k = cc
none_or (Some x) a h k = cc

-- a state with the plan, the given start and what is shown of another
pub same_state : (d e : EngineState) → d.plan ≡ e.plan → d.given_start ≡ e.given_start → d.show ≡ e.show → record d { plan = e.plan; given_start = e.given_start; show = e.show } ≡ d
same_state d e plan given_start show =
    ap (λ p. record d { plan = p; given_start = e.given_start; show = e.show }) (sym plan)
    ∙ (ap (λ o. record d { plan = d.plan; given_start = o; show = e.show }) (sym given_start)
    ∙ ap (λ w. record d { plan = d.plan; given_start = d.given_start; show = w }) (sym show))

-- the same run through a larger naming, and by the store as it is then
pub has_renamed : (t : Tally) (start : ℕ) (steps : List Step) (m : Memories) (s : Seen) (names : Naming) (m2 : Memories) (s2 : Seen) → HasRun t start steps m s
    → IsNaming names → HasTexts names t.plan.spec.texts → ((c : Content) → StandsBetween t.names m s c → StandsBetween names m2 s2 c)
    → HasRun (record t { names = names }) start steps m2 s2
has_renamed t start steps m s names m2 s2 h naming texts stands = record {
  fine = h.fine;
  run = record { naming = naming; texts = texts; of_rows = h.run.of_rows; settled = h.run.settled };
  stands = stands (content_after t.plan start (model t.plan start steps)) h.stands;
}

-- without a row nothing is made
nothing_settled : (plan : Plan) (given_start : Option ℕ) (journal : List Entry) → accepted journal ≡ [] → settled_model plan given_start journal ≡ []
unfolding settled_model
nothing_settled plan given_start journal none =
    ap (λ rows. made plan (start_of given_start rows) (next_settled plan (start_of given_start rows) rows) (most_steps 0 0 rows) []) none

nothing_whole : (plan : Plan) (given_start : Option ℕ) (journal : List Entry) → accepted journal ≡ [] → whole_model plan given_start journal ≡ settled_model plan given_start journal
unfolding settled_model whole_model
nothing_whole plan given_start journal none =
    ap (λ rows. made plan (start_of given_start rows) (next_step plan (start_of given_start rows) rows) (most_steps (after_last rows) 0 rows) []) none
    ∙ sym (ap (λ rows. made plan (start_of given_start rows) (next_settled plan (start_of given_start rows) rows) (most_steps 0 0 rows) []) none)

-- an engine that has started has not started behind its merged time
pub start_low : (e : EngineState) (s : Seen) (start : ℕ) → IsEngine e s → e.clock.start ≡ Some start → start ≤ e.merged
start_low e s start engine at =
    let same : start_seen s ≡ start = (subst (λ o. AreStarted s o) at engine.sound.started).1 in
    omega (arith, same, engine.sound.of.order, engine.time)

module _ (e : EngineState) (known : IsAccepted e.plan) (s : Seen) (m : Memories) (journal : List Entry) (h : IsAt e s m journal) where
  -- the steps that were run
  abbrev pub past : List Step
  past = steps_of (settled_model e.plan e.given_start journal)

  fine_is : fault_of_last (last_row (settled_model e.plan e.given_start journal)) ≡ None
  unfolding settled_fault
  fine_is = h.fine

  not_ended : is_ended (settled_model e.plan e.given_start journal) ≡ false
  not_ended = fine_goes_on (settled_model e.plan e.given_start journal) fine_is

  pub model_is : (start : ℕ) → start_of e.given_start (accepted journal) ≡ start → model e.plan start past ≡ settled_model e.plan e.given_start journal
  model_is start here = ap (λ z. model e.plan z past) (sym here) ∙ own_steps e.plan known e.given_start journal

  -- an engine that is under way has run the steps
  pub has_run : IsUnderWay e s m journal → (start : ℕ) → start_of e.given_start (accepted journal) ≡ start → HasRun (tally_of e) start past m s
  has_run u start here =
      let same : settled_model e.plan e.given_start journal ≡ model e.plan start past = sym (model_is start here) in
      record {
        fine = ap (λ t. fault_of_last (last_row t)) (sym same) ∙ fine_is;
        run = subst (λ t. IsRun e.plan e.texts.held t) same u.run;
        stands = subst (λ t. StandsBetween e.texts.held m s (content_after e.plan start t)) same
            (subst (λ z. StandsBetween e.texts.held m s (content_after e.plan z (settled_model e.plan e.given_start journal))) here u.stands);
      }

  -- the deadlines that are open are those from the merged time on, and all rows are taken
  pub open_behind : IsUnderWay e s m journal → (start : ℕ) → start_of e.given_start (accepted journal) ≡ start → IsOpenBehind start e.merged (accepted journal) (settled_model e.plan e.given_start journal)
  open_behind u start here =
      let all = settled_taken e.plan known e.given_start journal not_ended in (
        h.merged ∙ (merged_is_last (opening_time e.given_start) journal ∙ all.opens (opening_time e.given_start) start (λ q. opening_is_start e.given_start (accepted journal) u.begun q ∙ here)),
        all.taken,
      )

  -- a waiting engine has run none
  waiting_model : IsWaiting e s m journal → settled_model e.plan e.given_start journal ≡ []
  waiting_model w = nothing_settled e.plan e.given_start journal w.none

  waiting_steps : IsWaiting e s m journal → past ≡ []
  waiting_steps w = ap steps_of (waiting_model w)

  -- with one row more the settled model goes on
  module _ (row : Row) where
    abbrev pub longer : List Entry
    longer = journal ++ accepted_entry row ∷ []

    pub rows_are : accepted longer ≡ accepted journal ++ row ∷ []
    rows_are = accepted-append_accepted journal (accepted_entry row) refl

    front_by : IsWaiting e s m journal ⊎ IsUnderWay e s m journal → (more : List TableRow) × (settled_model e.plan e.given_start longer ≡ settled_model e.plan e.given_start journal ++ more)
    front_by (inl w) = (settled_model e.plan e.given_start longer, ap (λ (t : List TableRow). t ++ settled_model e.plan e.given_start longer) (sym (waiting_model w)))
    front_by (inr u) =
        settled_front e.plan known e.given_start journal longer row (start_of e.given_start (accepted journal)) rows_are refl (ap (start_of e.given_start) rows_are ∙ start_stays e.given_start (accepted journal) row u.begun)

    pub front : (more : List TableRow) × (settled_model e.plan e.given_start longer ≡ settled_model e.plan e.given_start journal ++ more)
    front = front_by h.state

-- what a row brings to an engine that stands for a journal
pub record Begins (e : EngineState) (names : Naming) (row : Row) (start from : ℕ) (m : Memories) (s : Seen) (journal : List Entry) : Type 0 where
  pub start_is : start_of e.given_start (accepted journal ++ row ∷ []) ≡ start
  pub model_is : model e.plan start (steps_of (settled_model e.plan e.given_start journal)) ≡ settled_model e.plan e.given_start journal
  pub has : HasRun (record { plan = e.plan; show = e.show; names = names; steps = e.steps; lines = e.lines }) start (steps_of (settled_model e.plan e.given_start journal)) m s
  pub opens : IsOpenBehind start from (accepted journal) (model e.plan start (steps_of (settled_model e.plan e.given_start journal)))

module _ (e : EngineState) (s : Seen) (m : Memories) (row : Row) (names : Naming) (start from : ℕ) (m2 : Memories) (s2 : Seen)
    (engine : IsEngine e s) (order : e.merged ≤ row.stamp) (naming : IsNaming names) (texts : HasTexts names e.plan.spec.texts) (from_is : from ≡ max e.merged start) where
  module _ (journal : List Entry) (h : IsAt e s m journal) where
    -- where it was under way
    begins_under_way : IsUnderWay e s m journal → e.clock.start ≡ Some start → ((c : Content) → StandsBetween e.texts.held m s c → StandsBetween names m2 s2 c) → Begins e names row start from m2 s2 journal
    begins_under_way u at stands =
        let known = engine.sound.accepted in
        let here : start_of e.given_start (accepted journal) ≡ start = some_is e.clock.start _ _ u.clock at in
        let same = model_is e known s m journal h start here in
        let merged : from ≡ e.merged = omega (arith, from_is, start_low e s start engine at) in
        record {
          start_is = start_stays e.given_start (accepted journal) row u.begun ∙ here;
          model_is = same;
          has = has_renamed (tally_of e) start (past e known s m journal h) m s names m2 s2 (has_run e known s m journal h u start here) naming texts stands;
          opens = subst (λ t. IsOpenBehind start from (accepted journal) t) (sym same) (subst (λ n. IsOpenBehind start n (accepted journal) (settled_model e.plan e.given_start journal)) (sym merged) (open_behind e known s m journal h u start here));
        }

    -- where it waited
    begins_waiting : IsWaiting e s m journal → start ≡ row.stamp → StandsBetween names m2 s2 (content_after e.plan row.stamp []) → Begins e names row start from m2 s2 journal
    begins_waiting w at stands =
        let known = engine.sound.accepted in
        let none = waiting_steps e known s m journal h w in
        let empty : model e.plan start (past e known s m journal h) ≡ [] = ap (model e.plan start) none ∙ model_none e.plan start in
        let first : from ≡ start = omega (arith, from_is, at, order) in
        record {
          start_is = ap (λ rs. start_of e.given_start (rs ++ row ∷ [])) w.none ∙ (ap (λ o. start_of o (row ∷ [])) w.without ∙ sym at);
          model_is = empty ∙ sym (waiting_model e known s m journal h w);
          has = record {
            fine = ap (λ t. fault_of_last (last_row t)) empty;
            run = subst (λ t. IsRun e.plan names t) (sym empty) (record { naming = naming; texts = texts; of_rows = of_no_rows; settled = settled_at_none e.plan });
            stands = subst (λ t. StandsBetween names m2 s2 (content_after e.plan start t)) (sym empty) (subst (λ z. StandsBetween names m2 s2 (content_after e.plan z [])) (sym at) stands);
          };
          opens = subst (λ t. IsOpenBehind start from (accepted journal) t) (sym empty) (first, ap length (sym w.none));
        }

  -- whichever it is
  module _ (going : (a : ℕ) → e.clock.start ≡ Some a → (start ≡ a) × ((c : Content) → StandsBetween e.texts.held m s c → StandsBetween names m2 s2 c))
      (first : e.clock.start ≡ None → start ≡ row.stamp)
      (fresh : e.clock.start ≡ None → s ≡ new_seen (layout_of e.plan) → ((z : Naming) (n i : ℕ) → i < length (instances_seen s n) → m z n i []) → StandsBetween names m2 s2 (content_after e.plan row.stamp [])) where
    begins_by : (journal : List Entry) → IsAt e s m journal → IsWaiting e s m journal ⊎ IsUnderWay e s m journal → Begins e names row start from m2 s2 journal
    begins_by journal h (inl w) = begins_waiting journal h w (first w.clock) (fresh w.clock w.new w.past)
    begins_by journal h (inr u) = let k = going _ u.clock in begins_under_way journal h u (u.clock ∙ ap (λ a. Some a) (sym k.0)) k.1

    pub begins : (journal : List Entry) → IsAt e s m journal → Begins e names row start from m2 s2 journal
    begins journal h = begins_by journal h h.state

-- the journal with the row
module _ (e : EngineState) (known : IsAccepted e.plan) (s : Seen) (m : Memories) (row : Row) (names : Naming) (start from : ℕ) (m2 : Memories) (s2 : Seen)
    (begin : (journal : List Entry) → IsAt e s m journal → Begins e names row start from m2 s2 journal) where
  abbrev before : Tally
  before = record { plan = e.plan; show = e.show; names = names; steps = e.steps; lines = e.lines }

  abbrev rule : List Entry → Next
  rule journal = next_settled e.plan start (accepted journal ++ row ∷ [])

  abbrev with_row : List Entry → List Entry
  with_row journal = journal ++ accepted_entry row ∷ []

  abbrev ran : List Entry → List Step
  ran journal = steps_of (settled_model e.plan e.given_start journal)

  module _ (journal : List Entry) (h : IsAt e s m journal) where
    b : Begins e names row start from m2 s2 journal
    b = begin journal h

    start_longer : run_start e.plan e.given_start (with_row journal) ≡ start
    start_longer = ap (start_of e.given_start) (rows_are e known s m journal h row) ∙ b.start_is

    -- the steps that come by its rule, and others, are those of its settled model
    reach : (more : List Step) → Come e.plan start (rule journal) (ran journal) more
        → (later : List Step) × (settled_model e.plan e.given_start (with_row journal) ≡ model e.plan start (ran journal ++ (more ++ later))) × (rule journal (model e.plan start (ran journal ++ more)) ≡ None → later ≡ [])
    reach more come =
        let f = front e known s m journal h row in
        let fine : is_ended (model e.plan start (ran journal)) ≡ false = fine_goes_on (model e.plan start (ran journal)) b.has.fine in
        let split : settled_model e.plan e.given_start (with_row journal) ≡ model e.plan start (ran journal) ++ f.0 = f.1 ∙ ap (λ (t : List TableRow). t ++ f.0) (sym b.model_is) in
        let g = goes_longer e.plan known e.given_start (with_row journal) (accepted journal) row start (model e.plan start (ran journal)) f.0 (rows_are e known s m journal h row) start_longer fine split in
        let w = comes_to e.plan start (rule journal) known.acyclic (ran journal) more g.rest come fine g.goes in
        (w.0, g.split ∙ sym w.1, w.2)

    brings : (more : List Step) (lines : List (List ℕ)) → settled_model e.plan e.given_start (with_row journal) ≡ model e.plan start (ran journal ++ more) → Add before start (ran journal) more lines
        → Brings e journal (accepted_entry row) lines
    unfolding settled_lines
    brings more lines is add =
        ap (table_lines e.show e.plan.spec.streams) is
        ∙ (add ∙ ap (λ t. table_lines e.show e.plan.spec.streams t ++ lines) b.model_is)

    fault_is : (more : List Step) (o : Option RunFault) → settled_model e.plan e.given_start (with_row journal) ≡ model e.plan start (ran journal ++ more)
        → fault_of_last (last_row (model e.plan start (ran journal ++ more))) ≡ o → settled_fault e.plan e.given_start (with_row journal) ≡ o
    unfolding settled_fault
    fault_is more o is k = ap (λ t. fault_of_last (last_row t)) is ∙ k

  module _ (x0 x1 : List ℕ) where
    -- a step ended the run
    ends_row : (end : EngineEnd) (t : Tally) (m' : Memories) (s' : Seen)
        → ((journal : List Entry) → GoesBy (Err end) start (IsOpenBehind start from (accepted journal)) (rule journal) before m2 s2 t m' s' x0 x1)
        → (journal : List Entry) → IsAt e s m journal → EndsRow end row journal e x0 x1
    ends_row (Fault stream kind time) t m' s' goes journal h =
        let b = begin journal h in
        let g = goes journal (ran journal) b.has b.opens in
        let w = reach journal h g.more g.come in
        let f = g.ends w.0 in
        record {
          is_fault = fault_is journal h (g.more ++ w.0) _ w.1 f.is_fault;
          lines = f.lines;
          brings = brings journal h (g.more ++ w.0) f.lines w.1 f.add;
          text = f.text;
        }
    ends_row Memory t m' s' goes journal h =
        let b = begin journal h in
        let g = goes journal (ran journal) b.has b.opens in
        let w = reach journal h g.more g.come in
        let f = g.ends w.0 in
        record {
          lines = f.lines;
          brings = brings journal h (g.more ++ w.0) f.lines w.1 f.add;
          part = f.part;
          rest = f.rest;
          joined = f.joined;
          text = f.text;
        }

    pub accepts_no_more : (end : EngineEnd) (t : Tally) (m' : Memories) (s' : Seen)
        → ((journal : List Entry) → GoesBy (Err end) start (IsOpenBehind start from (accepted journal)) (rule journal) before m2 s2 t m' s' x0 x1)
        → (new : EngineState) (s3 : Seen) (m3 : Memories) → AcceptsBoth row e s m new s3 m3 x0 x1 (Err end)
    accepts_no_more end t m' s' goes new s3 m3 = both_end row e s m new s3 m3 x0 x1 end (ends_row end t m' s' goes)

    -- all is run
    module _ (new : EngineState) (s' : Seen) (m' : Memories) (goes : (journal : List Entry) → GoesBy (Ok tt) start (IsOpenBehind start from (accepted journal)) (rule journal) before m2 s2 (tally_of new) m' s' x0 x1)
        (plan : new.plan ≡ e.plan) (given_start : new.given_start ≡ e.given_start) (show : new.show ≡ e.show) (ended : new.ended ≡ e.ended)
        (behind : new.behind ≡ e.behind) (rows : new.rows ≡ e.rows + 1) (merged : new.merged ≡ row.stamp) (at : new.clock.start ≡ Some start) (passed : new.clock.passed ≡ max start (row.stamp - 1)) where
      abbrev told : EngineState
      told = record new { plan = e.plan; given_start = e.given_start; show = e.show }

      is_told : told ≡ new
      is_told = same_state new e plan given_start show

      module _ (journal : List Entry) (h : IsAt e s m journal) where
        all_run : (more : List Step) × (settled_model e.plan e.given_start (with_row journal) ≡ model e.plan start (ran journal ++ more)) × RunsOn start (ran journal) more before (tally_of told) m' s' x0 x1
        all_run =
            let b = begin journal h in
            let g = goes journal (ran journal) b.has b.opens in
            let w = reach journal h g.more g.come in (
              g.more,
              w.1 ∙ ap (λ ss. model e.plan start (ran journal ++ ss)) (ap (λ ss. g.more ++ ss) (w.2 g.over) ∙ append-nil g.more),
              subst (λ d. RunsOn start (ran journal) g.more before (tally_of d) m' s' x0 x1) (sym is_told) g.runs,
            )

        abbrev more : List Step
        more = all_run.0

        settled_is : settled_model e.plan e.given_start (with_row journal) ≡ model e.plan start (ran journal ++ more)
        settled_is = all_run.1

        has : HasRun (tally_of told) start (ran journal ++ more) m' s'
        has = all_run.2.has

        fine_longer : settled_fault e.plan e.given_start (with_row journal) ≡ None
        unfolding settled_fault
        fine_longer = ap (λ t. fault_of_last (last_row t)) settled_is ∙ has.fine

        some_row : accepted (with_row journal) ≡ [] → ⊥
        some_row k = not_none (accepted journal) (sym (rows_are e known s m journal h row) ∙ k)
          where
            not_none : (rs : List Row) → rs ++ row ∷ [] ≡ [] → ⊥
            not_none [] q = cc
            not_none (r ∷ rs) q = cc

        under_way : IsUnderWay told s' m' (with_row journal)
        under_way =
            let same = sym settled_is in
            record {
              begun = λ k. absurd (some_row k);
              run = subst (λ t. IsRun e.plan new.texts.held t) same has.run;
              stands = subst (λ z. StandsBetween new.texts.held m' s' (content_after e.plan z (settled_model e.plan e.given_start (with_row journal)))) (sym (start_longer journal h))
                  (subst (λ t. StandsBetween new.texts.held m' s' (content_after e.plan start t)) same has.stands);
              clock = at ∙ ap (λ z. Some z) (sym (start_longer journal h));
              passed = omega (arith, passed, merged, start_longer journal h);
            }

        at_longer : IsAt told s' m' (with_row journal)
        at_longer = record {
          going = ended ∙ h.going;
          fine = fine_longer;
          merged = merged ∙ sym (merged_from-append_accepted (opening_time e.given_start) journal (accepted_entry row) refl);
          none = λ q. absurd (omega (arith, rows, q));
          some = λ k. absurd (some_row k);
          state = inr under_way;
        }

        runs_row : (lines : List (List ℕ)) → Add before start (ran journal) more lines → Brings e journal (accepted_entry row) lines
        runs_row lines add = brings journal h more lines settled_is add

        steps_longer : new.steps + length (settled_model e.plan e.given_start journal) ≡ e.steps + length (settled_model e.plan e.given_start (with_row journal))
        steps_longer =
            let here = ap length (begin journal h).model_is in
            let there = ap length settled_is in
            omega (arith, here, there, all_run.2.steps_more)

      runs_at : (journal : List Entry) → IsAt e s m journal → RunsRowAt row journal e new s' m' x0 x1
      runs_at journal h =
          let r = (all_run journal h).2 in
          record {
            plan = plan;
            given_start = given_start;
            show = show;
            behind = behind;
            lines = r.lines;
            brings = runs_row journal h r.lines r.add;
            text = r.text;
            at = subst (λ d. IsAt d s' m' (with_row journal)) is_told (at_longer journal h);
            steps_more = steps_longer journal h;
            lines_more = r.lines_more;
            rows_more = rows;
          }

      pub accepts_all : AcceptsBoth row e s m new s' m' x0 x1 (Ok tt)
      accepts_all = both_run row e s m new s' m' x0 x1 runs_at

-- where the row could not be read, nothing of its lines is appended
module _ (e : EngineState) (known : IsAccepted e.plan) (s : Seen) (m : Memories) (row : Row) (x : List ℕ) (journal : List Entry) (h : IsAt e s m journal) where
  a_front : (lines : List (List ℕ)) × Brings e journal (accepted_entry row) lines
  unfolding settled_lines
  a_front =
      let f = front e known s m journal h row in (
        table_lines e.show e.plan.spec.streams f.0,
        ap (table_lines e.show e.plan.spec.streams) f.1 ∙ table_lines-append e.show e.plan.spec.streams (settled_model e.plan e.given_start journal) f.0,
      )

  unread : CutsRow row journal e x x
  unread = let f = a_front in record { lines = f.0; brings = f.1; part = []; rest = text_of f.0; joined = refl; text = sym (append-nil x) }

pub accepts_unread : (e : EngineState) → IsAccepted e.plan → (s : Seen) (m : Memories) (row : Row) (x : List ℕ) (new : EngineState) (s' : Seen) (m' : Memories) → AcceptsBoth row e s m new s' m' x x (Err Memory)
accepts_unread e known s m row x new s' m' = both_end row e s m new s' m' x x Memory (λ journal h. unread e known s m row x journal h)

-- the end of a run

-- a fault of a row with its time
fault_of_at : (t : ℕ) (o : Option RowFault) (f : RunFault) → at_time t o ≡ Some f → (g : RowFault) × (o ≡ Some g)
fault_of_at t None f k = absurd (cc)
fault_of_at t (Some g) f k = (g, refl)

nothing_behind : {A : Type 0} (ks ls : List A) → ks ++ ls ≡ ks ++ [] → ls ≡ []
nothing_behind ks ls k = let q = ap length k in nothing_of ls (omega (arith, q, length-append ks ls, ap length (append-nil ks)))

module _ (e : EngineState) (known : IsAccepted e.plan) (s : Seen) (m : Memories) (journal : List Entry) (h : IsAt e s m journal) where
  -- no step is left
  module _ (none : whole_model e.plan e.given_start journal ≡ settled_model e.plan e.given_start journal) where
    final_is_settled : final_lines e.plan e.given_start journal e.show ≡ settled_lines e.plan e.given_start journal e.show
    unfolding final_lines settled_lines
    final_is_settled = ap (table_lines e.show e.plan.spec.streams) none

    fine_at_last : first_fault e.plan e.given_start journal ≡ None
    unfolding first_fault settled_fault
    fine_at_last = ap (λ t. fault_of_last (last_row t)) none ∙ h.fine

    pub runs_out_of_none : (x : List ℕ) → RunsOutAt journal e e x x
    runs_out_of_none x = record {
      fine = fine_at_last;
      lines = [];
      completes = final_is_settled ∙ sym (append-nil (settled_lines e.plan e.given_start journal e.show));
      text = sym (append-nil x);
      steps_more = (let same = ap length none in omega (arith, same));
      lines_more = omega arith;
    }

  -- one step is left
  module _ (start : ℕ) (of : Step) (here : start_of e.given_start (accepted journal) ≡ start) (whole_is : whole_model e.plan e.given_start journal ≡ model e.plan start (past e known s m journal h ++ of ∷ [])) where
    abbrev done : List Step
    done = past e known s m journal h

    completes_by : (lines : List (List ℕ)) → Add (tally_of e) start done (of ∷ []) lines → Completes e journal lines
    unfolding final_lines settled_lines
    completes_by lines add =
        ap (table_lines e.show e.plan.spec.streams) whole_is ∙ (add ∙ ap (λ t. table_lines e.show e.plan.spec.streams t ++ lines) (model_is e known s m journal h start here))

    fault_by : (o : Option RunFault) → fault_of_last (last_row (model e.plan start (done ++ of ∷ []))) ≡ o → first_fault e.plan e.given_start journal ≡ o
    unfolding first_fault
    fault_by o k = ap (λ t. fault_of_last (last_row t)) whole_is ∙ k

    module _ (new : EngineState) (s' : Seen) (m' : Memories) (x0 x1 : List ℕ) (plan : new.plan ≡ e.plan) (show : new.show ≡ e.show) (r : RunsOn start done (of ∷ []) (tally_of e) (tally_of new) m' s' x0 x1) where
      abbrev ended : EngineState
      ended = record new { plan = e.plan; given_start = new.given_start; show = e.show }

      has_last : HasRun (tally_of ended) start (done ++ of ∷ []) m' s'
      has_last =
          subst (λ p. HasRun (record { plan = p; show = e.show; names = new.texts.held; steps = new.steps; lines = new.lines }) start (done ++ of ∷ []) m' s') plan
          (subst (λ w. HasRun (record { plan = new.plan; show = w; names = new.texts.held; steps = new.steps; lines = new.lines }) start (done ++ of ∷ []) m' s') show r.has)

      pub runs_out : RunsOutAt journal e new x0 x1
      runs_out = record {
        fine = fault_by None has_last.fine;
        lines = r.lines;
        completes = completes_by r.lines r.add;
        text = r.text;
        steps_more = (let before = ap length (model_is e known s m journal h start here) in let after = ap length whole_is in omega (arith, before, after, r.steps_more));
        lines_more = r.lines_more;
      }

    -- the step with the fault has no line
    no_line : HasRun (tally_of e) start done m s → (fault : RunFault) → fault_of_last (last_row (model e.plan start (done ++ of ∷ []))) ≡ Some fault → Add (tally_of e) start done (of ∷ []) []
    no_line r fault k =
        let table = model e.plan start done in
        let row = answered e.plan start table of in
        let more = tables.one_row_more e.plan start done of (fine_goes_on table r.fine) in
        let f = fault_of_at row.step.time (row_fault row) fault (sym (ap (λ t. fault_of_last (last_row t)) more ∙ ap fault_of_last (last_row-append table row)) ∙ k) in
        ap (table_lines e.show e.plan.spec.streams) more
        ∙ (table_lines-append_one e.show e.plan.spec.streams table row
        ∙ ap (λ ls. table_lines e.show e.plan.spec.streams table ++ ls) (faulty_lines e.show e.plan.spec.streams row f.0 f.1))

    pub faults_out : HasRun (tally_of e) start done m s → (fault : RunFault) (x0 x1 : List ℕ) → FaultInSteps fault start done (of ∷ []) (tally_of e) x0 x1 → FaultAtEnd fault journal e x0 x1
    faults_out r fault x0 x1 f =
        let none = no_line r fault f.is_fault in
        let empty : f.lines ≡ [] = nothing_behind (lines_after (tally_of e) start done) f.lines (sym f.add ∙ none) in
        record { is_fault = fault_by _ f.is_fault; completes = completes_by [] none; text = f.text ∙ (ap (λ ls. x0 ++ text_of ls) empty ∙ append-nil x0) }

    pub cuts_out : (x0 x1 : List ℕ) → CutsOn start done (of ∷ []) (tally_of e) x0 x1 → CutsOut journal e x0 x1
    cuts_out x0 x1 f = record { lines = f.lines; completes = completes_by f.lines f.add; part = f.part; rest = f.rest; joined = f.joined; text = f.text }

-- no row was accepted
pub finishes_at_once : (e : EngineState) → IsAccepted e.plan → (s : Seen) (m : Memories) (x : List ℕ) → e.rows ≡ 0 → FinishesBoth e s m e x x (Ok tt)
finishes_at_once e known s m x none =
    both_run_out e s m e x x (λ journal h. runs_out_of_none e known s m journal h (nothing_whole e.plan e.given_start journal (h.none none)) x)

-- a row was, and the clock has not started: that cannot be
pub finishes_never : (e : EngineState) (s : Seen) (m : Memories) (x : List ℕ) → (e.rows ≡ 0 → ⊥) → e.clock.start ≡ None → FinishesBoth e s m e x x (Ok tt)
finishes_never e s m x some at = both_run_out e s m e x x (λ journal h. absurd (go journal h h.state))
  where
    go : (journal : List Entry) → IsAt e s m journal → IsWaiting e s m journal ⊎ IsUnderWay e s m journal → ⊥
    go journal h (inl w) = some (h.some w.none)
    go journal h (inr u) = none_or e.clock.start _ at u.clock

module _ (e : EngineState) (s : Seen) (m : Memories) (engine : IsEngine e s) (some : e.rows ≡ 0 → ⊥) (start : ℕ) (at : e.clock.start ≡ Some start) (tells : TellsDue e.plan m s) where
  abbrev known : IsAccepted e.plan
  known = engine.sound.accepted

  abbrev first_told : Option ℕ
  first_told = due_told e.local e.clock s e.merged

  module _ (journal : List Entry) (h : IsAt e s m journal) where
    is_going : IsUnderWay e s m journal
    is_going = go h.state
      where
        go : IsWaiting e s m journal ⊎ IsUnderWay e s m journal → IsUnderWay e s m journal
        go (inl w) = absurd (some (h.some w.none))
        go (inr u) = u

    is_here : start_of e.given_start (accepted journal) ≡ start
    is_here = some_is e.clock.start _ _ is_going.clock at

    fine_here : is_ended (settled_model e.plan e.given_start journal) ≡ false
    fine_here = not_ended e known s m journal h

    -- the deadlines that are left are those up to the last stamp
    limit_is : after_last (accepted journal) ≡ e.merged + 1
    limit_is =
        after_last_is (opening_time e.given_start) (accepted journal) (λ q. some (h.some q))
        ∙ ap (λ n. n + 1) (sym (h.merged ∙ merged_is_last (opening_time e.given_start) journal))

    -- what is told is what is left
    left_as_told : deadlines_below e.plan (run_start e.plan e.given_start journal) (after_last (accepted journal)) (settled_model e.plan e.given_start journal) ≡ below_or first_told (e.merged + 1) None
    left_as_told =
        let of = engine.sound in
        let table = settled_model e.plan e.given_start journal in
        let stands : StandsBetween e.texts.held m s (content_after e.plan start table) = subst (λ z. StandsBetween e.texts.held m s (content_after e.plan z table)) is_here is_going.stands in
        ap (λ n. deadlines_below e.plan (run_start e.plan e.given_start journal) n table) limit_is
        ∙ (ap (λ z. deadlines_below e.plan z (e.merged + 1) table) is_here
        ∙ sym (told_due e.plan known s of.of.layout e.clock start e.merged of.rates at (engine.passed start at) (start_low e s start engine at)
        e.texts.held m tells table stands (open_behind e known s m journal h is_going start is_here).0 (e.merged + 1) (omega (arith, engine.merged)) e.local of.local))

  finishes_none : (x : List ℕ) → below_or first_told (e.merged + 1) None ≡ None → FinishesBoth e s m e x x (Ok tt)
  finishes_none x none =
      both_run_out e s m e x x
      (λ journal h. runs_out_of_none e known s m journal h (whole_is_settled e.plan known e.given_start journal (fine_here journal h) (left_as_told journal h ∙ none)) x)

  -- no deadline is told
  pub finishes_done : (x : List ℕ) → None ≡ first_told → FinishesBoth e s m e x x (Ok tt)
  finishes_done x q = finishes_none x (ap (λ z. below_or z (e.merged + 1) None) (sym q))

  -- or one that is later
  pub finishes_before : (x : List ℕ) (due : ℕ) → Some due ≡ first_told → e.merged < due → FinishesBoth e s m e x x (Ok tt)
  finishes_before x due q later =
      finishes_none x (ap (λ z. below_or z (e.merged + 1) None) (sym q) ∙ (let far : e.merged + 1 ≤ due = omega arith in rw (le-ltb due (e.merged + 1) far) refl))

  module _ (due : ℕ) (next : Some due ≡ first_told) (low : due ≤ e.merged) where
    is_left : below_or first_told (e.merged + 1) None ≡ Some (deadline_step due)
    is_left = ap (λ z. below_or z (e.merged + 1) None) (sym next) ∙ (let near : due < e.merged + 1 = omega arith in rw (lt-ltb due (e.merged + 1) near) refl)

    -- it is not before the last stamp
    pub told_last : e.merged ≤ due
    told_last = told_open e.plan known s engine.sound.of.layout e.clock start e.merged engine.sound.rates at (engine.passed start at) (start_low e s start engine at) e.local due (sym next)

    -- it is the one step that is left
    one_left : (journal : List Entry) (h : IsAt e s m journal) → whole_model e.plan e.given_start journal ≡ model e.plan start (past e known s m journal h ++ deadline_step due ∷ [])
    one_left journal h =
        let done = past e known s m journal h in
        let same = model_is e known s m journal h start (is_here journal h) in
        let table = settled_model e.plan e.given_start journal in
        whole_has_one e.plan known e.given_start journal (fine_here journal h) due (left_as_told journal h ∙ is_left) (omega (arith, limit_is journal h, told_last))
        ∙ (ap (λ z. table ++ answered e.plan z table (deadline_step due) ∷ []) (is_here journal h)
        ∙ (ap (λ t. t ++ answered e.plan start t (deadline_step due) ∷ []) (sym same)
        ∙ sym (tables.one_row_more e.plan start done (deadline_step due) (ap is_ended same ∙ fine_here journal h))))

    has_all : (journal : List Entry) (h : IsAt e s m journal) → HasRun (tally_of e) start (past e known s m journal h) m s
    has_all journal h = has_run e known s m journal h (is_going journal h) start (is_here journal h)

    ends_step : (end : EngineEnd) (t : Tally) (s' : Seen) (m' : Memories) (x0 x1 : List ℕ) → Goes (Err end) start (deadline_step due ∷ []) (tally_of e) m s t m' s' x0 x1
        → (journal : List Entry) → IsAt e s m journal → EndsOut end journal e x0 x1
    ends_step (Fault stream kind time) t s' m' x0 x1 goes journal h =
        faults_out e known s m journal h start (deadline_step due) (is_here journal h) (one_left journal h) (has_all journal h) _ x0 x1
        (goes (past e known s m journal h) [] (has_all journal h))
    ends_step Memory t s' m' x0 x1 goes journal h =
        cuts_out e known s m journal h start (deadline_step due) (is_here journal h) (one_left journal h) x0 x1
        (goes (past e known s m journal h) [] (has_all journal h))

    pub finishes_step : (r : Result (Unit {0}) EngineEnd) (new : EngineState) (s' : Seen) (m' : Memories) (x0 x1 : List ℕ) → HasKept e new
        → Goes r start (deadline_step due ∷ []) (tally_of e) m s (tally_of new) m' s' x0 x1 → FinishesBoth e s m new x0 x1 r
    finishes_step (Ok _) new s' m' x0 x1 kept goes =
        both_run_out e s m new x0 x1
        (λ journal h. runs_out e known s m journal h start (deadline_step due) (is_here journal h) (one_left journal h) new s' m' x0 x1 kept.plan kept.show
        (goes (past e known s m journal h) (has_all journal h)))
    finishes_step (Err end) new s' m' x0 x1 kept goes = both_end_out e s m new x0 x1 end (ends_step end (tally_of new) s' m' x0 x1 goes)
