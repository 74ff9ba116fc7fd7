-- Deadlines, run one after the other, and then a row.
use Rattle.std.proofs.Common.{◌≡◌, refl, ap, sym, subst, ◌∙◌, ℕ, ◌+◌, ◌<◌, ◌≤◌, List, [], ◌∷◌, ◌++◌, Option, Some, None, Ok, Err, max, length, append_assoc, append-nil, arith}
use Rattle.std.proofs.lemmas.Bool.{le-ltb, lt-ltb}
use Rattle.lola_value.specs.Times.{latest}
use Rattle.lola_clock.specs.Clock.{ClockState}
use Rattle.lola_model.specs.Steps.{rates_of}
use Rattle.lola_model.specs.Faults.{fault_of_last}
use Rattle.lola_model.specs.Model.{Next, answered, last_row, model}
use Rattle.lola_model.specs.NextStep.{below_or, next_settled, open_after, rows_taken}
use Rattle.lola_model.specs.Steps.{deadline_step, row_step}
use Rattle.lola_model.specs.Store.{Memories, New, Running, Seen, Started, time_seen}
use Rattle.lola_model.specs.Table.{Step}
use Rattle.lola_model.specs.declared.journal.Row.{Row}
use Rattle.lola_model.specs.declared.plan.Plan.{Plan}
use Rattle.lola_model.proofs.Growth.{last_row-append}
use Rattle.lola_step.specs.Steps.{IsStepped}
use Rattle.lola_engine.specs.Rates.{HaveDeadlinesOf}
use Rattle.lola_engine.specs.Engines.{AreStarted, IsSound}
use Rattle.lola_engine.specs.Going.{EndsBy, Goes, GoesBy, HasKept, HasRun, IsBelow, IsOpenAt, IsOpenBehind, RunsBy, Tally, tally_of}
use Rattle.lola_engine.specs.Rules.{Come, TellsDue, deadlines_below, due_told, opened_at}
use Rattle.lola_engine.specs.declared.engine.EngineState.{EngineState}
use Rattle.lola_engine.specs.declared.end.EngineEnd.{EngineEnd}
use Rattle.lola_engine.proofs.Longer.{due_come, none_behind, row_comes}
use Rattle.lola_engine.proofs.Steps.{ends_then, goes_none, runs_then}
use Rattle.lola_engine.proofs.Tables.{answered_step, fine_goes_on, one_by_one, one_row_more}
use Rattle.lola_engine.proofs.Told.{told_due, told_open}

-- what stays stays
pub kept_then : (a b c : EngineState) → HasKept a b → HasKept b c → HasKept a c
kept_then a b c h k = record {
  plan = k.plan ∙ h.plan;
  given_start = k.given_start ∙ h.given_start;
  show = k.show ∙ h.show;
  texts = k.texts ∙ h.texts;
  ids = k.ids ∙ h.ids;
  swept = k.swept ∙ h.swept;
  behind = k.behind ∙ h.behind;
  rows = k.rows ∙ h.rows;
  merged = k.merged ∙ h.merged;
  ended = k.ended ∙ h.ended;
}

-- and where nothing is done
pub kept_all : (a : EngineState) → HasKept a a
kept_all a = record { plan = refl; given_start = refl; show = refl; texts = refl; ids = refl; swept = refl; behind = refl; rows = refl; merged = refl; ended = refl }

-- a state whose clock has passed more
pub sound_clock : (e : EngineState) (s : Seen) (k : ClockState) → k.rates ≡ e.clock.rates → k.start ≡ e.clock.start → IsSound e s → IsSound (record e { clock = k }) s
sound_clock e s k rates start h = record {
  accepted = h.accepted;
  workers = h.workers;
  rates = subst (HaveDeadlinesOf (rates_of e.plan.pacings)) (sym rates) h.rates;
  local = h.local;
  of = h.of;
  started = subst (λ o. AreStarted s o) (sym start) h.started;
  scratch = h.scratch;
  table = h.table;
  texts = h.texts;
  counted = h.counted;
  few_lines = h.few_lines;
}

-- the time of a store that has stepped
pub stepped_time : (old new : Seen) (plan : Plan) (time : ℕ) → IsStepped plan time old new → time_seen new ≡ time
stepped_time old new plan time h = ap (λ p. elim p [ New ↦ 0 | Started a ↦ a | Running a t ↦ t ]) h.phase

-- one step more that comes by a rule
pub come_then : (plan : Plan) (start : ℕ) (next : Next) (past steps : List Step) (x : Step) → Come plan start next steps past
    → fault_of_last (last_row (model plan start (steps ++ past))) ≡ None → next (model plan start (steps ++ past)) ≡ Some x → Come plan start next steps (past ++ x ∷ [])
come_then plan start next [] steps x come fine comes =
    let e = sym (append-nil steps) in
    (ap (λ ss. fault_of_last (last_row (model plan start ss))) e ∙ fine, ap (λ ss. next (model plan start ss)) e ∙ comes, tt)
come_then plan start next (y ∷ past) steps x come fine comes =
    let e = sym (one_by_one steps y past) in (
      come.0,
      come.1,
      come_then plan start next past (steps ++ y ∷ []) x come.2 (ap (λ ss. fault_of_last (last_row (model plan start ss))) e ∙ fine) (ap (λ ss. next (model plan start ss)) e ∙ comes),
    )

-- the deadlines that were run came one after the other, and those from a moment on are open
pub record IsOnWay (start limit from0 : ℕ) (d0 : EngineState) (m0 : Memories) (s0 : Seen) (x0 : List ℕ) (from : ℕ) (d : EngineState) (m : Memories) (s : Seen) (x : List ℕ) : Type 0 where
  pub below : IsBelow d s start from limit
  pub kept : HasKept d0 d
  pub past : List Step
  pub goes : Goes (Ok tt) start past (tally_of d0) m0 s0 (tally_of d) m s x0 x
  pub come : (steps : List Step) → HasRun (tally_of d0) start steps m0 s0 → IsOpenAt start from0 (model d0.plan start steps)
      → Come d0.plan start (deadlines_below d0.plan start limit) steps past × IsOpenAt start from (model d0.plan start (steps ++ past))

-- before the first
pub on_way_first : (start limit from : ℕ) (d : EngineState) (m : Memories) (s : Seen) (x : List ℕ) → IsBelow d s start from limit → IsOnWay start limit from d m s x from d m s x
on_way_first start limit from d m s x h = record {
  below = h;
  kept = kept_all d;
  past = [];
  goes = goes_none start (tally_of d) m s x;
  come = λ steps r at. (tt, subst (λ ss. IsOpenAt start from (model d.plan start ss)) (sym (append-nil steps)) at);
}

-- a deadline that is told is not before the moment from which it is asked
pub told_from : (start limit from : ℕ) (d : EngineState) (s : Seen) → IsBelow d s start from limit → (due : ℕ) → Some due ≡ due_told d.local d.clock s from → from ≤ due
told_from start limit from d s h due e =
    told_open d.plan h.sound.accepted s h.sound.of.layout d.clock start from h.sound.rates h.start_is h.passed h.low d.local due (sym e)

not_below : (o : Option ℕ) (due limit : ℕ) → Some due ≡ o → limit ≤ due → below_or o limit None ≡ None
not_below o due limit e le = ap (λ z. below_or z limit None) (sym e) ∙ rw (le-ltb due limit le) refl

is_below : (o : Option ℕ) (due limit : ℕ) → Some due ≡ o → due < limit → below_or o limit None ≡ Some (deadline_step due)
is_below o due limit e lt = ap (λ z. below_or z limit None) (sym e) ∙ rw (lt-ltb due limit lt) refl

module _ (start limit from0 : ℕ) (d0 : EngineState) (m0 : Memories) (s0 : Seen) (x0 : List ℕ) (from : ℕ) (d : EngineState) (m : Memories) (s : Seen) (x : List ℕ) (w : IsOnWay start limit from0 d0 m0 s0 x0 from d m s x)
    (tells : TellsDue d.plan m s) (le : limit ≤ latest) where
  abbrev rule : Next
  rule = deadlines_below d0.plan start limit

  abbrev told : Option ℕ
  told = due_told d.local d.clock s from

  module _ (steps : List Step) (r : HasRun (tally_of d0) start steps m0 s0) (at : IsOpenAt start from0 (model d0.plan start steps)) where
    abbrev done : List Step
    done = steps ++ w.past

    fine_so_far : fault_of_last (last_row (model d0.plan start done)) ≡ None
    fine_so_far = ap (λ p. fault_of_last (last_row (model p start done))) (sym w.kept.plan) ∙ (w.goes steps r).has.fine

    -- what is told is what comes
    comes_as_told : rule (model d0.plan start done) ≡ below_or told limit None
    comes_as_told =
        let of = w.below.sound in
        let opens : from ≡ opened_at start (last_row (model d.plan start done)) = subst (λ p. IsOpenAt start from (model p start done)) (sym w.kept.plan) (w.come steps r at).1 in
        ap (λ p. deadlines_below p start limit (model p start done)) (sym w.kept.plan)
        ∙ sym (told_due d.plan of.accepted s of.of.layout d.clock start from of.rates w.below.start_is w.below.passed w.below.low
        d.texts.held m tells (model d.plan start done) (w.goes steps r).has.stands opens limit (omega arith) d.local of.local)

  -- no deadline is left below the limit
  on_way_over : below_or told limit None ≡ None → GoesBy (Ok tt) start (IsOpenAt start from0) rule (tally_of d0) m0 s0 (tally_of d) m s x0 x
  on_way_over none steps r at = record { more = w.past; come = (w.come steps r at).0; over = comes_as_told steps r at ∙ none; runs = w.goes steps r }

  pub on_way_stops : (due : ℕ) → Some due ≡ told → limit ≤ due → GoesBy (Ok tt) start (IsOpenAt start from0) rule (tally_of d0) m0 s0 (tally_of d) m s x0 x
  on_way_stops due e late = on_way_over (not_below told due limit e late)

  pub on_way_done : None ≡ told → GoesBy (Ok tt) start (IsOpenAt start from0) rule (tally_of d0) m0 s0 (tally_of d) m s x0 x
  on_way_done e = on_way_over (ap (λ z. below_or z limit None) (sym e))

  module _ (due : ℕ) (e : Some due ≡ told) (low : due < limit) where
    come_next : (steps : List Step) → HasRun (tally_of d0) start steps m0 s0 → IsOpenAt start from0 (model d0.plan start steps) → Come d0.plan start rule steps (w.past ++ deadline_step due ∷ [])
    come_next steps r at =
        come_then d0.plan start rule w.past steps (deadline_step due) (w.come steps r at).0 (fine_so_far steps r at) (comes_as_told steps r at ∙ is_below told due limit e low)

    -- its step ends the run
    pub on_way_ends : (end : EngineEnd) (v : Tally) (m1 : Memories) (s1 : Seen) (x1 : List ℕ) → Goes (Err end) start (deadline_step due ∷ []) (tally_of d) m s v m1 s1 x x1
        → GoesBy (Err end) start (IsOpenAt start from0) rule (tally_of d0) m0 s0 v m1 s1 x0 x1
    on_way_ends end v m1 s1 x1 h steps r at =
        let f = w.goes steps r in
        record {
          more = w.past ++ deadline_step due ∷ [];
          come = come_next steps r at;
          ends = λ later. ends_then start steps w.past (deadline_step due ∷ []) (tally_of d0) (tally_of d) m s x0 x x1 w.kept.plan w.kept.show f end later (h (steps ++ w.past) later f.has);
        }

    open_next : (steps : List Step) → HasRun (tally_of d0) start steps m0 s0 → IsOpenAt start from0 (model d0.plan start steps)
        → due + 1 ≡ opened_at start (last_row (model d0.plan start (steps ++ (w.past ++ deadline_step due ∷ []))))
    open_next steps r at =
        let ss = steps ++ w.past in
        let rows = model d0.plan start ss in
        let one = one_row_more d0.plan start ss (deadline_step due) (fine_goes_on rows (fine_so_far steps r at)) in
        sym (ap (λ zs. opened_at start (last_row (model d0.plan start zs))) (sym (append_assoc steps w.past (deadline_step due ∷ [])))
        ∙ (ap (λ t. opened_at start (last_row t)) one
        ∙ (ap (opened_at start) (last_row-append rows (answered d0.plan start rows (deadline_step due)))
        ∙ ap open_after (answered_step d0.plan start rows (deadline_step due)))))

    -- its step is done
    pub on_way_next : (d1 : EngineState) (m1 : Memories) (s1 : Seen) (x1 : List ℕ) (d2 : EngineState) (from' : ℕ) → IsSound d1 s1 → HasKept d d1 → d1.clock ≡ d.clock → IsStepped d.plan due s s1
        → Goes (Ok tt) start (deadline_step due ∷ []) (tally_of d) m s (tally_of d1) m1 s1 x x1
        → d2 ≡ record d1 { clock = record d1.clock { passed = max d1.clock.passed due } } → from' ≡ due + 1
        → IsOnWay start limit from0 d0 m0 s0 x0 from' d2 m1 s1 x1
    on_way_next d1 m1 s1 x1 d2 from' sound kept same stepped goes is at' =
        let k : ClockState = record d1.clock { passed = max d1.clock.passed due } in
        let same_passed : d1.clock.passed ≡ d.clock.passed = ap (λ (z : ClockState). z.passed) same in
        let time_is : time_seen s1 ≡ due = stepped_time s s1 d.plan due stepped in
        let later : from ≤ due = told_from start limit from d s w.below due e in
        subst (λ z. IsOnWay start limit from0 d0 m0 s0 x0 from' z m1 s1 x1) (sym is)
        (record {
          below = record {
            sound = sound_clock d1 s1 k refl refl sound;
            start_is = ap (λ (z : ClockState). z.start) same ∙ w.below.start_is;
            low = omega (arith, w.below.low);
            time = omega (arith, time_is);
            passed = omega (arith, same_passed, w.below.passed, w.below.low);
            below = omega arith;
            few_behind = omega (arith, kept.behind, w.below.few_behind);
            few_rows = omega (arith, kept.rows, w.below.few_rows);
            few_steps = omega (arith, kept.behind, kept.rows, stepped.steps, w.below.few_steps);
          };
          kept = (let both = kept_then d0 d d1 w.kept kept in record {
            plan = both.plan;
            given_start = both.given_start;
            show = both.show;
            texts = both.texts;
            ids = both.ids;
            swept = both.swept;
            behind = both.behind;
            rows = both.rows;
            merged = both.merged;
            ended = both.ended;
          });
          past = w.past ++ deadline_step due ∷ [];
          goes = λ steps r. let f = w.goes steps r in
              runs_then start steps w.past (deadline_step due ∷ []) (tally_of d0) (tally_of d) m s x0 x x1 w.kept.plan w.kept.show f (tally_of d1) m1 s1 (goes (steps ++ w.past) f.has);
          come = λ steps r at. (come_next steps r at, at' ∙ open_next steps r at);
        })

-- the row behind the deadlines below its stamp
module _ (start from : ℕ) (rows : List Row) (row : Row) (stamp : ℕ) (is : row.stamp ≡ stamp) (t u : Tally) (m0 : Memories) (s0 : Seen) (m1 : Memories) (s1 : Seen) (x0 x1 x2 : List ℕ)
    (plan : u.plan ≡ t.plan) (show : u.show ≡ t.show) where
  abbrev longer : Next
  longer = next_settled t.plan start (rows ++ row ∷ [])

  at_stamp : (steps more : List Step) → Come t.plan start (deadlines_below t.plan start stamp) steps more → Come t.plan start (deadlines_below t.plan start row.stamp) steps more
  at_stamp steps more come = subst (λ n. Come t.plan start (deadlines_below t.plan start n) steps more) (sym is) come

  -- the deadlines ended the run
  pub due_ends : (end : EngineEnd) → GoesBy (Err end) start (IsOpenAt start from) (deadlines_below t.plan start stamp) t m0 s0 u m1 s1 x0 x1
      → GoesBy (Err end) start (IsOpenBehind start from rows) longer t m0 s0 u m1 s1 x0 x1
  due_ends end goes steps r at =
      let f = goes steps r at.0 in
      record { more = f.more; come = (due_come t.plan start rows row f.more steps at.1 (at_stamp steps f.more f.come)).0; ends = f.ends }

  module _ (first : GoesBy (Ok tt) start (IsOpenAt start from) (deadlines_below t.plan start stamp) t m0 s0 u m1 s1 x0 x1) (steps : List Step) (r : HasRun t start steps m0 s0)
      (at : IsOpenBehind start from rows (model t.plan start steps)) where
    abbrev f : RunsBy start (deadlines_below t.plan start stamp) steps t u m1 s1 x0 x1
    f = first steps r at.0

    abbrev behind : List Step
    behind = steps ++ f.more

    taken_so_far : Come t.plan start longer steps f.more × (rows_taken (model t.plan start behind) ≡ length rows)
    taken_so_far = due_come t.plan start rows row f.more steps at.1 (at_stamp steps f.more f.come)

    fine_behind : fault_of_last (last_row (model t.plan start behind)) ≡ None
    fine_behind = ap (λ p. fault_of_last (last_row (model p start behind))) (sym plan) ∙ f.runs.has.fine

    row_come : Come t.plan start longer steps (f.more ++ row_step row ∷ [])
    row_come =
        come_then t.plan start longer f.more steps (row_step row) taken_so_far.0 fine_behind
        (row_comes t.plan start rows row (model t.plan start behind) taken_so_far.1 (ap (λ n. deadlines_below t.plan start n (model t.plan start behind)) is ∙ f.over))

    none_left : longer (model t.plan start (steps ++ (f.more ++ row_step row ∷ []))) ≡ None
    none_left =
        ap (λ ss. longer (model t.plan start ss)) (sym (append_assoc steps f.more (row_step row ∷ [])))
        ∙ none_behind t.plan start rows row behind fine_behind taken_so_far.1

    runs_row : (v : Tally) (m2 : Memories) (s2 : Seen) → Goes (Ok tt) start (row_step row ∷ []) u m1 s1 v m2 s2 x1 x2 → RunsBy start longer steps t v m2 s2 x0 x2
    runs_row v m2 s2 goes = record {
      more = f.more ++ row_step row ∷ [];
      come = row_come;
      over = none_left;
      runs = runs_then start steps f.more (row_step row ∷ []) t u m1 s1 x0 x1 x2 plan show f.runs v m2 s2 (goes behind f.runs.has);
    }

    ends_row : (end : EngineEnd) (v : Tally) (m2 : Memories) (s2 : Seen) → Goes (Err end) start (row_step row ∷ []) u m1 s1 v m2 s2 x1 x2 → EndsBy end start longer steps t x0 x2
    ends_row end v m2 s2 goes = record {
      more = f.more ++ row_step row ∷ [];
      come = row_come;
      ends = λ later. ends_then start steps f.more (row_step row ∷ []) t u m1 s1 x0 x1 x2 plan show f.runs end later (goes behind later f.runs.has);
    }

  -- the row is run
  pub row_goes : GoesBy (Ok tt) start (IsOpenAt start from) (deadlines_below t.plan start stamp) t m0 s0 u m1 s1 x0 x1
      → (v : Tally) (m2 : Memories) (s2 : Seen) → Goes (Ok tt) start (row_step row ∷ []) u m1 s1 v m2 s2 x1 x2 → GoesBy (Ok tt) start (IsOpenBehind start from rows) longer t m0 s0 v m2 s2 x0 x2
  row_goes first v m2 s2 goes steps r at = runs_row first steps r at v m2 s2 goes

  -- or it ended the run
  pub row_ends : GoesBy (Ok tt) start (IsOpenAt start from) (deadlines_below t.plan start stamp) t m0 s0 u m1 s1 x0 x1
      → (end : EngineEnd) (v : Tally) (m2 : Memories) (s2 : Seen) → Goes (Err end) start (row_step row ∷ []) u m1 s1 v m2 s2 x1 x2 → GoesBy (Err end) start (IsOpenBehind start from rows) longer t m0 s0 v m2 s2 x0 x2
  row_ends first end v m2 s2 goes steps r at = ends_row first steps r at end v m2 s2 goes
