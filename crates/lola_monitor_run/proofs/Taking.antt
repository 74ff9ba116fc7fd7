-- A run that takes one entry more, whatever journal it stands for.
use Rattle.std.proofs.Common.{◌≡◌, ◌⊎◌, ℕ, ◌+◌, ◌≤◌, List, [], ◌∷◌, ◌++◌, Option, ◌-◌, Result, Ok, Err, inl, inr, refl, sym, ap, ◌∙◌, subst, arith, append_assoc, length, length-append}
use Rattle.std.proofs.lemmas.List.{append-nil}
use Rattle.std.specs.Prelude.{OnOk}
use Rattle.lola_port.specs.States.{PutBroke, SinkState, grown}
use Rattle.lola_model.specs.Journal.{IsLegal, IsRightlyMarked, accepted, opening_time}
use Rattle.lola_model.specs.Runs.{settled_lines}
use Rattle.lola_model.specs.declared.journal.Row.{Row}
use Rattle.lola_model.specs.declared.journal.Show.{Show}
use Rattle.lola_model.specs.declared.plan.Plan.{Plan}
use Rattle.lola_model.specs.declared.journal.Entry.{Entry}
use Rattle.lola_model.specs.declared.journal.Mark.{Mark}
use Rattle.lola_model.specs.declared.journal.Mark.TheVariants as mark
use Rattle.lola_model.proofs.Journals.{IsLegalFrom-append_one, accepted-append, accepted-append_late, merged_from-append_late, settled_fault-append_late, settled_lines-append_late, settled_model-append_late}
use Rattle.lola_instances.specs.Stores.{bounded_remembers, bounded_seen}
use Rattle.lola_instances.specs.declared.store.BoundedStore.{BoundedStore}
use Rattle.lola_engine.proofs.LateRows.{late_state}
use Rattle.lola_engine.specs.Behind.{AcceptsBehind, FinishesBehind, StandsBehind}
use Rattle.lola_engine.specs.Engines.{accepted_entry}
use Rattle.lola_engine.specs.declared.engine.EngineState.{EngineState}
use Rattle.lola_engine.specs.declared.end.EngineEnd.{EngineEnd}
use Rattle.lola_engine.specs.declared.end.EngineEnd.TheVariants as engine_end
use Rattle.lola_model.specs.Store.{Memories, Seen}
use Rattle.lola_monitor_run.specs.Verdicts.{Setting, add_late, late_count, settled_fault_in}
use Rattle.lola_monitor_run.specs.Running.{AcceptsRow, CutNext, HasText, IsGoing, IsNext, Keeping, KeptNext, Puts, RanRow, RunsAccepted, StopsAt, setting_at}
use Rattle.lola_monitor_run.specs.Behind.{Closes, HasTaken, IsBehind, NextBehind, Takes}
use Rattle.lola_monitor_run.specs.declared.stop.Stop.{Stop}
use Rattle.lola_monitor_run.specs.declared.stop.Stop.TheVariants as stop
use Rattle.lola_monitor_run.proofs.Sinks.{grown_nil}

-- how many entries are late, with one more

abbrev one : Mark → ℕ → ℕ
one m count = elim m [ mark.Accepted ↦ count | mark.Late t ↦ count + 1 ]

pub late_append : (journal more : List Entry) → late_count (journal ++ more) ≡ late_count journal + late_count more
late_append [] more = omega arith
late_append (e ∷ journal) more = ap (add_late e) (late_append journal more) ∙ by_mark e.mark
  where
    by_mark : (m : Mark) → one m (late_count journal + late_count more) ≡ one m (late_count journal) + late_count more
    by_mark mark.Accepted = refl
    by_mark (mark.Late t) = omega arith

pub accepted_append : (journal more : List Entry) → length (accepted (journal ++ more)) ≡ length (accepted journal) + length (accepted more)
accepted_append journal more = ap length (accepted-append journal more) ∙ length-append (accepted journal) (accepted more)

-- what a run stands for

-- the front has no more settled lines than the journal
pub no_fewer_lines : (before journal : List Entry) (kept : Keeping) → IsBehind before journal kept
    → length (settled_lines kept.state.plan kept.state.given_start before kept.state.show) ≤ length (settled_lines kept.state.plan kept.state.given_start journal kept.state.show)
no_fewer_lines before journal kept stands = let lines = stands.engine.lines in omega (arith, lines)

-- one entry more, rightly marked, leaves the journal legal
pub legal_more : (before journal : List Entry) (entry : Entry) (kept : Keeping) → IsBehind before journal kept → IsNext kept entry → IsLegal kept.state.given_start (journal ++ entry ∷ [])
legal_more before journal entry kept stands next =
    IsLegalFrom-append_one (opening_time kept.state.given_start) journal entry stands.legal (subst (λ m. IsRightlyMarked m entry) stands.engine.merged next)

-- a late entry more, for an engine behind others
late_behind : (e : EngineState) (seen : Seen) (remembers : Memories) (before journal : List Entry) (late : Entry) (t : ℕ) → late.mark ≡ mark.Late t
    → StandsBehind e seen remembers before journal → StandsBehind e seen remembers before (journal ++ late ∷ [])
late_behind e seen remembers before journal late t is h = record {
  since = h.since ++ late ∷ [];
  split = ap (λ (j : List Entry). j ++ late ∷ []) h.split ∙ append_assoc before h.since (late ∷ []);
  going = h.going;
  fine = settled_fault-append_late e.plan e.given_start journal late t is ∙ h.fine;
  merged = h.merged ∙ sym (merged_from-append_late (opening_time e.given_start) journal late t is);
  behind = h.behind;
  steps = h.steps ∙ ap length (sym (settled_model-append_late e.plan e.given_start journal late t is));
  lines = h.lines ∙ ap length (sym (settled_lines-append_late e.plan e.given_start journal late t is e.show));
  rows = h.rows ∙ ap length (sym (accepted-append_late journal late t is));
  state = late_state e seen remembers journal late t is h.state;
}

-- it is counted, and nothing else changes
abbrev late_counted : Keeping → Keeping
late_counted old = record { state = old.state; store = old.store; accepted = old.accepted; late = old.late + 1 }

-- an accepted row, by each answer

next_accepted : (row : Row) (old new : Keeping) (out0 out1 : SinkState) (text : List ℕ) → IsNext old (accepted_entry row) → RanRow row old new text → out1 ≡ grown out0 text
    → (before journal : List Entry) → IsBehind before journal old → NextBehind before journal (accepted_entry row) old new out0 out1
next_accepted row old new out0 out1 text next ran out before journal stands =
    let r = ran.accepts before journal stands.engine in
    record {
      stands = record {
        legal = subst (λ o. IsLegal o (journal ++ accepted_entry row ∷ [])) (sym (ap (λ (s : Setting). s.start) ran.setting)) (legal_more before journal (accepted_entry row) old stands next);
        engine = r.stands;
      };
      lines = r.lines;
      brings = r.brings;
      out = out ∙ ap (grown out0) r.text;
    }

cut_accepted : (row : Row) (old new : Keeping) (out0 out1 : SinkState) (text : List ℕ) → RanRow row old new text → PutBroke out0 out1 text
    → (before journal : List Entry) → IsBehind before journal old → CutNext journal (accepted_entry row) old out0 out1
cut_accepted row old new out0 out1 text ran broke before journal stands =
    let r = ran.accepts before journal stands.engine in
    record {
      fine = ap (λ (s : Setting). settled_fault_in s (journal ++ accepted_entry row ∷ [])) (sym ran.setting) ∙ r.stands.fine;
      lines = r.lines;
      brings = r.brings;
      out = subst (PutBroke out0 out1) r.text broke;
    }

kept_accepted : (row : Row) (old new : Keeping) (out0 out1 : SinkState) (text : List ℕ) → AcceptsRow (Err engine_end.Memory) row old new text ⊎ HasText row old new text → out1 ≡ out0
    → (before journal : List Entry) → IsBehind before journal old → KeptNext journal (accepted_entry row) old out0 out1
kept_accepted row old new out0 out1 text (inl cut) out before journal stands = let c = cut before journal stands.engine in record { lines = c.lines; brings = c.brings; out = out }
kept_accepted row old new out0 out1 text (inr (inl ran)) out before journal stands = let r = ran.accepts before journal stands.engine in record { lines = r.lines; brings = r.brings; out = out }
kept_accepted row old new out0 out1 text (inr (inr failed)) out before journal stands = let f = failed.1 before journal stands.engine in record { lines = f.lines; brings = f.brings; out = out }

takes_accepted : (result : Result (Unit {0}) Stop) (row : Row) (old new : Keeping) (out0 out1 : SinkState) → IsNext old (accepted_entry row) → RunsAccepted result row old new out0 out1
    → Takes result (accepted_entry row) old new out0 out1
takes_accepted (Ok done) row old new out0 out1 next ran = next_accepted row old new out0 out1 ran.0 next ran.1 ran.2
takes_accepted (Err (stop.Fault stream kind time)) row old new out0 out1 next ran = (
  λ before journal stands.
      let f = ran.1 before journal stands.engine in
      record { is_fault = f.is_fault; lines = f.lines; brings = f.brings; out = ran.2 ∙ ap (grown out0) f.text },
  tt,
)
takes_accepted (Err (stop.CutFault stream kind time)) row old new out0 out1 next ran = (
  λ before journal stands.
      let f = ran.1 before journal stands.engine in
      record { is_fault = f.is_fault; lines = f.lines; brings = f.brings; out = subst (PutBroke out0 out1) f.text ran.2 },
  tt,
)
takes_accepted (Err stop.Put) row old new out0 out1 next ran = (cut_accepted row old new out0 out1 ran.0 ran.1 ran.2, tt)
takes_accepted (Err stop.Memory) row old new out0 out1 next ran = kept_accepted row old new out0 out1 ran.0 ran.1 ran.2

taken_accepted : (row : Row) (old new : Keeping) (text : List ℕ) → RanRow row old new text → HasTaken (accepted_entry row) old new
taken_accepted row old new text ran = record { going = ran.going; merged = ran.merged; rows = ran.rows; late = omega (arith, ran.late); accepted = ran.accepted }

when_accepted : (result : Result (Unit {0}) Stop) (row : Row) (old new : Keeping) (out0 out1 : SinkState) → RunsAccepted result row old new out0 out1 → OnOk result (HasTaken (accepted_entry row) old new)
when_accepted (Ok done) row old new out0 out1 ran = taken_accepted row old new ran.0 ran.1
when_accepted (Err how) row old new out0 out1 ran = tt

-- a late row
abbrev late_entry : Row → ℕ → Entry
late_entry row t = record { row = row; mark = mark.Late t }

takes_late : (row : Row) (t : ℕ) (old : Keeping) (out : SinkState) → IsNext old (late_entry row t) → Takes (Ok tt) (late_entry row t) old (late_counted old) out out
takes_late row t old out next before journal stands = record {
  stands = record {
    legal = legal_more before journal (late_entry row t) old stands next;
    engine = late_behind old.state (bounded_seen old.store) (bounded_remembers old.store) before journal (late_entry row t) t refl stands.engine;
  };
  lines = [];
  brings = settled_lines-append_late old.state.plan old.state.given_start journal (late_entry row t) t refl old.state.show ∙ sym (append-nil _);
  out = sym (grown_nil out);
}

taken_late : (row : Row) (t : ℕ) (old : Keeping) → IsGoing old → HasTaken (late_entry row t) old (late_counted old)
taken_late row t old going = record { going = going; merged = refl; rows = omega arith; late = refl; accepted = omega arith }

-- how the end of an engine stops an accepted row
pub stopped_row : (end : EngineEnd) (how : Stop) (row : Row) (old new : Keeping) (out0 out1 : SinkState) (text : List ℕ) → AcceptsRow (Err end) row old new text → StopsAt end how text out0 out1
    → RunsAccepted (Err how) row old new out0 out1
stopped_row (engine_end.Fault stream kind time) how row old new out0 out1 text accepts (inl at) = subst (λ (s : Stop). RunsAccepted (Err s) row old new out0 out1) (sym at.0) (text, accepts, at.1)
stopped_row (engine_end.Fault stream kind time) how row old new out0 out1 text accepts (inr (inl at)) =
    subst (λ (s : Stop). RunsAccepted (Err s) row old new out0 out1) (sym at.0) (text, accepts, at.1)
stopped_row (engine_end.Fault stream kind time) how row old new out0 out1 text accepts (inr (inr at)) =
    subst (λ (s : Stop). RunsAccepted (Err s) row old new out0 out1) (sym at.0) (text, inr (inr (record { stream = stream; kind = kind; time = time }, accepts)), at.1)
stopped_row engine_end.Memory how row old new out0 out1 text accepts at = subst (λ (s : Stop). RunsAccepted (Err s) row old new out0 out1) (sym at.0) (text, inl accepts, at.1)

-- an accepted row was run, and its text put or not
pub ran_and_put : (result : Result (Unit {0}) Stop) (row : Row) (old new : Keeping) (out0 out1 : SinkState) (text : List ℕ) → RanRow row old new text → Puts result text out0 out1 → RunsAccepted result row old new out0 out1
ran_and_put (Ok done) row old new out0 out1 text ran puts = (text, ran, puts)
ran_and_put (Err (stop.Fault stream kind time)) row old new out0 out1 text ran puts = absurd puts
ran_and_put (Err (stop.CutFault stream kind time)) row old new out0 out1 text ran puts = absurd puts
ran_and_put (Err stop.Put) row old new out0 out1 text ran puts = (text, ran, puts)
ran_and_put (Err stop.Memory) row old new out0 out1 text ran puts = (text, inr (inl ran), puts)

-- an entry, by its mark

module _ (result : Result (Unit {0}) Stop) (entry : Entry) (old new : Keeping) (out0 out1 : SinkState) (m : Mark) (is : entry.mark ≡ m) where
  takes_as : Takes result (record { row = entry.row; mark = m }) old new out0 out1 → Takes result entry old new out0 out1
  takes_as takes = subst (λ (k : Mark). Takes result (record { row = entry.row; mark = k }) old new out0 out1) (sym is) takes

  taken_as : OnOk result (HasTaken (record { row = entry.row; mark = m }) old new) → OnOk result (HasTaken entry old new)
  taken_as taken = subst (λ (k : Mark). OnOk result (HasTaken (record { row = entry.row; mark = k }) old new)) (sym is) taken

  next_as : IsNext old entry → IsNext old (record { row = entry.row; mark = m })
  next_as next = subst (λ (k : Mark). IsNext old (record { row = entry.row; mark = k })) is next

module _ (result : Result (Unit {0}) Stop) (entry : Entry) (old new : Keeping) (out0 out1 : SinkState) (is : entry.mark ≡ mark.Accepted) (ran : RunsAccepted result entry.row old new out0 out1) where
  pub takes_entry_accepted : IsNext old entry → Takes result entry old new out0 out1
  takes_entry_accepted next =
      takes_as result entry old new out0 out1 mark.Accepted is (takes_accepted result entry.row old new out0 out1 (next_as result entry old new out0 out1 mark.Accepted is next) ran)

  pub taken_entry_accepted : OnOk result (HasTaken entry old new)
  taken_entry_accepted = taken_as result entry old new out0 out1 mark.Accepted is (when_accepted result entry.row old new out0 out1 ran)

module _ (entry : Entry) (t : ℕ) (old : Keeping) (out : SinkState) (is : entry.mark ≡ mark.Late t) where
  pub takes_entry_late : IsNext old entry → Takes (Ok tt) entry old (late_counted old) out out
  takes_entry_late next =
      takes_as (Ok tt) entry old (late_counted old) out out (mark.Late t) is (takes_late entry.row t old out (next_as (Ok tt) entry old (late_counted old) out out (mark.Late t) is next))

  pub taken_entry_late : IsGoing old → HasTaken entry old (late_counted old)
  taken_entry_late going = taken_as (Ok tt) entry old (late_counted old) out out (mark.Late t) is (taken_late entry.row t old going)

-- what is run at the end of a run

-- an engine's answer at the end, over an empty text
abbrev pub FinishesWith : Result (Unit {0}) EngineEnd → Keeping → Keeping → List ℕ → Type 0
FinishesWith result old new text = FinishesBehind result old.state (bounded_seen old.store) (bounded_remembers old.store) new.state [] text

-- no part of nothing is put
none_cut : (out0 out1 : SinkState) (text : List ℕ) → text ≡ [] → PutBroke out0 out1 text → ⊥
none_cut out0 out1 text none broke =
    let parts : length text ≡ length broke.part + length broke.is_part.rest = ap length broke.is_part.joined ∙ length-append broke.part broke.is_part.rest in
    let empty : length text ≡ 0 = ap length none in
    omega (arith, parts, empty, broke.is_part.not_whole)

pub stopped_close : (end : EngineEnd) (how : Stop) (old new : Keeping) (out0 out1 : SinkState) (text : List ℕ) → FinishesWith (Err end) old new text → StopsAt end how text out0 out1
    → Closes (Err how) old new out0 out1
stopped_close (engine_end.Fault stream kind time) how old new out0 out1 text finishes (inl at) =
    subst (λ (s : Stop). Closes (Err s) old new out0 out1) (sym at.0)
    (λ before journal stands.
    let f = finishes before journal stands.engine in
    record { is_fault = f.is_fault; completes = f.completes; out = at.1 ∙ ap (grown out0) f.text ∙ grown_nil out0 })
stopped_close (engine_end.Fault stream kind time) how old new out0 out1 text finishes (inr (inl at)) =
    subst (λ (s : Stop). Closes (Err s) old new out0 out1) (sym at.0) (λ before journal stands. none_cut out0 out1 text (finishes before journal stands.engine).text at.1)
stopped_close (engine_end.Fault stream kind time) how old new out0 out1 text finishes (inr (inr at)) = subst (λ (s : Stop). Closes (Err s) old new out0 out1) (sym at.0) at.1
stopped_close engine_end.Memory how old new out0 out1 text finishes at = subst (λ (s : Stop). Closes (Err s) old new out0 out1) (sym at.0) at.1

pub closed_and_put : (result : Result (Unit {0}) Stop) (old new : Keeping) (out0 out1 : SinkState) (text : List ℕ) → FinishesWith (Ok tt) old new text → new.accepted ≡ old.accepted → new.late ≡ old.late
    → Puts result text out0 out1 → Closes result old new out0 out1
closed_and_put (Ok done) old new out0 out1 text finishes count late puts = λ before journal stands.
    let f = finishes before journal stands.engine in
    record { fine = f.fine; lines = f.lines; completes = f.completes; out = puts ∙ ap (grown out0) f.text; steps = f.steps; accepted = count; late = late; counted = f.counted }
closed_and_put (Err (stop.Fault stream kind time)) old new out0 out1 text finishes count late puts = absurd puts
closed_and_put (Err (stop.CutFault stream kind time)) old new out0 out1 text finishes count late puts = absurd puts
closed_and_put (Err stop.Put) old new out0 out1 text finishes count late puts = λ before journal stands.
    let f = finishes before journal stands.engine in
    record { fine = f.fine; lines = f.lines; completes = f.completes; out = subst (PutBroke out0 out1) f.text puts }
closed_and_put (Err stop.Memory) old new out0 out1 text finishes count late puts = puts

-- an engine's answers, over a text that is empty
pub accepts_as : (result : Result (Unit {0}) EngineEnd) (row : Row) (state0 state1 : EngineState) (store0 store1 : BoundedStore) (text0 text1 : List ℕ) → text0 ≡ []
    → AcceptsBehind result row state0 (bounded_seen store0) (bounded_remembers store0) state1 (bounded_seen store1) (bounded_remembers store1) text0 text1
    → AcceptsBehind result row state0 (bounded_seen store0) (bounded_remembers store0) state1 (bounded_seen store1) (bounded_remembers store1) [] text1
accepts_as result row state0 state1 store0 store1 text0 text1 empty accepts =
    subst (λ (t : List ℕ). AcceptsBehind result row state0 (bounded_seen store0) (bounded_remembers store0) state1 (bounded_seen store1) (bounded_remembers store1) t text1) empty accepts

pub finishes_as : (result : Result (Unit {0}) EngineEnd) (state0 state1 : EngineState) (store0 : BoundedStore) (text0 text1 : List ℕ) → text0 ≡ []
    → FinishesBehind result state0 (bounded_seen store0) (bounded_remembers store0) state1 text0 text1 → FinishesBehind result state0 (bounded_seen store0) (bounded_remembers store0) state1 [] text1
finishes_as result state0 state1 store0 text0 text1 empty finishes =
    subst (λ (t : List ℕ). FinishesBehind result state0 (bounded_seen store0) (bounded_remembers store0) state1 t text1) empty finishes

-- an engine that is for the same plan, start and lines
pub set_as : (state0 state1 : EngineState) → state1.plan ≡ state0.plan → state1.given_start ≡ state0.given_start → state1.show ≡ state0.show → setting_at state1 ≡ setting_at state0
set_as state0 state1 plan given_start show =
    ap (λ (p : Plan). record { plan = p; start = state1.given_start; show = state1.show }) plan
    ∙ (ap (λ (o : Option ℕ). record { plan = state0.plan; start = o; show = state1.show }) given_start ∙ ap (λ (w : Show). record { plan = state0.plan; start = state0.given_start; show = w }) show)
