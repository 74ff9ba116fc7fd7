-- The deadlines at the last stamp, behind the rows of a run.
use Rattle.std.proofs.Common.{Bool, ◌≡◌, ◌+◌, ℕ, List, [], ◌++◌, length, None, Result, Ok, Err, inl, inr, sym, ap, ◌∙◌, subst}
use Rattle.std.proofs.lemmas.List.{append-nil}
use Rattle.lola_port.specs.States.{PutBroke, SinkState, grown}
use Rattle.lola_model.specs.Faults.{RunFault}
use Rattle.lola_model.specs.Runs.{final_lines, settled_lines, settled_model, whole_model}
use Rattle.lola_model.specs.Texts.{text_of}
use Rattle.lola_model.specs.declared.journal.Entry.{Entry}
use Rattle.lola_engine.specs.Engines.{Completes}
use Rattle.lola_monitor_run.specs.Verdicts.{Setting, fault_in, settled_fault_in}
use Rattle.lola_monitor_run.specs.Running.{ClosedByFault, CutClose, Keeping, setting_in}
use Rattle.lola_monitor_run.specs.declared.stop.Stop.{Stop}
use Rattle.lola_monitor_run.specs.declared.stop.Stop.TheVariants as stop
use Rattle.lola_monitor_run.specs.Feeds.{Supply, World, world}
use Rattle.lola_monitor_run.specs.Behind.{CameBehind, ClosedBehind, Closes, EndedByCutFaultBehind, EndedByFaultBehind, EndsBehind, RanOutOfMemoryBehind, RanToCutFaultBehind, RanToEndBehind, RanToFaultBehind, RunsBehind, ThroughCutBehind, ThroughWellBehind, settled_behind, verdicts_behind}
use Rattle.lola_monitor_run.proofs.Fronts.{fault_stays}
use Rattle.lola_monitor_run.proofs.Going.{begun}
use Rattle.lola_monitor_run.proofs.Runs.{all_now, fine_now}
use Rattle.lola_monitor_run.proofs.Sinks.{more_text}
use Rattle.lola_monitor_run.proofs.TextsBehind.{HasAll, all_put_behind, stays_behind, verdicts_more}

-- the lines of the whole model, in a setting
abbrev CompletesIn : Setting → List Entry → List (List ℕ) → Type 0
CompletesIn s journal lines = final_lines s.plan s.start journal s.show ≡ settled_lines s.plan s.start journal s.show ++ lines

module _ (in_turns : Bool) (before : List Entry) (first : World) (k1 k2 : Keeping) (sources : List Supply) (o1 o2 t1 : SinkState) (ran : RanToEndBehind in_turns before first (world k1 sources o1 t1)) where
  abbrev last : World
  last = world k2 sources o2 t1

  abbrev journal : List Entry
  journal = ran.came.journal

  fine : settled_fault_in (setting_in first.kept) (before ++ journal) ≡ None
  fine = fine_now first (world k1 sources o1 t1) ran.setting before journal ran.stands

  all : HasAll (setting_in first.kept) before journal
  all = all_now first (world k1 sources o1 t1) ran.setting before journal ran.stands

  text_all : (lines : List (List ℕ)) → Completes k1.state (before ++ journal) lines → verdicts_behind (setting_in first.kept) before journal ≡ settled_behind (setting_in first.kept) before journal ++ text_of lines
  text_all lines completes = verdicts_more (setting_in first.kept) before journal lines (subst (λ (s : Setting). CompletesIn s (before ++ journal) lines) ran.setting completes) all

  abbrev came_last : CameBehind in_turns before first last
  came_last = record { journal = journal; legal = ran.came.legal; sources = ran.came.sources; traceable = ran.came.traceable; rounds = ran.came.rounds }

  well : ClosedBehind before (before ++ journal) k1 k2 o1 o2 → ThroughWellBehind in_turns before first last
  well c = record {
    through = record {
      came = came_last;
      begun = begun first.sources sources journal ran.fed;
      trace = ran.trace;
      out = more_text _ _ _ _ _ _ ran.out c.out (text_all c.lines c.completes);
    };
    fed = ran.fed;
    ended = ran.ended;
    no_fault = ap (λ (s : Setting). fault_in s (before ++ journal)) (sym ran.setting) ∙ c.fine;
    settled = fine;
    steps = subst (λ (s : Setting). length (settled_model s.plan s.start before) + k2.state.steps ≡ length (whole_model s.plan s.start (before ++ journal))) ran.setting c.steps;
    accepted = c.accepted ∙ ran.accepted;
    late = c.late ∙ ran.late;
    lines = subst (λ (s : Setting). length (settled_lines s.plan s.start before s.show) + k2.state.lines ≡ length (final_lines s.plan s.start (before ++ journal) s.show)) ran.setting c.counted;
  }

  -- at the deadline's fault
  by_fault : (fault : RunFault) → ClosedByFault fault (before ++ journal) k1 o1 o2 → EndedByFaultBehind in_turns before fault first last
  by_fault fault c = record {
    through = record {
      came = came_last;
      begun = begun first.sources sources journal ran.fed;
      trace = ran.trace;
      out = c.out ∙ (ran.out ∙ ap (grown first.out) (sym (text_all [] c.completes ∙ append-nil _)));
    };
    is_fault = ap (λ (s : Setting). fault_in s (before ++ journal)) (sym ran.setting) ∙ c.is_fault;
    place = inr (record { settled = fine; fed = ran.fed; ended = ran.ended });
  }

  -- the verdicts of the deadlines were cut short
  by_put : CutClose (before ++ journal) k1 o1 o2 → ThroughCutBehind in_turns before first last
  by_put c = record {
    came = came_last;
    begun = begun first.sources sources journal ran.fed;
    no_fault = ap (λ (s : Setting). fault_in s (before ++ journal)) (sym ran.setting) ∙ c.fine;
    place = record { settled = fine; fed = ran.fed; ended = ran.ended };
    trace = ran.trace;
    out = record { brings = text_of c.lines; joined = text_all c.lines c.completes; cut = subst (λ (o : SinkState). PutBroke o o2 (text_of c.lines)) ran.out c.out };
  }

  by_memory : o2 ≡ o1 → RanOutOfMemoryBehind in_turns before first last
  by_memory same = record {
    came = came_last;
    begun = begun first.sources sources journal ran.fed;
    trace = ran.trace;
    out = all_put_behind (setting_in first.kept) before journal first.out o2 all (same ∙ ran.out);
  }

  pub closes : (result : Result (Unit {0}) Stop) → Closes result k1 k2 o1 o2 → EndsBehind in_turns before result first last
  closes (Ok done) did = well (did before (before ++ journal) ran.stands)
  closes (Err (stop.Fault stream kind time)) did = by_fault (record { stream = stream; kind = kind; time = time }) (did before (before ++ journal) ran.stands)
  closes (Err (stop.CutFault stream kind time)) did = absurd (did before (before ++ journal) ran.stands)
  closes (Err stop.Put) did = inr (by_put (did before (before ++ journal) ran.stands))
  closes (Err stop.Memory) did = by_memory did

module _ (in_turns : Bool) (before : List Entry) (first final : World) where
  -- at the fault of a row
  row_fault_ends : (fault : RunFault) → RanToFaultBehind in_turns before fault first final → EndedByFaultBehind in_turns before fault first final
  row_fault_ends fault r = record {
    through = record { came = r.came; begun = r.begun; trace = r.trace; out = r.out ∙ ap (grown first.out) (sym (stays_behind (setting_in first.kept) before r.came.journal fault r.stands.settled)) };
    is_fault = fault_stays (setting_in first.kept) (before ++ r.came.journal) fault r.stands.settled;
    place = inl r.stands;
  }

  -- and where the lines before it were cut short
  row_fault_cut : (fault : RunFault) → RanToCutFaultBehind in_turns before fault first final → EndedByCutFaultBehind in_turns before fault first final
  row_fault_cut fault r = record {
    came = r.came;
    begun = r.begun;
    trace = r.trace;
    out = subst (PutBroke first.out final.out) (sym (stays_behind (setting_in first.kept) before r.came.journal fault r.stands.settled)) r.out;
    is_fault = fault_stays (setting_in first.kept) (before ++ r.came.journal) fault r.stands.settled;
    place = r.stands;
  }

  -- no deadlines are run where a row has a fault or the run was cut short
  pub stays_ended : (how : Stop) → RunsBehind in_turns before (Err how) first final → EndsBehind in_turns before (Err how) first final
  stays_ended (stop.Fault stream kind time) r = row_fault_ends (record { stream = stream; kind = kind; time = time }) r
  stays_ended (stop.CutFault stream kind time) r = row_fault_cut (record { stream = stream; kind = kind; time = time }) r
  stays_ended stop.Put r = inl r
  stays_ended stop.Memory r = r
