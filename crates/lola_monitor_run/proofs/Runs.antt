-- How a run goes on, and how its rows end.
use Rattle.std.proofs.Common.{◌≡◌, ℕ, suc, ◌⊎◌, ◌+◌, ◌<◌, ◌≤◌, List, [], ◌∷◌, ◌++◌, Option, None, Some, Result, Ok, Err, Bool, true, false, sym, ap, ◌∙◌, refl, inl, inr, arith, subst, append_assoc, length}
use Rattle.std.proofs.lemmas.List.{append-nil}
use Rattle.std.specs.Prelude.{slice_get}
use Rattle.lola_port.specs.States.{PutBroke, SinkState, grown}
use Rattle.lola_model.specs.Journal.{IsLegal, accepted}
use Rattle.lola_model.specs.Faults.{RunFault}
use Rattle.lola_model.specs.Texts.{text_of}
use Rattle.lola_model.specs.Trace.{IsTraceable, trace_line, trace_text}
use Rattle.lola_model.specs.declared.journal.Entry.{Entry}
use Rattle.lola_model.proofs.Journals.{trace_text-append_one}
use Rattle.lola_engine.specs.Engines.{Brings}
use Rattle.lola_monitor_run.specs.Verdicts.{AreTraceable, Setting, settled_fault_in}
use Rattle.lola_monitor_run.specs.Running.{IsAccepted, IsGoing, IsSetAs, Keeping, setting_in}
use Rattle.lola_monitor_run.specs.declared.stop.Stop.{Stop}
use Rattle.lola_monitor_run.specs.declared.stop.Stop.TheVariants as stop
use Rattle.lola_monitor_run.specs.Feeds.{GoInRounds, HaveEnded, IsSound, Supply, World}
use Rattle.lola_monitor_run.specs.Behind.{CameBehind, HasTakenNone, IsBehind, IsRowFaultBehind, RanOutOfMemoryBehind, RanToCutFaultBehind, RanToEndBehind, RanToFailedPutBehind, RanToFaultBehind, RanToRowCutBehind, RanToTraceCutBehind, RunsBehind, settled_behind}
use Rattle.lola_monitor_run.specs.Turning.{Drawn, NotTraced, OutCut, OutKept, Passed, RunsOn, SawCutFault, SawFault, SoFar, Stepped, Steps, StopsFrom, Touched, TraceCut, Traced}
use Rattle.lola_monitor_run.proofs.EntriesTold.{BringsIn, accepted_is, told_more}
use Rattle.lola_monitor_run.proofs.Sinks.{broke_behind, grown_nil, more_text}
use Rattle.lola_monitor_run.proofs.Taking.{accepted_append, late_append, legal_more, no_fewer_lines}
use Rattle.lola_monitor_run.proofs.TextsBehind.{HasAll, all_put_behind, cut_at_row_behind, has_all_more, last_not_put_behind, nothing_behind, settled_more}
use Rattle.lola_monitor_run.proofs.Drawing.{drawn_none, draws, round_drawn, sits}
use Rattle.lola_monitor_run.proofs.Going.{begun, in_rounds, touched_in_rounds}

-- a run has begun, or begins to go on
pub started : (first : World) → length first.sources ≤ 64 → HasTakenNone first.kept
    → ((s : ℕ) (source : Supply) → slice_get first.sources s ≡ Some source → (source.end ≡ None) × (source.number ≡ 0)) → SoFar first 0 0 first
started first few fresh none = record {
  few = few;
  journal = [];
  drawn = drawn_none first none;
  setting = refl;
  traceable = tt;
  trace = sym (grown_nil first.trace);
  going = fresh.going;
  rows = omega (arith, fresh.rows);
  late = fresh.late;
  accepted = fresh.accepted;
  stands = λ before stands. subst (λ (j : List Entry). IsBehind before j first.kept) (sym (append-nil before)) stands;
  out = λ before stands. sym (grown_nil first.out) ∙ ap (grown first.out) (sym (nothing_behind (setting_in first.kept) before));
}

-- a journal that is legal for a run is so for what the run was made for
legal_first : (first now : World) (journal : List Entry) → IsSetAs first.kept now.kept → IsLegal now.kept.state.given_start journal → IsLegal first.kept.state.given_start journal
legal_first first now journal setting legal = subst (λ (o : Option ℕ). IsLegal o journal) (ap (λ (s : Setting). s.start) setting) legal

-- what a run stands for at first, whatever it is
module _ (first now : World) (setting : IsSetAs first.kept now.kept) (before journal : List Entry) (stands : IsBehind before (before ++ journal) now.kept) where
  pub legal_now : IsLegal first.kept.state.given_start (before ++ journal)
  legal_now = legal_first first now (before ++ journal) setting stands.legal

  pub fine_now : settled_fault_in (setting_in first.kept) (before ++ journal) ≡ None
  fine_now = ap (λ (s : Setting). settled_fault_in s (before ++ journal)) (sym setting) ∙ stands.engine.fine

  pub all_now : HasAll (setting_in first.kept) before journal
  all_now = subst (λ (s : Setting). HasAll s before journal) setting (no_fewer_lines before (before ++ journal) now.kept stands)

module _ (first : World) (n k : ℕ) (now next : World) (within : k < length first.sources) (so : SoFar first n k now) (entry : Entry) (traced : Traced k entry now next) where
  -- all of the journal with the entry was drawn and traced
  pub drawn_is : Drawn first n (suc k) next.sources (so.journal ++ entry ∷ [])
  drawn_is = draws first n k now.sources so.journal so.drawn now.kept.state.plan next.sources entry traced.took

  pub rounds_are : GoInRounds first.sources next.sources (so.journal ++ entry ∷ [])
  rounds_are = in_rounds first n (suc k) next.sources (so.journal ++ entry ∷ []) (omega (arith, within)) drawn_is

  pub told_is : AreTraceable first.kept.state.plan (so.journal ++ entry ∷ [])
  told_is = told_more first.kept.state.plan so.journal entry so.traceable (subst (λ (s : Setting). IsTraceable s.plan entry) so.setting traced.traceable)

  pub trace_is : next.trace ≡ grown first.trace (trace_text (so.journal ++ entry ∷ []))
  trace_is = more_text _ _ _ _ _ _ so.trace traced.trace (trace_text-append_one so.journal entry)

  module _ (before : List Entry) (stood : IsBehind before before first.kept) where
    -- it is legal
    legal_is : IsLegal first.kept.state.given_start (before ++ (so.journal ++ entry ∷ []))
    legal_is =
        legal_first first now (before ++ (so.journal ++ entry ∷ [])) so.setting
        (subst (λ (j : List Entry). IsLegal now.kept.state.given_start j) (append_assoc before so.journal (entry ∷ [])) (legal_more before (before ++ so.journal) entry now.kept (so.stands before stood) traced.mark))

    module _ (lines : List (List ℕ)) (brings : Brings now.kept.state (before ++ so.journal) entry lines) where
      brings_is : BringsIn (setting_in first.kept) (before ++ so.journal) entry lines
      brings_is = subst (λ (s : Setting). BringsIn s (before ++ so.journal) entry lines) so.setting brings

      text_is : settled_behind (setting_in first.kept) before (so.journal ++ entry ∷ []) ≡ settled_behind (setting_in first.kept) before so.journal ++ text_of lines
      text_is = settled_more (setting_in first.kept) before so.journal entry lines brings_is (all_now first now so.setting before so.journal (so.stands before stood))

      all_is : HasAll (setting_in first.kept) before (so.journal ++ entry ∷ [])
      all_is = has_all_more (setting_in first.kept) before so.journal entry lines brings_is (all_now first now so.setting before so.journal (so.stands before stood))

    -- the journal of a row's fault, and its verdicts, are said of front and journal
    fault_is : (fault : RunFault) → settled_fault_in (setting_in now.kept) ((before ++ so.journal) ++ entry ∷ []) ≡ Some fault → settled_fault_in (setting_in first.kept) (before ++ (so.journal ++ entry ∷ [])) ≡ Some fault
    fault_is fault is =
        ap (settled_fault_in (setting_in first.kept)) (sym (append_assoc before so.journal (entry ∷ [])))
        ∙ (ap (λ (s : Setting). settled_fault_in s ((before ++ so.journal) ++ entry ∷ [])) (sym so.setting) ∙ is)

    none_is : settled_fault_in (setting_in now.kept) ((before ++ so.journal) ++ entry ∷ []) ≡ None → settled_fault_in (setting_in first.kept) (before ++ (so.journal ++ entry ∷ [])) ≡ None
    none_is is =
        ap (settled_fault_in (setting_in first.kept)) (sym (append_assoc before so.journal (entry ∷ [])))
        ∙ (ap (λ (s : Setting). settled_fault_in s ((before ++ so.journal) ++ entry ∷ [])) (sym so.setting) ∙ is)

    abbrev came_on : CameBehind true before first next
    came_on = record { journal = so.journal ++ entry ∷ []; legal = legal_is; sources = drawn_is.of_sources; traceable = told_is; rounds = λ turns. rounds_are }

module _ (first : World) (n k : ℕ) (now next : World) (within : k < length first.sources) (so : SoFar first n k now) where
  steps_on : Stepped k now next → SoFar first n (suc k) next
  steps_on step =
      let taken = step.taken in
      let more = accepted_append so.journal (step.entry ∷ []) in
      let later = late_append so.journal (step.entry ∷ []) in
      record {
        few = so.few;
        journal = so.journal ++ step.entry ∷ [];
        drawn = drawn_is first n k now next within so step.entry step.traced;
        setting = step.setting ∙ so.setting;
        traceable = told_is first n k now next within so step.entry step.traced;
        trace = trace_is first n k now next within so step.entry step.traced;
        going = taken.going;
        rows = omega (arith, taken.rows, so.rows, more);
        late = omega (arith, taken.late, so.late, later);
        accepted = omega (arith, taken.accepted, so.accepted, more);
        stands = λ before stood. subst (λ (j : List Entry). IsBehind before j next.kept) (append_assoc before so.journal (step.entry ∷ [])) (step.runs before (before ++ so.journal) (so.stands before stood)).stands;
        out = λ before stood.
            let after = step.runs before (before ++ so.journal) (so.stands before stood) in
            more_text _ _ _ _ _ _ (so.out before stood) after.out (text_is first n k now next within so step.entry step.traced before stood after.lines after.brings);
      }

  passes_on : Passed k now next → SoFar first n (suc k) next
  passes_on p = record {
    few = so.few;
    journal = so.journal;
    drawn = sits first n k now.sources so.journal so.drawn next.sources p.out_of;
    setting = ap setting_in p.only.kept ∙ so.setting;
    traceable = so.traceable;
    trace = p.only.trace ∙ so.trace;
    going = subst IsGoing (sym p.only.kept) so.going;
    rows = subst (λ (kept : Keeping). kept.state.rows ≤ length (accepted so.journal) + 1) (sym p.only.kept) so.rows;
    late = ap (λ (kept : Keeping). kept.late) p.only.kept ∙ so.late;
    accepted = ap (λ (kept : Keeping). kept.accepted) p.only.kept ∙ so.accepted;
    stands = λ before stood. subst (IsBehind before (before ++ so.journal)) (sym p.only.kept) (so.stands before stood);
    out = λ before stood. p.only.out ∙ so.out before stood;
  }

  pub goes_on : (row : Bool) → Steps (Ok row) k now next → SoFar first n (suc k) next
  goes_on true step = steps_on step
  goes_on false step = passes_on step

-- a round is over
pub next_begins : (first : World) (n : ℕ) (now : World) → SoFar first n (length first.sources) now → SoFar first (suc n) 0 now
next_begins first n now so = record {
  few = so.few;
  journal = so.journal;
  drawn = round_drawn first n now.sources so.journal so.drawn;
  setting = so.setting;
  traceable = so.traceable;
  trace = so.trace;
  going = so.going;
  rows = so.rows;
  late = so.late;
  accepted = so.accepted;
  stands = so.stands;
  out = so.out;
}

-- all sources have ended
pub ran_behind : (first : World) (n : ℕ) (last : World) → SoFar first n 0 last → HaveEnded last.sources → (before : List Entry) → IsBehind before before first.kept → RanToEndBehind true before first last
ran_behind first n last so ended before stood =
    let stands = so.stands before stood in
    record {
      came = record {
        journal = so.journal;
        legal = legal_now first last so.setting before so.journal stands;
        sources = so.drawn.of_sources;
        traceable = so.traceable;
        rounds = λ turns. in_rounds first n 0 last.sources so.journal (omega arith) so.drawn;
      };
      setting = so.setting;
      fed = so.drawn.fed;
      ended = ended;
      trace = so.trace;
      out = so.out before stood;
      stands = stands;
      accepted = so.accepted;
      late = so.late;
    }

-- all rows of a run
pub all_rows : (result : Result (Unit {0}) Stop) (first last : World) → RunsOn result first last → (before : List Entry) → IsBehind before before first.kept → RunsBehind true before result first last
all_rows (Ok done) first last ran before stood = ran_behind first ran.0.0 last ran.0.1 ran.1 before stood
all_rows (Err how) first last ran before stood = ran before stood

module _ (first : World) (n k : ℕ) (now last : World) (within : k < length first.sources) (so : SoFar first n k now) (before : List Entry) (stood : IsBehind before before first.kept) where
  -- the last row has a fault
  abbrev row_fault : (entry : Entry) (fault : RunFault) (traced : Traced k entry now last) (accepted : IsAccepted entry)
      → settled_fault_in (setting_in now.kept) ((before ++ so.journal) ++ entry ∷ []) ≡ Some fault → IsRowFaultBehind (setting_in first.kept) before (so.journal ++ entry ∷ []) fault
  row_fault entry fault traced accepted is = record {
    front = so.journal;
    row = entry.row;
    whole = ap (λ (e : Entry). so.journal ++ e ∷ []) (accepted_is entry accepted);
    none_before = fine_now first now so.setting before so.journal (so.stands before stood);
    settled = fault_is first n k now last within so entry traced before stood fault is;
  }

  fails : (fault : RunFault) → SawFault fault k now last → RanToFaultBehind true before fault first last
  fails fault saw =
      let bad = saw.runs before (before ++ so.journal) (so.stands before stood) in
      record {
        came = came_on first n k now last within so saw.entry saw.traced before stood;
        begun = begun first.sources last.sources (so.journal ++ saw.entry ∷ []) (drawn_is first n k now last within so saw.entry saw.traced).fed;
        trace = trace_is first n k now last within so saw.entry saw.traced;
        out = more_text _ _ _ _ _ _ (so.out before stood) bad.out (text_is first n k now last within so saw.entry saw.traced before stood bad.lines bad.brings);
        stands = row_fault saw.entry fault saw.traced saw.accepted bad.is_fault;
      }

  -- the lines before a fault were cut short
  faults_cut : (fault : RunFault) → SawCutFault fault k now last → RanToCutFaultBehind true before fault first last
  faults_cut fault saw =
      let bad = saw.runs before (before ++ so.journal) (so.stands before stood) in
      record {
        came = came_on first n k now last within so saw.entry saw.traced before stood;
        begun = begun first.sources last.sources (so.journal ++ saw.entry ∷ []) (drawn_is first n k now last within so saw.entry saw.traced).fed;
        trace = trace_is first n k now last within so saw.entry saw.traced;
        out = subst (PutBroke first.out last.out) (sym (text_is first n k now last within so saw.entry saw.traced before stood bad.lines bad.brings))
            (broke_behind first.out now.out last.out (settled_behind (setting_in first.kept) before so.journal) (text_of bad.lines) (so.out before stood) bad.out);
        stands = row_fault saw.entry fault saw.traced saw.accepted bad.is_fault;
      }

  now_in_rounds : GoInRounds first.sources now.sources so.journal
  now_in_rounds = in_rounds first n k now.sources so.journal (omega (arith, within)) so.drawn

  rounds_cut : (last.sources ≡ now.sources) ⊎ ((at : Touched k now.sources last.sources) × IsSound at.new) → GoInRounds first.sources last.sources so.journal
  rounds_cut (inl same) = subst (λ l. GoInRounds first.sources l so.journal) (sym same) now_in_rounds
  rounds_cut (inr at) = touched_in_rounds first.sources now.sources last.sources k so.journal at.0 at.1 now_in_rounds

  -- the rows up to here, the last of which was not traced whole
  abbrev came_here : (last.sources ≡ now.sources) ⊎ ((at : Touched k now.sources last.sources) × IsSound at.new) → CameBehind true before first last
  came_here touched = record {
    journal = so.journal;
    legal = legal_now first now so.setting before so.journal (so.stands before stood);
    sources = so.drawn.of_sources;
    traceable = so.traceable;
    rounds = λ turns. rounds_cut touched;
  }

  trace_cut : TraceCut k now last → RanToTraceCutBehind true before first last
  trace_cut cut = record {
    came = came_here (inr (cut.at, cut.sound));
    begun = begun first.sources now.sources so.journal so.drawn.fed;
    no_fault = fine_now first now so.setting before so.journal (so.stands before stood);
    trace = record {
      entry = cut.entry;
      traceable = subst (λ (s : Setting). IsTraceable s.plan cut.entry) so.setting cut.traceable;
      cut = subst (λ (t : SinkState). PutBroke t last.trace (trace_line cut.entry)) so.trace cut.trace;
    };
    out = cut.out ∙ so.out before stood;
  }

  row_cut : OutCut k now last → RanToRowCutBehind true before first last
  row_cut cut =
      let c = cut.runs before (before ++ so.journal) (so.stands before stood) in
      record {
        came = came_on first n k now last within so cut.entry cut.traced before stood;
        begun = begun first.sources last.sources (so.journal ++ cut.entry ∷ []) (drawn_is first n k now last within so cut.entry cut.traced).fed;
        no_fault = none_is first n k now last within so cut.entry cut.traced before stood c.fine;
        trace = trace_is first n k now last within so cut.entry cut.traced;
        out = cut_at_row_behind (setting_in first.kept) before so.journal cut.entry (text_of c.lines) first.out now.out last.out (all_is first n k now last within so cut.entry cut.traced before stood c.lines c.brings) cut.accepted
            (text_is first n k now last within so cut.entry cut.traced before stood c.lines c.brings) (so.out before stood) c.out;
      }

  not_traced : NotTraced k now last → RanOutOfMemoryBehind true before first last
  not_traced none = record {
    came = came_here none.touched;
    begun = begun first.sources now.sources so.journal so.drawn.fed;
    trace = none.trace ∙ so.trace;
    out = all_put_behind (setting_in first.kept) before so.journal first.out last.out (all_now first now so.setting before so.journal (so.stands before stood)) (none.out ∙ so.out before stood);
  }

  not_put : OutKept k now last → RanOutOfMemoryBehind true before first last
  not_put kept =
      let c = kept.runs before (before ++ so.journal) (so.stands before stood) in
      record {
        came = came_on first n k now last within so kept.entry kept.traced before stood;
        begun = begun first.sources last.sources (so.journal ++ kept.entry ∷ []) (drawn_is first n k now last within so kept.entry kept.traced).fed;
        trace = trace_is first n k now last within so kept.entry kept.traced;
        out = last_not_put_behind (setting_in first.kept) before so.journal kept.entry (text_of c.lines) first.out last.out (all_is first n k now last within so kept.entry kept.traced before stood c.lines c.brings)
            (text_is first n k now last within so kept.entry kept.traced before stood c.lines c.brings) (c.out ∙ so.out before stood);
      }

  put_fault : TraceCut k now last ⊎ OutCut k now last → RanToFailedPutBehind true before first last
  put_fault (inl cut) = inl (trace_cut cut)
  put_fault (inr cut) = inr (row_cut cut)

  out_of_memory : NotTraced k now last ⊎ OutKept k now last → RanOutOfMemoryBehind true before first last
  out_of_memory (inl none) = not_traced none
  out_of_memory (inr kept) = not_put kept

  stops_from : (how : Stop) → Steps (Err how) k now last → RunsBehind true before (Err how) first last
  stops_from (stop.Fault stream kind time) saw = fails (record { stream = stream; kind = kind; time = time }) saw
  stops_from (stop.CutFault stream kind time) saw = faults_cut (record { stream = stream; kind = kind; time = time }) saw
  stops_from stop.Put saw = put_fault saw
  stops_from stop.Memory saw = out_of_memory saw

pub stops : (first : World) (n k : ℕ) (now last : World) → k < length first.sources → SoFar first n k now → (how : Stop) → Steps (Err how) k now last → StopsFrom how first last
stops first n k now last within so how step before stood = stops_from first n k now last within so before stood how step
