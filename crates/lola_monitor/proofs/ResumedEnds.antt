-- The last line of a run that goes on from a state, and its status.
use Rattle.std.proofs.Common.{◌≡◌, ◌⊎◌, ◌≤◌, ℕ, zero, suc, List, ◌++◌, Option, inl, inr, sym, ap, ◌∙◌, subst, arith}
use Rattle.lola_port.specs.States.{PutBroke, ShelfState, SinkState, grown}
use Rattle.lola_model.specs.Faults.{RunFault}
use Rattle.lola_model.specs.declared.journal.Entry.{Entry}
use Rattle.lola_model.specs.declared.plan.Plan.{Plan}
use Rattle.lola_report.specs.Ends.{end_text}
use Rattle.lola_report.specs.declared.end.EndLine.{EndLine}
use Rattle.lola_report.specs.declared.end.EndLine.TheVariants.{Done, Usage, Refused, Malformed, Fault, UnreadableSpecification, UnreadableSource, Analysed}
use Rattle.lola_save.specs.StateEnds.{state_end_text}
use Rattle.lola_save.specs.declared.end.StateEnd.{StateEnd}
use Rattle.lola_save.specs.declared.end.StateEnd.TheVariants as state_end
use Rattle.lola_monitor_run.specs.Behind.{HasFrontBehind, IsRowFaultBehind, verdicts_behind}
use Rattle.lola_monitor_run.specs.Verdicts.{Setting}
use Rattle.lola_monitor.specs.Causes.{Causes, HasCause}
use Rattle.lola_monitor.specs.Command.{Resumption}
use Rattle.lola_monitor.specs.Conclusions.{Concluded}
use Rattle.lola_monitor.specs.Monitor.{Call, IsEarly, Outside, Wrote, call, fault_line}
use Rattle.lola_monitor.specs.Outcomes as outcomes
use Rattle.lola_monitor.specs.Outcomes.{AreUntouched}
use Rattle.lola_monitor.specs.Pasts.{IsRefusedNamed, IsStateRefused, IsUnreadNamed}
use Rattle.lola_monitor.specs.Refusals.{StoodStateRefused}
use Rattle.lola_monitor.specs.Resumed.{Behind, CutsOffBehind, EndedResumed, IsAtDeadlineBehind, IsBrokenBehind, IsCutDoneBehind, IsCutMalformedBehind, IsCutOffBehind, IsCutShortBehind, IsDoneBehind, IsFaultBehind, IsMalformedBehind, IsSourceNotGiven, IsUnfinishedBehind, RowsBehind, inputs_of, setting_of_resumed}
use Rattle.lola_monitor.specs.ResumedOutcomes.{GoesOn, StoodCut, StoodCutFault, StoodCutOff, StoodDone, StoodFault, StoodMalformed, StoodNotGiven, StoodUnfinished, WorksResumed}
use Rattle.lola_monitor.specs.declared.call_end.CallEnd.{CallEnd}
use Rattle.lola_monitor.specs.declared.call_end.CallEnd.TheVariants.{Line, Drilled, Report, Replayed, Stated, CutFault, Put, Memory}
use Rattle.lola_monitor.proofs.CauseStatuses.{has_cause, resumed_ends}
use Rattle.lola_monitor.proofs.Ends.{wrote_behind, wrote_same}
use Rattle.lola_monitor.proofs.Laws.{PutsAddUp}
use Rattle.lola_monitor.proofs.RefusalEnds as refusals
use Rattle.lola_monitor.proofs.Working.{broke_before}

-- what each status means, by cases on the status
abbrev pub MeansResumed : ℕ → Resumption → Call → Type 0
MeansResumed zero names c = GoesOn (λ start front. IsDoneBehind names start front c) names c.before.shelf
MeansResumed (suc zero) names c = ⊥
MeansResumed (suc (suc zero)) names c = ⊥
MeansResumed (suc (suc (suc zero))) names c = IsRefusedNamed names.specification c
MeansResumed (suc (suc (suc (suc zero)))) names c = GoesOn (λ start front. IsMalformedBehind names start front c) names c.before.shelf
MeansResumed (suc (suc (suc (suc (suc zero))))) names c = GoesOn (λ start front. IsFaultBehind names start front c) names c.before.shelf
MeansResumed (suc (suc (suc (suc (suc (suc zero)))))) names c = IsUnreadNamed c ⊎ (IsSourceNotGiven names c ⊎ GoesOn (λ start front. IsCutShortBehind names start front c) names c.before.shelf)
MeansResumed (suc (suc (suc (suc (suc (suc (suc zero))))))) names c = GoesOn (λ start front. IsBrokenBehind names start front c) names c.before.shelf
MeansResumed (suc (suc (suc (suc (suc (suc (suc (suc zero)))))))) names c = IsEarly c ⊎ GoesOn (λ start front. IsUnfinishedBehind names start front c) names c.before.shelf
MeansResumed (suc (suc (suc (suc (suc (suc (suc (suc (suc zero))))))))) names c = IsStateRefused names.specification names.state c
MeansResumed (suc (suc (suc (suc (suc (suc (suc (suc (suc (suc n)))))))))) names c = ⊥

at_status : (n status : ℕ) (names : Resumption) (c : Call) → status ≡ n → MeansResumed n names c → MeansResumed status names c
at_status n status names c is means = subst (λ k. MeansResumed k names c) (sym is) means

-- what holds at each status that comes
pub by_resumed : (P : ℕ → Type 0) (names : Resumption) (c : Call) → (MeansResumed 0 names c → P 0) → (MeansResumed 3 names c → P 3) → (MeansResumed 4 names c → P 4) → (MeansResumed 5 names c → P 5) → (MeansResumed 6 names c → P 6)
    → (MeansResumed 7 names c → P 7) → (MeansResumed 8 names c → P 8) → (MeansResumed 9 names c → P 9) → (status : ℕ) → MeansResumed status names c → P status
by_resumed P names c done refused malformed fault unreadable broken memory state zero means = done means
by_resumed P names c done refused malformed fault unreadable broken memory state (suc zero) means = absurd means
by_resumed P names c done refused malformed fault unreadable broken memory state (suc (suc zero)) means = absurd means
by_resumed P names c done refused malformed fault unreadable broken memory state (suc (suc (suc zero))) means = refused means
by_resumed P names c done refused malformed fault unreadable broken memory state (suc (suc (suc (suc zero)))) means = malformed means
by_resumed P names c done refused malformed fault unreadable broken memory state (suc (suc (suc (suc (suc zero))))) means = fault means
by_resumed P names c done refused malformed fault unreadable broken memory state (suc (suc (suc (suc (suc (suc zero)))))) means = unreadable means
by_resumed P names c done refused malformed fault unreadable broken memory state (suc (suc (suc (suc (suc (suc (suc zero))))))) means = broken means
by_resumed P names c done refused malformed fault unreadable broken memory state (suc (suc (suc (suc (suc (suc (suc (suc zero)))))))) means = memory means
by_resumed P names c done refused malformed fault unreadable broken memory state (suc (suc (suc (suc (suc (suc (suc (suc (suc zero))))))))) means = state means
by_resumed P names c done refused malformed fault unreadable broken memory state (suc (suc (suc (suc (suc (suc (suc (suc (suc (suc n)))))))))) means = absurd means

-- what holds behind each journal
onward : (P Q : Option ℕ → List Entry → Type 0) (names : Resumption) (shelf : ShelfState) → ((start : Option ℕ) (front : List Entry) → P start front → Q start front) → GoesOn P names shelf → GoesOn Q names shelf
onward P Q names shelf f goes = record { plan = goes.plan; is_plan = goes.is_plan; is_state = goes.is_state; rows = λ start front is. f start front (goes.rows start front is) }

module _ (names : Resumption) (words : List (List ℕ)) (before after : Outside) (last : SinkState) where
  abbrev here : Call
  here = call words before (record after { out = last })

  module _ (start : Option ℕ) (front : List Entry) where
    -- what the rows behind a journal come to, by the plan
    abbrev s : Plan → Setting
    s plan = setting_of_resumed plan names start front

    done : PutsAddUp → (line : EndLine) → last ≡ grown after.out (end_text line) → StoodDone names start front before after line → IsDoneBehind names start front here
    done parts line is w = record {
      all = w.all;
      no_fault = w.no_fault;
      trace = w.put.trace;
      out = is
          ∙ (ap (λ o. grown o (end_text line)) w.put.out
          ∙ (parts before.out (verdicts_behind (s w.all.run.plan) front w.all.run.journal) (end_text line)
          ∙ ap (λ (l : EndLine). grown before.out (verdicts_behind (s w.all.run.plan) front w.all.run.journal ++ end_text l)) w.line_is));
    }

    malformed : PutsAddUp → (line : EndLine) → last ≡ grown after.out (end_text line) → StoodMalformed names start front before after line → IsMalformedBehind names start front here
    malformed parts line is w = record {
      at = w.at;
      some = w.some;
      no_fault = w.no_fault;
      trace = w.put.trace;
      out = is
          ∙ (ap (λ o. grown o (end_text line)) w.put.out
          ∙ (parts before.out (verdicts_behind (s w.some.run.plan) front w.some.run.journal) (end_text line)
          ∙ ap (λ (l : EndLine). grown before.out (verdicts_behind (s w.some.run.plan) front w.some.run.journal ++ end_text l)) w.line_is));
    }

    -- the last line broke
    cut_done : (line : EndLine) → PutBroke after.out last (end_text line) → StoodDone names start front before after line → IsCutDoneBehind names start front here
    cut_done line broke w = record {
      all = w.all;
      no_fault = w.no_fault;
      trace = w.put.trace;
      out = subst (λ (l : EndLine). PutBroke (grown before.out (verdicts_behind (s w.all.run.plan) front w.all.run.journal)) last (end_text l)) w.line_is
          (subst (λ (o : SinkState). PutBroke o last (end_text line)) w.put.out broke);
    }

    cut_malformed : (line : EndLine) → PutBroke after.out last (end_text line) → StoodMalformed names start front before after line → IsCutMalformedBehind names start front here
    cut_malformed line broke w = record {
      at = w.at;
      some = w.some;
      no_fault = w.no_fault;
      trace = w.put.trace;
      out = subst (λ (l : EndLine). PutBroke (grown before.out (verdicts_behind (s w.some.run.plan) front w.some.run.journal)) last (end_text l)) w.line_is
          (subst (λ (o : SinkState). PutBroke o last (end_text line)) w.put.out broke);
    }

    -- a fault at the last row, or at the deadlines of the last stamp
    placed : (fault : RunFault) (run : RowsBehind names start front here) → IsRowFaultBehind (s run.plan) front run.journal fault ⊎ outcomes.IsAtDeadlineBehind front before.shelf (s run.plan) names.sources run.asks run.journal
        → IsRowFaultBehind (s run.plan) front run.journal fault ⊎ IsAtDeadlineBehind names start front here run
    placed fault run (inl at) = inl at
    placed fault run (inr at) = inr (record { settled = at.settled; read = at.read })

    fault : PutsAddUp → (line : EndLine) → Wrote after.out last (end_text line) → StoodFault names start front before after line → IsFaultBehind names start front here
    fault parts line wrote w = record {
      run = w.run;
      given = w.given;
      fault = w.fault;
      is_fault = w.is_fault;
      stands = placed w.fault w.run w.stands;
      trace = w.put.trace;
      out = subst (λ (l : EndLine). Wrote before.out last (verdicts_behind (s w.run.plan) front w.run.journal ++ end_text l)) w.line_is
          (wrote_behind parts before.out after.out last (verdicts_behind (s w.run.plan) front w.run.journal) (end_text line) w.put.out wrote);
    }

    cut_fault : last ≡ after.out → StoodCutFault names start front before after → IsFaultBehind names start front here
    cut_fault same w = record {
      run = w.run;
      given = w.given;
      fault = w.fault;
      is_fault = w.is_fault;
      stands = inl w.stands;
      trace = w.trace;
      out = inr (broke_before before.out last (verdicts_behind (s w.run.plan) front w.run.journal) (end_text (fault_line w.run.plan w.fault))
          (subst (λ (o : SinkState). PutBroke before.out o (verdicts_behind (s w.run.plan) front w.run.journal)) (sym same) w.out));
    }

    cut_short : (line : EndLine) → Wrote after.out last (end_text line) → StoodCut names start front before after line → IsCutShortBehind names start front here
    cut_short line wrote w = record {
      at = w.at;
      others = w.others;
      given = w.given.given;
      no_fault = w.no_fault;
      trace = w.put.trace;
      out = subst (λ (l : EndLine). Wrote (grown before.out (verdicts_behind (s w.others.run.plan) front w.others.run.journal)) last (end_text l)) w.line_is
          (subst (λ (o : SinkState). Wrote o last (end_text line)) w.put.out wrote);
    }

    cut_off : last ≡ after.out → StoodCutOff names start front before after → IsCutOffBehind names start front here
    cut_off same w = record {
      run = w.run;
      given = w.given;
      cut = subst (λ (o : SinkState). CutsOffBehind (s w.run.plan) front names.sources w.run.asks before (record after { out = o }) w.run.journal) (sym same) w.cut;
    }

    -- there was no memory, for a row or for the last line
    unfinished : last ≡ after.out → StoodUnfinished names start front before after → IsUnfinishedBehind names start front here
    unfinished same w = record {
      run = w.run;
      trace = w.trace;
      out = subst (λ (o : SinkState). HasFrontBehind (s w.run.plan) front before.out o w.run.journal ⊎ (o ≡ grown before.out (verdicts_behind (s w.run.plan) front w.run.journal))) (sym same) w.out;
    }

    done_without : last ≡ after.out → (line : EndLine) → StoodDone names start front before after line → IsUnfinishedBehind names start front here
    done_without same line w = record { run = w.all.run; trace = w.put.trace; out = inr (same ∙ w.put.out) }

    malformed_without : last ≡ after.out → (line : EndLine) → StoodMalformed names start front before after line → IsUnfinishedBehind names start front here
    malformed_without same line w = record { run = w.some.run; trace = w.put.trace; out = inr (same ∙ w.put.out) }

    fault_without : last ≡ after.out → (line : EndLine) → StoodFault names start front before after line → IsUnfinishedBehind names start front here
    fault_without same line w = record { run = w.run; trace = w.put.trace; out = inr (same ∙ w.put.out) }

    cut_without : last ≡ after.out → (line : EndLine) → StoodCut names start front before after line → IsUnfinishedBehind names start front here
    cut_without same line w = record { run = w.others.run; trace = w.put.trace; out = inr (same ∙ w.put.out) }

  -- ---- before any row

  not_given : (line : EndLine) → Wrote after.out last (end_text line) → StoodNotGiven line names before after → IsSourceNotGiven names here
  not_given line wrote w = record {
    asks = w.asks;
    between = w.between;
    at = w.at;
    least = w.least;
    ask = w.ask;
    is_ask = w.is_ask;
    not_given = w.not_given;
    rose = w.rose;
    trace = w.early.trace;
    out = subst (λ (l : EndLine). Wrote before.out last (end_text l)) w.line_is (wrote_same before.out after.out last (end_text line) w.early.out wrote);
  }

  early : last ≡ after.out → AreUntouched before after → IsEarly here
  early same w = record { trace = w.trace; out = same ∙ w.out }

  -- ---- by how the call ended

  abbrev P : ℕ → Type 0
  P status = MeansResumed status names here

  rows : (A B : Option ℕ → List Entry → Type 0) → ((start : Option ℕ) (front : List Entry) → A start front → B start front) → GoesOn A names before.shelf → GoesOn B names before.shelf
  rows A B f goes = onward A B names before.shelf f goes

  ended_unreadable : (n status : ℕ) → StoodNotGiven (UnreadableSource n) names before after ⊎ GoesOn (λ start front. StoodCut names start front before after (UnreadableSource n)) names before.shelf
      → Concluded status (Line (UnreadableSource n)) after.out last → P status
  ended_unreadable n status (inl w) (inl e) = at_status 6 status names here e.0 (inr (inl (not_given (UnreadableSource n) (inl e.1) w)))
  ended_unreadable n status (inl w) (inr (inl e)) = at_status 6 status names here e.0 (inr (inl (not_given (UnreadableSource n) (inr e.1) w)))
  ended_unreadable n status (inl w) (inr (inr e)) = at_status 8 status names here e.0 (inl (early e.1 w.early))
  ended_unreadable n status (inr w) (inl e) = at_status 6 status names here e.0 (inr (inr (rows _ _ (λ start front. cut_short start front (UnreadableSource n) (inl e.1)) w)))
  ended_unreadable n status (inr w) (inr (inl e)) = at_status 6 status names here e.0 (inr (inr (rows _ _ (λ start front. cut_short start front (UnreadableSource n) (inr e.1)) w)))
  ended_unreadable n status (inr w) (inr (inr e)) = at_status 8 status names here e.0 (inr (rows _ _ (λ start front. cut_without start front e.1 (UnreadableSource n)) w))

  ended_refused : (end : StateEnd) (status : ℕ) → StoodStateRefused end names.specification names.state before after
      → ((status ≡ 9) × (last ≡ grown after.out (state_end_text end))) ⊎ (((status ≡ 9) × PutBroke after.out last (state_end_text end)) ⊎ ((status ≡ 8) × (last ≡ after.out))) → P status
  ended_refused end status w (inl e) = at_status 9 status names here e.0 (refusals.state_refused words before after last end names.specification names.state (inl e.1) w)
  ended_refused end status w (inr (inl e)) = at_status 9 status names here e.0 (refusals.state_refused words before after last end names.specification names.state (inr e.1) w)
  ended_refused end status w (inr (inr e)) = at_status 8 status names here e.0 (inl (early e.1 w.early))

  ended_memory : (status : ℕ) → AreUntouched before after ⊎ GoesOn (λ start front. StoodUnfinished names start front before after) names before.shelf → Concluded status Memory after.out last → P status
  ended_memory status (inl w) e = at_status 8 status names here e.0 (inl (early e.1 w))
  ended_memory status (inr w) e = at_status 8 status names here e.0 (inr (rows _ _ (λ start front. unfinished start front e.1) w))

  pub means_resumed : PutsAddUp → (status : ℕ) (outcome : CallEnd) → WorksResumed outcome names before after → Concluded status outcome after.out last → MeansResumed status names here
  means_resumed parts status (Line (Done a l n v)) works (inl e) = at_status 0 status names here e.0 (rows _ _ (λ start front. done start front parts (Done a l n v) e.1) works)
  means_resumed parts status (Line (Done a l n v)) works (inr (inl e)) = at_status 7 status names here e.0 (rows _ _ (λ start front w. inr (inl (cut_done start front (Done a l n v) e.1 w))) works)
  means_resumed parts status (Line (Done a l n v)) works (inr (inr e)) = at_status 8 status names here e.0 (inr (rows _ _ (λ start front. done_without start front e.1 (Done a l n v)) works))
  means_resumed parts status (Line Usage) works ended = absurd works
  means_resumed parts status (Line (Refused r)) works (inl e) = at_status 3 status names here e.0 (refusals.refused words before after last r names.specification (inl e.1) works)
  means_resumed parts status (Line (Refused r)) works (inr (inl e)) = at_status 3 status names here e.0 (refusals.refused words before after last r names.specification (inr e.1) works)
  means_resumed parts status (Line (Refused r)) works (inr (inr e)) = at_status 8 status names here e.0 (inl (early e.1 works.early))
  means_resumed parts status (Line (Malformed m row kind)) works (inl e) = at_status 4 status names here e.0 (rows _ _ (λ start front. malformed start front parts (Malformed m row kind) e.1) works)
  means_resumed parts status (Line (Malformed m row kind)) works (inr (inl e)) =
      at_status 7 status names here e.0 (rows _ _ (λ start front w. inr (inr (cut_malformed start front (Malformed m row kind) e.1 w))) works)
  means_resumed parts status (Line (Malformed m row kind)) works (inr (inr e)) = at_status 8 status names here e.0 (inr (rows _ _ (λ start front. malformed_without start front e.1 (Malformed m row kind)) works))
  means_resumed parts status (Line (Fault name kind time)) works (inl e) = at_status 5 status names here e.0 (rows _ _ (λ start front. fault start front parts (Fault name kind time) (inl e.1)) works)
  means_resumed parts status (Line (Fault name kind time)) works (inr (inl e)) = at_status 5 status names here e.0 (rows _ _ (λ start front. fault start front parts (Fault name kind time) (inr e.1)) works)
  means_resumed parts status (Line (Fault name kind time)) works (inr (inr e)) = at_status 8 status names here e.0 (inr (rows _ _ (λ start front. fault_without start front e.1 (Fault name kind time)) works))
  means_resumed parts status (Line UnreadableSpecification) works (inl e) = at_status 6 status names here e.0 (inl (inl (refusals.unread words before after last 0 (end_text UnreadableSpecification) (inl e.1) works)))
  means_resumed parts status (Line UnreadableSpecification) works (inr (inl e)) = at_status 6 status names here e.0 (inl (inl (refusals.unread words before after last 0 (end_text UnreadableSpecification) (inr e.1) works)))
  means_resumed parts status (Line UnreadableSpecification) works (inr (inr e)) = at_status 8 status names here e.0 (inl (early e.1 works.early))
  means_resumed parts status (Line (UnreadableSource m)) works ended = ended_unreadable m status works ended
  means_resumed parts status (Line (Analysed n w)) works ended = absurd works
  means_resumed parts status (Drilled line) works ended = absurd works
  means_resumed parts status (Report text) works ended = absurd works
  means_resumed parts status (Replayed end) works ended = absurd works
  means_resumed parts status (Stated state_end.Unreadable) works (inl e) = at_status 6 status names here e.0 (inl (inr (refusals.unread words before after last 1 (state_end_text state_end.Unreadable) (inl e.1) works)))
  means_resumed parts status (Stated state_end.Unreadable) works (inr (inl e)) = at_status 6 status names here e.0 (inl (inr (refusals.unread words before after last 1 (state_end_text state_end.Unreadable) (inr e.1) works)))
  means_resumed parts status (Stated state_end.Unreadable) works (inr (inr e)) = at_status 8 status names here e.0 (inl (early e.1 works.early))
  means_resumed parts status (Stated (state_end.Damaged line)) works ended = ended_refused (state_end.Damaged line) status works ended
  means_resumed parts status (Stated state_end.OtherSpecification) works ended = ended_refused state_end.OtherSpecification status works ended
  means_resumed parts status (Stated state_end.TooManySteps) works ended = absurd works
  means_resumed parts status CutFault works e = at_status 5 status names here e.0 (rows _ _ (λ start front. cut_fault start front e.1) works)
  means_resumed parts status Put works e = at_status 7 status names here e.0 (rows _ _ (λ start front w. inl (cut_off start front e.1 w)) works)
  means_resumed parts status Memory works e = ended_memory status works e

-- ---- what the call leaves

told_unreadable : (names : Resumption) (c : Call) → MeansResumed 6 names c → IsUnreadNamed c ⊎ (IsSourceNotGiven names c ⊎ Behind IsCutShortBehind names c)
told_unreadable names c (inl u) = inl u
told_unreadable names c (inr (inl n)) = inr (inl n)
told_unreadable names c (inr (inr g)) = inr (inr g.rows)

told_memory : (names : Resumption) (c : Call) → MeansResumed 8 names c → IsEarly c ⊎ Behind IsUnfinishedBehind names c
told_memory names c (inl e) = inl e
told_memory names c (inr g) = inr g.rows

pub ended_by_means : (status : ℕ) (names : Resumption) (c : Call) → MeansResumed status names c → HasCause status (inputs_of names) c → EndedResumed status names c
ended_by_means status names c means cause =
    let at : (n : ℕ) → status ≡ n → MeansResumed n names c = λ n is. subst (λ (k : ℕ). MeansResumed k names c) is means in
    record {
      done = λ is. (at 0 is).rows;
      refused = λ is. at 3 is;
      malformed = λ is. (at 4 is).rows;
      fault = λ is. (at 5 is).rows;
      unreadable = λ is. told_unreadable names c (at 6 is);
      broken = λ is. (at 7 is).rows;
      memory = λ is. told_memory names c (at 8 is);
      state = λ is. at 9 is;
      cause = cause;
      others = by_resumed (λ s. (s ≡ 0) ⊎ ((3 ≤ s) × (s ≤ 9))) names c (λ m. inl (omega arith)) (λ m. inr (omega arith, omega arith)) (λ m. inr (omega arith, omega arith)) (λ m. inr (omega arith, omega arith))
          (λ m. inr (omega arith, omega arith)) (λ m. inr (omega arith, omega arith)) (λ m. inr (omega arith, omega arith)) (λ m. inr (omega arith, omega arith)) status means;
    }

-- what a run leaves that goes on from a state, once its last line was put or not
pub ended_resumed : PutsAddUp → (names : Resumption) (words : List (List ℕ)) (before after : Outside) (last : SinkState) (status : ℕ) (outcome : CallEnd)
    → WorksResumed outcome names before after → Causes outcome (inputs_of names) before after → Concluded status outcome after.out last → EndedResumed status names (call words before (record after { out = last }))
ended_resumed parts names words before after last status outcome works cause concluded =
    ended_by_means status names (call words before (record after { out = last })) (means_resumed names words before after last parts status outcome works concluded)
    (has_cause (inputs_of names) words before after last parts status outcome (resumed_ends outcome names before after works) cause concluded)
