-- A run that goes on, after its specification and its state were read.
use Rattle.std.proofs.Common.{◌≡◌, ◌⊎◌, ℕ, List, [], ◌∷◌, ◌++◌, Option, Err, map, inl, inr, refl, sym, ap, ◌∙◌, subst}
use Rattle.lola_port.specs.Asks.{given_ask}
use Rattle.lola_port.specs.States.{ShelfState}
use Rattle.lola_port.specs.declared.traits.Ask.{Ask}
use Rattle.lola_model.specs.Acceptance.{IsAccepted}
use Rattle.lola_model.specs.Faults.{RunFault}
use Rattle.lola_model.specs.Journal.{known_start}
use Rattle.lola_model.specs.Journal as journals
use Rattle.lola_model.specs.declared.journal.Entry.{Entry}
use Rattle.lola_model.specs.declared.journal.Show.{Show}
use Rattle.lola_model.specs.declared.plan.Plan.{Plan}
use Rattle.lola_report.specs.declared.end.EndLine.{EndLine}
use Rattle.lola_report.specs.declared.end.EndLine.TheVariants.{Done, Usage, Refused, Malformed, Fault, UnreadableSpecification, UnreadableSource, Analysed}
use Rattle.lola_rows.specs.Rows.{Whole}
use Rattle.lola_save.specs.declared.end.StateEnd.TheVariants as state_end
use Rattle.lola_save_text.specs.Damage.{IsStateText}
use Rattle.lola_monitor_run.specs.Behind.{IsRowFaultBehind}
use Rattle.lola_monitor_run.specs.Running.{Keeping, setting_in}
use Rattle.lola_monitor_run.specs.Verdicts.{Setting}
use Rattle.lola_monitor.specs.Causes.{AllHome}
use Rattle.lola_monitor.specs.Command.{Resumption}
use Rattle.lola_monitor.specs.Monitor.{AllRead, HasItsModels, Outside, Plans, WereGiven}
use Rattle.lola_monitor.specs.Outcomes.{ArePutBehind, AreUntouched, BrokenRun, CameHome, CutFaultRun, CutRun, DoneRun, EndsSources, FaultRun, IsAtDeadlineBehind, MalformedRun, NotGivenRun, PlansName, RunsBehindAny, RunsSources, SourcesRun, TakesSources, UnfinishedRun, noted, without_plan}
use Rattle.lola_monitor.specs.Pasts.{AllGivenIn, IsFrontIn, IsSavedAs, RanBehind}
use Rattle.lola_monitor.specs.Replaying.{IsText}
use Rattle.lola_monitor.specs.Resumed.{CutsOffBehind, inputs_of, setting_of_resumed}
use Rattle.lola_monitor.specs.ResumedOutcomes.{GoesOn, IsStateTold, RunRead, StoodCut, StoodCutFault, StoodCutOff, StoodDone, StoodFault, StoodMalformed, StoodUnfinished, WorksResumed, without_engine}
use Rattle.lola_monitor.specs.Stating.{NoEngine}
use Rattle.lola_monitor.specs.declared.call_end.CallEnd.{CallEnd}
use Rattle.lola_monitor.specs.declared.call_end.CallEnd.TheVariants.{Line, Drilled, Report, Replayed, Stated, CutFault, Put, Memory}
use Rattle.lola_monitor.specs.declared.call_end.Unloaded.{Unloaded}
use Rattle.lola_monitor.specs.declared.call_end.Unloaded.TheVariants as unloaded
use Rattle.lola_monitor.specs.declared.call_end.Unplanned.{Unplanned}
use Rattle.lola_monitor.specs.declared.call_end.Unplanned.TheVariants as unplanned
use Rattle.lola_monitor.proofs.Calls.{asked_both}
use Rattle.lola_monitor.proofs.FailedAsks.{given_at}
use Rattle.lola_monitor.proofs.TextsFirst as first
use Rattle.lola_monitor.proofs.TextsRefused.{first_unread, front_saved, plan_refused, second_unread, state_refused, text_told}

abbrev setting : Plan → Option ℕ → Show → Setting
setting plan start show = record { plan = plan; start = start; show = show }

module _ (names : Resumption) (plan : Plan) (text : List ℕ) (before : Outside) (one : ShelfState) (is_plan : Plans (before.shelf.told names.specification) plan)
    (is_text : IsText (before.shelf.told names.specification) text) (read_first : one ≡ noted before.shelf names.specification) where
  -- the specification was read, and no engine made
  pub works_unloaded : (end : Unloaded) (after : Outside) → AreUntouched before after → NoEngine end text plan names.state one after.shelf → WorksResumed (without_engine end) names before after
  works_unloaded (unloaded.Stated state_end.Unreadable) after early m = second_unread names.specification names.state before one after read_first early m
  works_unloaded (unloaded.Stated (state_end.Damaged line)) after early r = state_refused names.specification names.state text plan before one is_plan is_text read_first (state_end.Damaged line) after early r
  works_unloaded (unloaded.Stated state_end.OtherSpecification) after early r = state_refused names.specification names.state text plan before one is_plan is_text read_first state_end.OtherSpecification after early r
  works_unloaded (unloaded.Stated state_end.TooManySteps) after early r = absurd r
  works_unloaded unloaded.Memory after early r = inl early

  module _ (accepted : IsAccepted plan) (one_model : HasItsModels plan) (two : ShelfState) (kept : Keeping) (merge : Option ℕ) (read : RunRead text plan names.show names.state kept merge one two) where
    abbrev mid : Outside
    mid = record before { shelf = two }

    told_is : two.told ≡ before.shelf.told
    told_is = ap (λ (s : ShelfState). s.told) read.shelf ∙ ap (λ (s : ShelfState). s.told) read_first

    asks_are : two.asks ≡ before.shelf.asks ++ map given_ask (names.specification ∷ names.state ∷ [])
    asks_are = asked_both names.specification names.state before.shelf one two read_first read.shelf

    count_is : two.count ≡ before.shelf.count
    count_is = ap (λ (s : ShelfState). s.count) read.shelf ∙ ap (λ (s : ShelfState). s.count) read_first

    is_state : IsStateTold (before.shelf.told names.specification) plan (before.shelf.told names.state)
    is_state all bytes is_all is_bytes =
        subst (λ (t : List ℕ). IsStateText t plan bytes) (is_text all is_all)
        (subst (IsStateText text plan) (text_told names.specification names.state text plan before.shelf one is_plan is_text read_first read.bytes bytes read.is_text is_bytes) read.is_state)

    module _ (after : Outside) (start : Option ℕ) (front : List Entry) (is_front : IsFrontIn before.shelf names.specification names.state start front) where
      abbrev s : Setting
      s = setting_of_resumed plan names start front

      abbrev texts : List (List ℕ)
      texts = names.specification ∷ names.state ∷ []

      saved : IsSavedAs text plan read.bytes start front
      saved = front_saved names.specification names.state text plan before.shelf one is_plan is_text read_first read.bytes read.is_text start front is_front

      set : setting_in kept ≡ s
      set =
          ap (λ (p : Plan). setting p kept.state.given_start kept.state.show) read.plan_is
          ∙ (ap (λ (t : Option ℕ). setting plan t kept.state.show) (read.start_is start front saved)
          ∙ ap (λ (w : Show). setting plan (known_start start (journals.accepted front)) w) read.show_is)

      run_at : (outcome : CallEnd) → RunsBehindAny names.in_turns outcome kept names.sources mid after → RunsSources front names.in_turns outcome s names.sources mid after
      run_at outcome any = subst (λ (t : Setting). RunsSources front names.in_turns outcome t names.sources mid after) set (any front (read.stands start front saved))

      were_given : (asks : List Ask) → CameHome names.sources asks two after.shelf → WereGiven names.sources asks before.shelf after.shelf
      were_given asks home = first.were_given texts names.sources plan before.shelf two after.shelf told_is asks_are count_is asks home

      all_read : (asks : List Ask) (journal : List Entry) → AllRead two plan names.sources asks journal → AllRead before.shelf plan names.sources asks journal
      all_read asks journal all = first.all_read texts names.sources plan before.shelf two after.shelf told_is asks_are count_is asks journal all

      abbrev ran : (asks : List Ask) → SourcesRun front names.in_turns s names.sources two after.shelf → CameHome names.sources asks two after.shelf → RanBehind (inputs_of names) start front before.shelf after.shelf
      ran asks run home = record {
        asks = asks;
        between = first.between_all texts names.sources plan before.shelf two after.shelf told_is asks_are count_is asks home.appended;
        plan = plan;
        is_plan = is_plan;
        accepted = accepted;
        one_model = one_model;
        journal = run.journal;
        legal = run.legal;
        sources = run.sources;
        traceable = run.traceable;
        rows = first.all_begin texts names.sources plan before.shelf two after.shelf told_is asks_are count_is run.journal run.rows;
        turns = λ asked. first.go_in_turns texts names.sources plan before.shelf two after.shelf told_is asks_are count_is asks run.journal home.appended (run.turns asked);
        given = inr (were_given asks home);
      }

      all_given_in : AllHome names.sources two after.shelf → AllGivenIn (inputs_of names) before.shelf after.shelf
      all_given_in home = record { asks = first.all_given texts names.sources plan before.shelf two after.shelf told_is asks_are count_is home; count = home.count ∙ count_is }

      put_so : (journal : List Entry) → ArePutBehind front s mid after journal → ArePutBehind front s before after journal
      put_so journal put = record { trace = put.trace; out = put.out }

      done : (line : EndLine) → DoneRun front names.in_turns line s names.sources mid after → StoodDone names start front before after line
      done line r = record {
        all = record {
          run = ran r.ended.asks r.ended.run r.ended.home;
          given = all_given_in r.ended.all;
          rows = first.each_end texts names.sources plan before.shelf two after.shelf told_is asks_are count_is Whole r.ended.run.journal r.rows;
        };
        put = put_so r.ended.run.journal r.ended.put;
        no_fault = r.ended.no_fault;
        line_is = r.line_is;
      }

      malformed : (line : EndLine) → MalformedRun front names.in_turns line s names.sources mid after → StoodMalformed names start front before after line
      malformed line r = record {
        at = r.at;
        some = record {
          run = ran r.ended.asks r.ended.run r.ended.home;
          given = all_given_in r.ended.all;
          ends = r.ends;
          rows = first.all_end texts names.sources plan before.shelf two after.shelf told_is asks_are count_is r.ended.run.journal r.ends r.rows;
          least = r.least;
        };
        put = put_so r.ended.run.journal r.ended.put;
        no_fault = r.ended.no_fault;
        line_is = r.line_is;
      }

      stands_at : (fault : RunFault) (asks : List Ask) (journal : List Entry) → IsRowFaultBehind s front journal fault ⊎ IsAtDeadlineBehind front two s names.sources asks journal
          → IsRowFaultBehind s front journal fault ⊎ IsAtDeadlineBehind front before.shelf s names.sources asks journal
      stands_at fault asks journal (inl at) = inl at
      stands_at fault asks journal (inr at) = inr (record { settled = at.settled; read = all_read asks journal at.read })

      fault : (line : EndLine) → FaultRun front names.in_turns line s names.sources mid after → StoodFault names start front before after line
      fault line r = record {
        run = ran r.asks r.run r.home;
        given = were_given r.asks r.home;
        put = put_so r.run.journal r.put;
        fault = r.fault;
        is_fault = r.is_fault;
        stands = stands_at r.fault r.asks r.run.journal r.stands;
        line_is = r.line_is;
      }

      cut_fault : CutFaultRun front names.in_turns s names.sources mid after → StoodCutFault names start front before after
      cut_fault r = record { run = ran r.asks r.run r.home; given = were_given r.asks r.home; fault = r.fault; is_fault = r.is_fault; stands = r.stands; trace = r.trace; out = r.out }

      cut : (line : EndLine) → CutRun front names.in_turns line s names.sources mid after → StoodCut names start front before after line
      cut line r = record {
        at = r.at;
        others = record {
          run = ran r.asks r.run r.home;
          least = r.least;
          rose = first.rose_by texts names.sources plan before.shelf two after.shelf told_is asks_are count_is (r.home.failed r.at r.least);
          unless_given = λ place ask there none. let given = given_at r.asks place ask there r.home.given in absurd (cc);
          read = λ were. (r.home.named, all_read r.asks r.run.journal r.read);
        };
        given = were_given r.asks r.home;
        put = put_so r.run.journal r.put;
        no_fault = r.no_fault;
        line_is = r.line_is;
      }

      cut_at : (asks : List Ask) (journal : List Entry) → CutsOffBehind s front names.sources asks mid after journal → CutsOffBehind s front names.sources asks before after journal
      cut_at asks journal (inl t) = inl (record { no_fault = t.no_fault; trace = t.trace; out = t.out })
      cut_at asks journal (inr (inl r)) = inr (inl (record { no_fault = r.no_fault; trace = r.trace; out = r.out }))
      cut_at asks journal (inr (inr d)) = inr (inr (record { no_fault = d.no_fault; read = all_read asks journal d.read; trace = d.trace; out = d.out }))

      cut_off : BrokenRun front names.in_turns s names.sources mid after → StoodCutOff names start front before after
      cut_off r = record { run = ran r.asks r.run r.home; given = were_given r.asks r.home; cut = cut_at r.asks r.run.journal r.cut }

      unfinished : UnfinishedRun front names.in_turns s names.sources mid after → StoodUnfinished names start front before after
      unfinished r = record { run = ran r.asks r.run r.home; trace = r.trace; out = r.out }

    module _ (after : Outside) where
      goes_on : (P : Option ℕ → List Entry → Type 0) → ((start : Option ℕ) (front : List Entry) → IsFrontIn before.shelf names.specification names.state start front → P start front) → GoesOn P names before.shelf
      goes_on P rows = record { plan = plan; is_plan = is_plan; is_state = is_state; rows = rows }

      -- the sources were read
      ran_sources : (outcome : CallEnd) → EndsSources outcome → RunsBehindAny names.in_turns outcome kept names.sources mid after → WorksResumed outcome names before after
      ran_sources (Line (Done a l n v)) ends any =
          goes_on (λ start front. StoodDone names start front before after (Done a l n v))
          (λ start front is. done after start front is (Done a l n v) (run_at after start front is (Line (Done a l n v)) any))
      ran_sources (Line (Malformed n row kind)) ends any =
          goes_on (λ start front. StoodMalformed names start front before after (Malformed n row kind))
          (λ start front is. malformed after start front is (Malformed n row kind) (run_at after start front is (Line (Malformed n row kind)) any))
      ran_sources (Line (Fault stream kind time)) ends any =
          goes_on (λ start front. StoodFault names start front before after (Fault stream kind time))
          (λ start front is. fault after start front is (Fault stream kind time) (run_at after start front is (Line (Fault stream kind time)) any))
      ran_sources (Line (UnreadableSource n)) ends any =
          inr (goes_on (λ start front. StoodCut names start front before after (UnreadableSource n))
          (λ start front is. cut after start front is (UnreadableSource n) (run_at after start front is (Line (UnreadableSource n)) any)))
      ran_sources (Line Usage) ends any = absurd ends
      ran_sources (Line (Refused r)) ends any = absurd ends
      ran_sources (Line UnreadableSpecification) ends any = absurd ends
      ran_sources (Line (Analysed n w)) ends any = absurd ends
      ran_sources (Drilled line) ends any = absurd ends
      ran_sources (Report t) ends any = absurd ends
      ran_sources (Replayed end) ends any = absurd ends
      ran_sources (Stated end) ends any = absurd ends
      ran_sources CutFault ends any = goes_on (λ start front. StoodCutFault names start front before after) (λ start front is. cut_fault after start front is (run_at after start front is CutFault any))
      ran_sources Put ends any = goes_on (λ start front. StoodCutOff names start front before after) (λ start front is. cut_off after start front is (run_at after start front is Put any))
      ran_sources Memory ends any = inr (goes_on (λ start front. StoodUnfinished names start front before after) (λ start front is. unfinished after start front is (run_at after start front is Memory any)))

      not_given : (outcome : CallEnd) → NotGivenRun outcome mid after → WorksResumed outcome names before after
      not_given outcome r = subst (λ (o : CallEnd). WorksResumed o names before after) (sym r.outcome_is) (inl (record {
        asks = r.asks;
        between = first.between_all (names.specification ∷ names.state ∷ []) names.sources plan before.shelf two after.shelf told_is asks_are count_is r.asks r.appended;
        at = r.at;
        least = r.least;
        ask = r.ask;
        is_ask = r.is_ask;
        not_given = r.not_given;
        rose = first.rose_by (names.specification ∷ names.state ∷ []) names.sources plan before.shelf two after.shelf told_is asks_are count_is r.rose;
        early = record { trace = r.early.trace; out = r.early.out };
        line_is = refl;
      }))

      pub works_resumed : (outcome : CallEnd) → TakesSources names.in_turns outcome kept names.sources mid after → WorksResumed outcome names before after
      works_resumed outcome (inl r) = not_given outcome r
      works_resumed outcome (inr (inl r)) = subst (λ (o : CallEnd). WorksResumed o names before after) (sym r.outcome_is) (inl (record { trace = r.early.trace; out = r.early.out }))
      works_resumed outcome (inr (inr r)) = ran_sources outcome r.ends r.behind

-- a specification that has no plan, or no memory to tell
pub works_unplanned_state : (end : Unplanned) (names : Resumption) (before after : Outside) → AreUntouched before after → PlansName (Err end) names.specification before.shelf after.shelf → WorksResumed (without_plan end) names before after
works_unplanned_state unplanned.Unreadable names before after early p = first_unread names.specification before after early p
works_unplanned_state (unplanned.Refused r) names before after early p = plan_refused r names.specification before after early p
works_unplanned_state unplanned.Memory names before after early p = inl early
