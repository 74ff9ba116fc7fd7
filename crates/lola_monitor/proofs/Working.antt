-- A command's run that begins anew, after its specification was read.
use Rattle.std.proofs.Common.{◌≡◌, ◌⊎◌, ℕ, ◌+◌, ◌<◌, List, [], ◌∷◌, ◌++◌, Option, None, Some, Err, Bool, map, length, slice_get, inl, inr, refl, sym, ap, if◌then◌else◌, ◌∙◌, subst, append_assoc, arith, length-append}
use Rattle.std.proofs.lemmas.List.{length-map}
use Rattle.std.proofs.lemmas.List.Elements.{All-nil}
use Rattle.std.specs.Option.{option_map}
use Rattle.lola_port.specs.Asks.{given_ask}
use Rattle.lola_port.specs.States.{PutBroke, Rose, ShelfState, SinkState, grown}
use Rattle.lola_port.specs.declared.traits.Ask.{Ask}
use Rattle.lola_model.specs.Journal.{rows_of}
use Rattle.lola_model.specs.Acceptance.{IsAccepted}
use Rattle.lola_model.specs.Faults.{RunFault}
use Rattle.lola_model.specs.declared.plan.Plan.{Plan}
use Rattle.lola_model.specs.declared.journal.Entry.{Entry}
use Rattle.lola_model.specs.declared.journal.Row.{Row}
use Rattle.lola_rows.specs.Rows.{Whole}
use Rattle.lola_report.specs.Ends.{end_text}
use Rattle.lola_report.specs.declared.end.EndLine.TheVariants.{Done, Usage, Refused, Malformed, Fault, UnreadableSpecification, UnreadableSource, Analysed}
use Rattle.lola_monitor_run.specs.Verdicts.{HasFront, IsRowFault, Setting, verdicts}
use Rattle.lola_monitor_run.specs.Running.{Keeping, setting_in}
use Rattle.lola_monitor_run.specs.Behind.{HasFrontBehind, IsBehind, IsRowFaultBehind, verdicts_behind}
use Rattle.lola_monitor_run.proofs.Fronts.{nothing_faults, nothing_final}
use Rattle.lola_monitor_run.proofs.Sinks.{grown_nil}
use Rattle.lola_monitor_run.proofs.TextsBehind.{settled_first, verdicts_first}
use Rattle.lola_monitor_command.specs.declared.command.DrillCommand.{DrillCommand}
use Rattle.lola_monitor.specs.Causes.{AllHome}
use Rattle.lola_monitor.specs.Command.{Names, analysed_of, drill_of, run_of, specification_of}
use Rattle.lola_monitor.specs.Drilling.{DrillsBy}
use Rattle.lola_monitor.specs.Monitor.{AllBegin, AllGiven, AllRead, Begins, CutsOff, Ends, GoInTurns, HasItsModels, HasRows, IsAtDeadline, IsUnfinished, Outside, Plans, Ran, WereGiven, analysis_text, asks_between, call, fault_line, first_failed_ask, setting_of, source_rows}
use Rattle.lola_monitor.specs.Outcomes.{AreUntouched, ArePut, ArePutBehind, CameHome, IsAtDeadlineBehind, Marred, NotGivenRun, PlansName, ReadPlan, RunsSources, SourcesRun, TakesSources, UnfinishedRun, Works, noted, without_plan}
use Rattle.lola_monitor.specs.Resumed.{CutsOffBehind}
use Rattle.lola_monitor.specs.declared.call_end.CallEnd.{CallEnd}
use Rattle.lola_monitor.specs.declared.call_end.CallEnd.TheVariants.{Line, Drilled, Report, Replayed, Stated, CutFault, Put, Memory}
use Rattle.lola_monitor.specs.declared.call_end.Unplanned.{Unplanned}
use Rattle.lola_monitor.specs.declared.call_end.Unplanned.TheVariants as unplanned
use Rattle.lola_monitor.proofs.BehindNothing.{cut_at_deadline_first, cut_at_row_first, done_first, has_front_first, row_fault_first}
use Rattle.lola_monitor.proofs.Calls.{between}
use Rattle.lola_monitor.proofs.FailedAsks.{given_at}
use Rattle.lola_monitor.proofs.Listed.{get_image}

-- a part of a text is one of that text and more
pub broke_before : (old new : SinkState) (text more : List ℕ) → PutBroke old new text → PutBroke old new (text ++ more)
broke_before old new text more broke = record {
  part = broke.part;
  is_part = record {
    rest = broke.is_part.rest ++ more;
    joined = ap (λ (l : List ℕ). l ++ more) broke.is_part.joined ∙ append_assoc broke.part broke.is_part.rest more;
    not_whole = (let l = length-append broke.is_part.rest more in omega (arith, l, broke.is_part.not_whole));
  };
  written = broke.written;
  later = broke.later;
  rose = broke.rose;
}

-- no ask has failed behind one that is not
none_behind : (o : Option ℕ) → option_map (λ n. n + 1) o ≡ None → o ≡ None
none_behind None is = refl
none_behind (Some n) is = absurd (cc)

-- where a source was not given there is no row
abbrev no_row : List ℕ → List Row
no_row name = []

none_empty : (names : List (List ℕ)) (n : ℕ) (rows : List Row) → slice_get (map no_row names) n ≡ Some rows → rows ≡ []
none_empty names n rows is = let r = get_image no_row names n rows is in r.2

pub no_turns : (plan : Plan) (names : List (List ℕ)) (before after : ShelfState) (at : ℕ) → first_failed_ask (asks_between before after) ≡ Some at → GoInTurns names plan before after []
no_turns plan names before after at some = record {
  lists = map no_row names;
  many = length-map names no_row;
  fronts = λ n name rows named there bytes told. ((source_rows plan n bytes).rows, ap (λ (r : List Row). r ++ (source_rows plan n bytes).rows) (sym (none_empty names n rows there)));
  whole = λ none. absurd (cc);
  first = record { rounds = 0; rest = []; joined = refl };
}

abbrev pub no_rows : (in_turns : Bool) (s : Setting) (names : List (List ℕ)) (before after : ShelfState) (at : ℕ) → first_failed_ask (asks_between before after) ≡ Some at → SourcesRun [] in_turns s names before after
no_rows in_turns s names before after at some = record {
  journal = [];
  legal = tt;
  sources = All-nil (λ (e : Entry). e.row.source < length names);
  traceable = tt;
  rows = λ n name named bytes told. ((source_rows s.plan n bytes).rows, refl);
  turns = λ asked. no_turns s.plan names before after at some;
}

module _ (words : List (List ℕ)) (names : Names) (plan : Plan) (before after : Outside) (shelf : ShelfState) where
  abbrev s : Setting
  s = setting_of plan names

  abbrev mid : Outside
  mid = record before { shelf = shelf }

  module _ (is_command : run_of words ≡ Some names) (is_plan : Plans (before.shelf.told names.specification) plan) (accepted : IsAccepted plan) (one_model : HasItsModels plan) (read : shelf ≡ noted before.shelf names.specification) where
    told : (name : List ℕ) → shelf.told name ≡ before.shelf.told name
    told name = ap (λ s. s.told name) read

    count_is : shelf.count ≡ before.shelf.count
    count_is = ap (λ s. s.count) read

    asks_after : (asks : List Ask) → after.shelf.asks ≡ shelf.asks ++ asks → asks_between before.shelf after.shelf ≡ given_ask names.specification ∷ asks
    asks_after asks is = between before.shelf after.shelf (given_ask names.specification ∷ asks) (is ∙ ap (λ (s : ShelfState). s.asks ++ asks) read ∙ append_assoc before.shelf.asks (given_ask names.specification ∷ []) asks)

    given : AllHome names.sources shelf after.shelf → AllGiven names before.shelf after.shelf
    given home = record { asks = asks_after (map given_ask names.sources) home.asks; count = home.count ∙ count_is }

    rose_by : Rose shelf.count after.shelf.count → Rose before.shelf.count after.shelf.count
    rose_by rose = subst (λ n. Rose n after.shelf.count) count_is rose

    were_given : (asks : List Ask) → CameHome names.sources asks shelf after.shelf → WereGiven names.sources asks before.shelf after.shelf
    were_given asks home = record {
      named = home.named;
      given = home.given;
      unfailed = λ none. home.unfailed none ∙ count_is;
      failed = λ at some. rose_by (home.failed at some);
    }

    all_begin : (journal : List Entry) → AllBegin shelf plan names.sources journal → AllBegin before.shelf plan names.sources journal
    all_begin journal begin n name is = subst (λ t. Begins t plan n (rows_of n journal)) (told name) (begin n name is)

    all_read : (asks : List Ask) (journal : List Entry) → AllRead shelf plan names.sources asks journal → AllRead before.shelf plan names.sources asks journal
    all_read asks journal all n name ask is there sound = let r = all n name ask is there sound in (r.0, subst (λ t. Ends t plan n (rows_of n journal) r.0) (told name) r.1)

    in_turns : (asks : List Ask) (journal : List Entry) → after.shelf.asks ≡ shelf.asks ++ asks → GoInTurns names.sources plan shelf after.shelf journal → GoInTurns names.sources plan before.shelf after.shelf journal
    in_turns asks journal is turns = record {
      lists = turns.lists;
      many = turns.many;
      fronts = λ n name rows named at. subst (λ t. Begins t plan n rows) (told name) (turns.fronts n name rows named at);
      whole = λ none n name rows named at.
          subst (λ t. HasRows t plan n rows) (told name)
          (turns.whole (ap first_failed_ask (between shelf after.shelf asks is) ∙ none_behind (first_failed_ask asks) (sym (ap first_failed_ask (asks_after asks is)) ∙ none)) n name rows named at);
      first = turns.first;
    }

    abbrev ran : (asks : List Ask) → after.shelf.asks ≡ shelf.asks ++ asks → (run : SourcesRun [] names.in_turns s names.sources shelf after.shelf)
        → (run.journal ≡ []) ⊎ WereGiven names.sources asks before.shelf after.shelf → Ran words before.shelf after.shelf
    ran asks is run given = record {
      names = names;
      is_command = is_command;
      asks = asks;
      between = asks_after asks is;
      plan = plan;
      is_plan = is_plan;
      accepted = accepted;
      one_model = one_model;
      journal = run.journal;
      legal = run.legal;
      sources = run.sources;
      traceable = run.traceable;
      rows = all_begin run.journal run.rows;
      turns = λ asked. in_turns asks run.journal is (run.turns asked);
      given = given;
    }

    -- of sources that were all given
    abbrev ran_home : (asks : List Ask) → SourcesRun [] names.in_turns s names.sources shelf after.shelf → CameHome names.sources asks shelf after.shelf → Ran words before.shelf after.shelf
    ran_home asks run home = ran asks home.appended run (inr (were_given asks home))

    -- the same before the specification was asked for
    abbrev put_so : (journal : List Entry) → ArePutBehind [] s mid after journal → ArePut s before after journal
    put_so journal put = record { trace = put.trace; out = put.out ∙ ap (grown before.out) (verdicts_first s journal) }

    cut_so : (asks : List Ask) (journal : List Entry) → CutsOffBehind s [] names.sources asks mid after journal → CutsOff s names.sources asks before after journal
    cut_so asks journal (inl t) = inl (record { no_fault = t.no_fault; trace = t.trace; out = t.out ∙ ap (grown before.out) (settled_first s journal) })
    cut_so asks journal (inr (inl r)) = inr (inl (record { no_fault = r.no_fault; trace = r.trace; out = cut_at_row_first s journal before.out after.out r.out }))
    cut_so asks journal (inr (inr d)) =
        inr (inr (record { no_fault = d.no_fault; read = all_read asks journal d.read; trace = d.trace; out = cut_at_deadline_first s journal before.out after.out d.out }))

    front_or_all : (journal : List Entry) → HasFrontBehind s [] before.out after.out journal ⊎ (after.out ≡ grown before.out (verdicts_behind s [] journal))
        → HasFront s before.out after.out journal ⊎ (after.out ≡ grown before.out (verdicts s journal))
    front_or_all journal (inl front) = inl (has_front_first s journal before.out after.out front)
    front_or_all journal (inr all) = inr (all ∙ ap (grown before.out) (verdicts_first s journal))

    unfinished : UnfinishedRun [] names.in_turns s names.sources mid after → IsUnfinished (call words before after)
    unfinished u = record { run = ran_home u.asks u.run u.home; trace = u.trace; out = front_or_all u.run.journal u.out }

    stands_at : (fault : RunFault) (asks : List Ask) (journal : List Entry) → IsRowFaultBehind s [] journal fault ⊎ IsAtDeadlineBehind [] shelf s names.sources asks journal
        → IsRowFault s journal fault ⊎ IsAtDeadline before.shelf s names.sources asks journal
    stands_at fault asks journal (inl at) = inl (row_fault_first s journal fault at)
    stands_at fault asks journal (inr at) = inr (record { settled = at.settled; read = all_read asks journal at.read })

    works_run : (outcome : CallEnd) → RunsSources [] names.in_turns outcome s names.sources mid after → Works outcome words before after
    works_run (Line (Done a l n v)) r = record {
      all = record {
        run = ran_home r.ended.asks r.ended.run r.ended.home;
        given = given r.ended.all;
        rows = λ n name is. subst (λ t. Ends t plan n (rows_of n r.ended.run.journal) Whole) (told name) (r.rows n name is);
        no_fault = r.ended.no_fault;
        line_is = r.line_is ∙ done_first s r.ended.run.journal;
      };
      put = put_so r.ended.run.journal r.ended.put;
    }
    works_run (Line (Malformed n row kind)) r = record {
      some = record {
        run = ran_home r.ended.asks r.ended.run r.ended.home;
        given = given r.ended.all;
        ends = r.ends;
        rows = record { many = r.rows.many; each = λ n name end is at. subst (λ t. Ends t plan n (rows_of n r.ended.run.journal) end) (told name) (r.rows.each n name end is at) };
        no_fault = r.ended.no_fault;
        at = r.at;
        least = r.least;
        line_is = r.line_is;
      };
      put = put_so r.ended.run.journal r.ended.put;
    }
    works_run (Line (Fault stream kind time)) r = record {
      up_to = record {
        run = ran_home r.asks r.run r.home;
        given = were_given r.asks r.home;
        fault = r.fault;
        is_fault = r.is_fault;
        stands = stands_at r.fault r.asks r.run.journal r.stands;
        line_is = r.line_is;
      };
      put = put_so r.run.journal r.put;
    }
    works_run (Line (UnreadableSource n)) r = record {
      short = record {
        run = ran_home r.asks r.run r.home;
        at = r.at;
        least = r.least;
        rose = rose_by (r.home.failed r.at r.least);
        unless_given = λ place ask there none. let given = given_at r.asks place ask there r.home.given in absurd (cc);
        read = λ were. (r.home.named, all_read r.asks r.run.journal r.read);
        no_fault = r.no_fault;
        line_is = r.line_is;
      };
      put = put_so r.run.journal r.put;
    }
    works_run (Line Usage) r = absurd r
    works_run (Line (Refused q)) r = absurd r
    works_run (Line UnreadableSpecification) r = absurd r
    works_run (Line (Analysed n w)) r = absurd r
    works_run (Drilled line) r = absurd r
    works_run (Report text) r = absurd r
    works_run (Replayed end) r = absurd r
    works_run (Stated end) r = absurd r
    works_run CutFault r = record {
      line = fault_line plan r.fault;
      up_to = record {
        run = ran_home r.asks r.run r.home;
        given = were_given r.asks r.home;
        fault = r.fault;
        is_fault = r.is_fault;
        stands = inl (row_fault_first s r.run.journal r.fault r.stands);
        line_is = refl;
      };
      trace = r.trace;
      out = inr (broke_before before.out after.out (verdicts s r.run.journal) (end_text (fault_line plan r.fault)) (subst (PutBroke before.out after.out) (verdicts_first s r.run.journal) r.out));
    }
    works_run Put r = record { run = ran_home r.asks r.run r.home; given = were_given r.asks r.home; cut = cut_so r.asks r.run.journal r.cut }
    works_run Memory r = inr (unfinished r)

    -- a source was not given: no row was taken
    works_not_given : (outcome : CallEnd) → NotGivenRun outcome mid after → Works outcome words before after
    works_not_given outcome r =
        let some : first_failed_ask (asks_between shelf after.shelf) ≡ Some r.at = ap first_failed_ask (between shelf after.shelf r.asks r.appended) ∙ r.least in
        let run = no_rows names.in_turns s names.sources shelf after.shelf r.at some in
        subst (λ o. Works o words before after) (sym r.outcome_is) (record {
          short = record {
            run = ran r.asks r.appended run (inl refl);
            at = r.at;
            least = r.least;
            rose = rose_by r.rose;
            unless_given = λ place ask there none. refl;
            read = λ were. let given = given_at r.asks r.at r.ask r.is_ask were in let none = r.not_given in absurd (cc);
            no_fault = nothing_faults s;
            line_is = refl;
          };
          put = record {
            trace = r.early.trace ∙ sym (grown_nil before.trace);
            out = r.early.out ∙ (sym (grown_nil before.out) ∙ ap (grown before.out) (sym (nothing_final s)));
          };
        })

    -- a run that begins anew is one behind no entry
    pub works_after : (outcome : CallEnd) (kept : Keeping) → setting_in kept ≡ s → IsBehind [] [] kept → TakesSources names.in_turns outcome kept names.sources mid after → Works outcome words before after
    works_after outcome kept set stood (inl r) = works_not_given outcome r
    works_after outcome kept set stood (inr (inl r)) = subst (λ o. Works o words before after) (sym r.outcome_is) (inl (record { trace = r.early.trace; out = r.early.out }))
    works_after outcome kept set stood (inr (inr r)) = works_run outcome (subst (λ (t : Setting). RunsSources [] names.in_turns outcome t names.sources mid after) set (r.behind [] stood))

pub asks_noted : (name : List ℕ) (before after : ShelfState) → after ≡ noted before name → asks_between before after ≡ given_ask name ∷ []
asks_noted name before after is = between before after (given_ask name ∷ []) (ap (λ s. s.asks) is)

-- the first ask is the first faulty one
pub first_is_failed_ask : (name : List ℕ) (before after : ShelfState) → Marred name before after → first_failed_ask (asks_between before after) ≡ Some 0
first_is_failed_ask name before after m =
    ap first_failed_ask (between before after (m.ask ∷ []) m.asks) ∙ ap (λ (b : Bool). if b then Some 0 else option_map (λ n. n + 1) None) m.has_failed

module _ (words : List (List ℕ)) (name : List ℕ) (before after : Outside) (early : AreUntouched before after) (is_command : specification_of words ≡ Some name) where
  -- a specification that has no plan, or no memory to tell
  pub works_unplanned : (end : Unplanned) → PlansName (Err end) name before.shelf after.shelf → Works (without_plan end) words before after
  works_unplanned unplanned.Unreadable p = record { name = name; is_command = is_command; has_failed = first_is_failed_ask name before.shelf after.shelf p; rose = p.rose; early = early }
  works_unplanned (unplanned.Refused r) p = record {
    name = name;
    is_command = is_command;
    cause = p.refused;
    asks = asks_noted name before.shelf after.shelf p.shelf;
    count = ap (λ s. s.count) p.shelf;
    early = early;
  }
  works_unplanned unplanned.Memory p = inl (record { trace = early.trace; out = early.out })

  module _ (plan : Plan) (p : ReadPlan plan name before.shelf after.shelf) where
    -- a plan that was analysed
    pub works_analysed : (text : List ℕ) → analysed_of words ≡ Some name → text ≡ analysis_text plan → Works (Report text) words before after
    works_analysed text is_analysis is = record {
      analysis = record {
        name = name;
        is_command = is_analysis;
        plan = plan;
        is_plan = p.is_plan;
        asks = asks_noted name before.shelf after.shelf p.shelf;
        count = ap (λ s. s.count) p.shelf;
      };
      text_is = is;
      early = early;
    }

-- a drill, which asks for nothing and traces nothing
pub works_drilled : (words : List (List ℕ)) (here : Outside) (d : DrillCommand) (outcome : CallEnd) → drill_of words ≡ Some d → DrillsBy outcome d → Works outcome words here here
works_drilled words here d (Line line) is drills = absurd drills
works_drilled words here d (Drilled line) is drills = record { of = record { drill = d; is_command = is; shelf = refl }; drills = drills; early = record { trace = refl; out = refl } }
works_drilled words here d (Report text) is drills = absurd drills
works_drilled words here d (Replayed end) is drills = absurd drills
works_drilled words here d (Stated end) is drills = absurd drills
works_drilled words here d CutFault is drills = absurd drills
works_drilled words here d Put is drills = absurd drills
works_drilled words here d Memory is drills = inl (record { trace = refl; out = refl })
