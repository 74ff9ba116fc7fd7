-- Which status a call has, from what it was given.
use Rattle.std.proofs.Common.{◌≡◌, ◌⊎◌, ℕ, suc, List, [], ◌∷◌, inl, inr, None, Some, slice_get, refl, sym, ap, ◌∙◌, subst, arith}
use Rattle.std.specs.Option.{option_map}
use Rattle.lola_port.specs.declared.traits.Ask.{Ask}
use Rattle.lola_rows.specs.Rows.{SourceEnd, SourceRows, Whole, MalformedAt}
use Rattle.lola_model.specs.Journal.{rows_of}
use Rattle.lola_model.specs.declared.journal.Entry.{Entry}
use Rattle.lola_model.specs.declared.journal.Row.{Row}
use Rattle.lola_model.specs.declared.plan.Plan.{Plan}
use Rattle.lola_report.specs.declared.end.EndLine.{EndLine}
use Rattle.lola_monitor_command.specs.Command.{command_of}
use Rattle.lola_monitor_command.specs.declared.command.DrillCommand.{DrillCommand}
use Rattle.lola_monitor_run.specs.Verdicts.{Setting}
use Rattle.lola_monitor.specs.Command.{Names, ReplayNames, analysed_named, analysed_of, drill_named, drill_of, replay_named, replay_of, run_by, run_of, specification_named, specification_of}
use Rattle.lola_monitor.specs.Drilling.{IsCleanDrill, IsCutDrill, IsDrillFault, IsDrillMalformed, IsDrilled, IsFaultyDrill, IsMalformedDrill, IsRefusedDrill, drill_rows}
use Rattle.lola_monitor.specs.Monitor.{Call, CutsOff, IsAnalysed, IsBroken, IsClean, IsCleanAnalysis, IsCutAnalysis, IsCutShort, IsDone, IsFault, IsMalformed, IsRefused, IsSpoiled, IsUnread, IsUsage, Plans, Rows, first_malformed, one_further, setting_of, source_rows}
use Rattle.lola_monitor.specs.Replaying.{IsCutReplay, IsFoundOther, IsFoundSame, IsUnreadText, OfReplay}
use Rattle.lola_monitor.specs.Statuses.{Decided}
use Rattle.lola_monitor.proofs.Commands.{analysed_specification, no_drill, no_replayed_analysis, no_replayed_run, no_run, replay_specification, run_specification, same_name, same_names}
use Rattle.lola_monitor.proofs.Laws.{OneFinding}
use Rattle.lola_monitor.proofs.Listed.{get_beside}
use Rattle.lola_monitor.proofs.Means.{Means, by_status}
use Rattle.lola_monitor.proofs.ReplayStatuses.{replay_other, replay_same}
use Rattle.lola_monitor.proofs.WholeDrills.{whole_with_fault}

pub is_whole : (end : SourceEnd) (r : SourceRows) (rows : List Row) → r.end ≡ Whole → r ≡ record { rows = rows; end = end } → end ≡ Whole
is_whole end r rows first second = sym (ap (λ (x : SourceRows). x.end) second) ∙ first

-- where all ends are well, none is malformed
pub none_malformed : (ends : List SourceEnd) → ((s : ℕ) (end : SourceEnd) → slice_get ends s ≡ Some end → end ≡ Whole) → first_malformed ends ≡ None
none_malformed [] all = refl
none_malformed (Whole ∷ ends) all = ap (option_map one_further) (none_malformed ends (λ s end is. all (suc s) end is))
none_malformed (MalformedAt kind row ∷ ends) all = let bad : MalformedAt kind row ≡ Whole = all 0 (MalformedAt kind row) refl in absurd (cc)

module _ (c : Call) where
  -- the rows of a run that a failed put ended
  broken_rows : IsBroken c → Rows c
  broken_rows (inl off) = off.run
  broken_rows (inr (inl done)) = done.all.run
  broken_rows (inr (inr malformed)) = malformed.some.run

  module _ (clean : IsClean c) where
    told_specification : (names : Names) → run_of c.words ≡ Some names → c.before.shelf.told names.specification ≡ Some clean.specification
    told_specification names is = ap (λ (n : Names). c.before.shelf.told n.specification) (same_names c.words names clean.names is clean.is_command) ∙ clean.specification_is

    told_name : (name : List ℕ) → specification_of c.words ≡ Some name → c.before.shelf.told name ≡ Some clean.specification
    told_name name is =
        ap (λ (n : List ℕ). c.before.shelf.told n) (same_name c.words name clean.names.specification is (run_specification c.words (command_of c.words) clean.names clean.is_command)) ∙ clean.specification_is

    clean_drill : (d : DrillCommand) → drill_of c.words ≡ Some d → ⊥
    clean_drill d is = no_drill c.words (command_of c.words) d clean.names.specification is (run_specification c.words (command_of c.words) clean.names clean.is_command)

    clean_replay : (r : ReplayNames) → replay_of c.words ≡ Some r → ⊥
    clean_replay r is = no_replayed_run c.words (command_of c.words) clean.names r clean.is_command is

    whole_at : (bad : IsMalformed c) (s : ℕ) (end : SourceEnd) → slice_get bad.some.ends s ≡ Some end → end ≡ Whole
    whole_at bad s end is =
        let run = bad.some.run in
        let same = same_names c.words run.names clean.names run.is_command clean.is_command in
        let name = get_beside bad.some.ends run.names.sources s end (sym bad.some.rows.many) is in
        let there : slice_get clean.names.sources s ≡ Some name.0 = ap (λ (n : Names). slice_get n.sources s) (sym same) ∙ name.1 in
        let told = clean.told s name.0 there in
        is_whole end (source_rows run.plan s told.0) (rows_of s run.journal)
        (clean.ends s name.0 told.0 run.plan there told.1 (run.is_plan clean.specification (told_specification run.names run.is_command)))
        (bad.some.rows.each s name.0 end name.1 is told.0 told.1)

    clean_malformed : IsMalformed c ⊎ IsMalformedDrill c → ⊥
    clean_malformed (inl bad) = let none = none_malformed bad.some.ends (whole_at bad) in let some = bad.some.least in absurd (cc)
    clean_malformed (inr bad) = clean_drill bad.of.drill bad.of.is_command

    clean_fault : IsFault c ⊎ IsFaultyDrill c → ⊥
    clean_fault (inl bad) = let none = clean.no_fault bad.up_to.run bad.trace in let some = bad.up_to.is_fault in absurd (cc)
    clean_fault (inr bad) = clean_drill bad.of.drill bad.of.is_command

    clean_refused : IsRefused c ⊎ IsRefusedDrill c → ⊥
    clean_refused (inl bad) = clean.not_refused bad.refusal (bad.cause clean.specification (told_name bad.name bad.is_command))
    clean_refused (inr bad) = clean_drill bad.of.drill bad.of.is_command

    clean_usage : IsUsage c → ⊥
    clean_usage bad = let known = clean.is_command in let none : run_of c.words ≡ None = ap (run_by c.words) bad.no_command in absurd (cc)

    clean_differs : IsFoundOther c → ⊥
    clean_differs bad = clean_replay bad.replay.of.names bad.replay.of.is_command

    clean_unreadable : IsUnread c ⊎ (IsCutShort c ⊎ IsUnreadText c) → ⊥
    clean_unreadable (inl bad) = clean.shelf bad.rose
    clean_unreadable (inr (inl bad)) = clean.shelf bad.short.rose
    clean_unreadable (inr (inr bad)) = clean.shelf bad.unread.rose

    clean_cut : (s : Setting) (sources : List (List ℕ)) (asks : List Ask) (journal : List Entry) → CutsOff s sources asks c.before c.after journal → ⊥
    clean_cut s sources asks journal (inl cut) = clean.trace cut.trace.cut.rose
    clean_cut s sources asks journal (inr (inl cut)) = clean.out cut.out.cut.rose
    clean_cut s sources asks journal (inr (inr cut)) = clean.out cut.out.cut.rose

    clean_broken : IsBroken c ⊎ (IsCutAnalysis c ⊎ (IsCutDrill c ⊎ IsCutReplay c)) → ⊥
    clean_broken (inl (inl off)) = clean_cut (setting_of off.run.plan off.run.names) off.run.names.sources off.run.asks off.run.journal off.cut
    clean_broken (inl (inr (inl done))) = clean.out done.out.rose
    clean_broken (inl (inr (inr malformed))) = clean.out malformed.out.rose
    clean_broken (inr (inl bad)) = clean.out bad.out.rose
    clean_broken (inr (inr (inl bad))) = clean_drill bad.of.drill bad.of.is_command
    clean_broken (inr (inr (inr bad))) = clean_replay bad.replay.of.names bad.replay.of.is_command

  module _ (whole : IsCleanAnalysis c) where
    other : (names : Names) → run_of c.words ≡ Some names → ⊥
    other names is = no_run c.words (command_of c.words) names whole.name is whole.is_command

    told_whole : (name : List ℕ) → specification_of c.words ≡ Some name → c.before.shelf.told name ≡ Some whole.specification
    told_whole name is =
        ap (λ (n : List ℕ). c.before.shelf.told n) (same_name c.words name whole.name is (analysed_specification c.words (command_of c.words) whole.name whole.is_command)) ∙ whole.specification_is

    whole_drill : (d : DrillCommand) → drill_of c.words ≡ Some d → ⊥
    whole_drill d is = no_drill c.words (command_of c.words) d whole.name is (analysed_specification c.words (command_of c.words) whole.name whole.is_command)

    whole_replay : (r : ReplayNames) → replay_of c.words ≡ Some r → ⊥
    whole_replay r is = no_replayed_analysis c.words (command_of c.words) whole.name r whole.is_command is

    whole_differs : IsFoundOther c → ⊥
    whole_differs bad = whole_replay bad.replay.of.names bad.replay.of.is_command

    whole_malformed : IsMalformed c ⊎ IsMalformedDrill c → ⊥
    whole_malformed (inl bad) = other bad.some.run.names bad.some.run.is_command
    whole_malformed (inr bad) = whole_drill bad.of.drill bad.of.is_command

    whole_fault : IsFault c ⊎ IsFaultyDrill c → ⊥
    whole_fault (inl bad) = other bad.up_to.run.names bad.up_to.run.is_command
    whole_fault (inr bad) = whole_drill bad.of.drill bad.of.is_command

    whole_refused : IsRefused c ⊎ IsRefusedDrill c → ⊥
    whole_refused (inl bad) = whole.not_refused bad.refusal (bad.cause whole.specification (told_whole bad.name bad.is_command))
    whole_refused (inr bad) = whole_drill bad.of.drill bad.of.is_command

    whole_usage : IsUsage c → ⊥
    whole_usage bad = let known = whole.is_command in let none : analysed_of c.words ≡ None = ap (analysed_named c.words) bad.no_command in absurd (cc)

    whole_unreadable : IsUnread c ⊎ (IsCutShort c ⊎ IsUnreadText c) → ⊥
    whole_unreadable (inl bad) = whole.shelf bad.rose
    whole_unreadable (inr (inl bad)) = whole.shelf bad.short.rose
    whole_unreadable (inr (inr bad)) = whole.shelf bad.unread.rose

    whole_broken : IsBroken c ⊎ (IsCutAnalysis c ⊎ (IsCutDrill c ⊎ IsCutReplay c)) → ⊥
    whole_broken (inl bad) = let run = broken_rows bad in other run.names run.is_command
    whole_broken (inr (inl bad)) = whole.out bad.out.rose
    whole_broken (inr (inr (inl bad))) = whole_drill bad.of.drill bad.of.is_command
    whole_broken (inr (inr (inr bad))) = whole_replay bad.replay.of.names bad.replay.of.is_command

  module _ (none : command_of c.words ≡ None) where
    lost : (names : Names) → run_of c.words ≡ Some names → ⊥
    lost names is = let nothing : run_of c.words ≡ None = ap (run_by c.words) none in absurd (cc)

    lost_specification : (name : List ℕ) → specification_of c.words ≡ Some name → ⊥
    lost_specification name is = let nothing : specification_of c.words ≡ None = ap (specification_named c.words) none in absurd (cc)

    lost_analysis : (name : List ℕ) → analysed_of c.words ≡ Some name → ⊥
    lost_analysis name is = let nothing : analysed_of c.words ≡ None = ap (analysed_named c.words) none in absurd (cc)

    lost_drill : (d : DrillCommand) → drill_of c.words ≡ Some d → ⊥
    lost_drill d is = let nothing : drill_of c.words ≡ None = ap drill_named none in absurd (cc)

    lost_replay : (r : ReplayNames) → replay_of c.words ≡ Some r → ⊥
    lost_replay r is = let nothing : replay_of c.words ≡ None = ap (replay_named c.words) none in absurd (cc)

    lost_differs : IsFoundOther c → ⊥
    lost_differs bad = lost_replay bad.replay.of.names bad.replay.of.is_command

    lost_done : IsDone c ⊎ (IsAnalysed c ⊎ (IsDrilled c ⊎ IsFoundSame c)) → ⊥
    lost_done (inl bad) = lost bad.all.run.names bad.all.run.is_command
    lost_done (inr (inl bad)) = lost_analysis bad.analysis.name bad.analysis.is_command
    lost_done (inr (inr (inl bad))) = lost_drill bad.of.drill bad.of.is_command
    lost_done (inr (inr (inr bad))) = lost_replay bad.replay.of.names bad.replay.of.is_command

    lost_malformed : IsMalformed c ⊎ IsMalformedDrill c → ⊥
    lost_malformed (inl bad) = lost bad.some.run.names bad.some.run.is_command
    lost_malformed (inr bad) = lost_drill bad.of.drill bad.of.is_command

    lost_fault : IsFault c ⊎ IsFaultyDrill c → ⊥
    lost_fault (inl bad) = lost bad.up_to.run.names bad.up_to.run.is_command
    lost_fault (inr bad) = lost_drill bad.of.drill bad.of.is_command

    lost_refused : IsRefused c ⊎ IsRefusedDrill c → ⊥
    lost_refused (inl bad) = lost_specification bad.name bad.is_command
    lost_refused (inr bad) = lost_drill bad.of.drill bad.of.is_command

    lost_unreadable : IsUnread c ⊎ (IsCutShort c ⊎ IsUnreadText c) → ⊥
    lost_unreadable (inl bad) = lost_specification bad.name bad.is_command
    lost_unreadable (inr (inl bad)) = lost bad.short.run.names bad.short.run.is_command
    lost_unreadable (inr (inr bad)) = lost_replay bad.unread.of.names bad.unread.of.is_command

    lost_broken : IsBroken c ⊎ (IsCutAnalysis c ⊎ (IsCutDrill c ⊎ IsCutReplay c)) → ⊥
    lost_broken (inl bad) = let run = broken_rows bad in lost run.names run.is_command
    lost_broken (inr (inl bad)) = lost_analysis bad.analysis.name bad.analysis.is_command
    lost_broken (inr (inr (inl bad))) = lost_drill bad.of.drill bad.of.is_command
    lost_broken (inr (inr (inr bad))) = lost_replay bad.replay.of.names bad.replay.of.is_command

  module _ (spoiled : IsSpoiled c) where
    no_plan_of : (name : List ℕ) → specification_of c.words ≡ Some name → (plan : Plan) → Plans (c.before.shelf.told name) plan → ⊥
    no_plan_of name is plan planned =
        spoiled.no_plan plan (planned spoiled.specification (ap (λ (n : List ℕ). c.before.shelf.told n) (same_name c.words name spoiled.name is spoiled.is_command) ∙ spoiled.specification_is))

    no_rows_of : Rows c → ⊥
    no_rows_of run = no_plan_of run.names.specification (run_specification c.words (command_of c.words) run.names run.is_command) run.plan run.is_plan

    no_analysis_of : (name : List ℕ) → analysed_of c.words ≡ Some name → (plan : Plan) → Plans (c.before.shelf.told name) plan → ⊥
    no_analysis_of name is plan planned = no_plan_of name (analysed_specification c.words (command_of c.words) name is) plan planned

    spoiled_drill : (d : DrillCommand) → drill_of c.words ≡ Some d → ⊥
    spoiled_drill d is = no_drill c.words (command_of c.words) d spoiled.name is spoiled.is_command

    spoiled_replay : OfReplay c.words c.before.shelf → ⊥
    spoiled_replay of = no_plan_of of.names.specification (replay_specification c.words (command_of c.words) of.names of.is_command) of.plan of.is_plan

    spoiled_differs : IsFoundOther c → ⊥
    spoiled_differs bad = spoiled_replay bad.replay.of

    spoiled_done : IsDone c ⊎ (IsAnalysed c ⊎ (IsDrilled c ⊎ IsFoundSame c)) → ⊥
    spoiled_done (inl bad) = no_rows_of bad.all.run
    spoiled_done (inr (inl bad)) = no_analysis_of bad.analysis.name bad.analysis.is_command bad.analysis.plan bad.analysis.is_plan
    spoiled_done (inr (inr (inl bad))) = spoiled_drill bad.of.drill bad.of.is_command
    spoiled_done (inr (inr (inr bad))) = spoiled_replay bad.replay.of

    spoiled_malformed : IsMalformed c ⊎ IsMalformedDrill c → ⊥
    spoiled_malformed (inl bad) = no_rows_of bad.some.run
    spoiled_malformed (inr bad) = spoiled_drill bad.of.drill bad.of.is_command

    spoiled_fault : IsFault c ⊎ IsFaultyDrill c → ⊥
    spoiled_fault (inl bad) = no_rows_of bad.up_to.run
    spoiled_fault (inr bad) = spoiled_drill bad.of.drill bad.of.is_command

    spoiled_usage : IsUsage c → ⊥
    spoiled_usage bad = let known = spoiled.is_command in let none : specification_of c.words ≡ None = ap (specification_named c.words) bad.no_command in absurd (cc)

    spoiled_unreadable : IsUnread c ⊎ (IsCutShort c ⊎ IsUnreadText c) → ⊥
    spoiled_unreadable (inl bad) = spoiled.shelf bad.rose
    spoiled_unreadable (inr (inl bad)) = no_rows_of bad.short.run
    spoiled_unreadable (inr (inr bad)) = spoiled.shelf bad.unread.rose

    spoiled_broken : IsBroken c ⊎ (IsCutAnalysis c ⊎ (IsCutDrill c ⊎ IsCutReplay c)) → ⊥
    spoiled_broken (inl bad) = no_rows_of (broken_rows bad)
    spoiled_broken (inr (inl bad)) = no_analysis_of bad.analysis.name bad.analysis.is_command bad.analysis.plan bad.analysis.is_plan
    spoiled_broken (inr (inr (inl bad))) = spoiled_drill bad.of.drill bad.of.is_command
    spoiled_broken (inr (inr (inr bad))) = spoiled_replay bad.replay.of

  module _ (drill : IsCleanDrill c) where
    drill_specification : (name : List ℕ) → specification_of c.words ≡ Some name → ⊥
    drill_specification name is = no_drill c.words (command_of c.words) drill.drill name drill.is_command is

    drill_rows_none : Rows c → ⊥
    drill_rows_none run = drill_specification run.names.specification (run_specification c.words (command_of c.words) run.names run.is_command)

    drill_replay : (r : ReplayNames) → replay_of c.words ≡ Some r → ⊥
    drill_replay r is = drill_specification r.specification (replay_specification c.words (command_of c.words) r is)

    drill_differs : IsFoundOther c → ⊥
    drill_differs bad = drill_replay bad.replay.of.names bad.replay.of.is_command

    drill_usage : IsUsage c → ⊥
    drill_usage bad = lost_drill bad.no_command drill.drill drill.is_command

    -- the drill of the words
    drill_same : (d : DrillCommand) → drill_of c.words ≡ Some d → d ≡ drill.drill
    drill_same d is = let known = drill.is_command in cc

    ends_malformed : (line : EndLine) → IsDrillMalformed drill.drill line → ⊥
    ends_malformed line bad =
        let plan = bad.run.plan in
        let none : first_malformed ((drill_rows plan drill.drill 0).end ∷ (drill_rows plan drill.drill 1).end ∷ []) ≡ None =
        rw (drill.ends plan 0 bad.run.is_plan (omega arith), drill.ends plan 1 bad.run.is_plan (omega arith)) refl in
        let some = bad.least in
        absurd (cc)

    ends_faulty : (line : EndLine) → IsDrillFault drill.drill line → ⊥
    ends_faulty line bad =
        let whole = whole_with_fault drill.drill line bad in
        let none = drill.no_fault whole.run whole.all in
        let some = whole.is_fault in
        absurd (cc)

    drill_refused : IsRefused c ⊎ IsRefusedDrill c → ⊥
    drill_refused (inl bad) = drill_specification bad.name bad.is_command
    drill_refused (inr bad) = drill.not_refused bad.refusal bad.cause

    drill_malformed : IsMalformed c ⊎ IsMalformedDrill c → ⊥
    drill_malformed (inl bad) = drill_rows_none bad.some.run
    drill_malformed (inr bad) = ends_malformed bad.line (subst (λ d. IsDrillMalformed d bad.line) (drill_same bad.of.drill bad.of.is_command) bad.malformed)

    drill_fault : IsFault c ⊎ IsFaultyDrill c → ⊥
    drill_fault (inl bad) = drill_rows_none bad.up_to.run
    drill_fault (inr bad) = ends_faulty bad.line (subst (λ d. IsDrillFault d bad.line) (drill_same bad.of.drill bad.of.is_command) bad.fault)

    drill_unreadable : IsUnread c ⊎ (IsCutShort c ⊎ IsUnreadText c) → ⊥
    drill_unreadable (inl bad) = drill_specification bad.name bad.is_command
    drill_unreadable (inr (inl bad)) = drill_rows_none bad.short.run
    drill_unreadable (inr (inr bad)) = drill_replay bad.unread.of.names bad.unread.of.is_command

    drill_broken : IsBroken c ⊎ (IsCutAnalysis c ⊎ (IsCutDrill c ⊎ IsCutReplay c)) → ⊥
    drill_broken (inl bad) = drill_rows_none (broken_rows bad)
    drill_broken (inr (inl bad)) = drill_specification bad.analysis.name (analysed_specification c.words (command_of c.words) bad.analysis.name bad.analysis.is_command)
    drill_broken (inr (inr (inl bad))) = drill.out bad.out.rose
    drill_broken (inr (inr (inr bad))) = drill_replay bad.replay.of.names bad.replay.of.is_command

  pub decided : OneFinding → (status : ℕ) → Means status c → Decided status c
  decided one status means = record {
    run = λ clean. by_status (λ s. (s ≡ 0) ⊎ (s ≡ 8)) c (λ m. inl refl) (λ m. absurd (clean_differs clean m)) (λ m. absurd (clean_usage clean m)) (λ m. absurd (clean_refused clean m)) (λ m. absurd (clean_malformed clean m))
        (λ m. absurd (clean_fault clean m)) (λ m. absurd (clean_unreadable clean m)) (λ m. absurd (clean_broken clean m)) (λ m. inr refl) status means;
    analysis = λ whole. by_status (λ s. (s ≡ 0) ⊎ (s ≡ 8)) c (λ m. inl refl) (λ m. absurd (whole_differs whole m)) (λ m. absurd (whole_usage whole m)) (λ m. absurd (whole_refused whole m)) (λ m. absurd (whole_malformed whole m))
        (λ m. absurd (whole_fault whole m)) (λ m. absurd (whole_unreadable whole m)) (λ m. absurd (whole_broken whole m)) (λ m. inr refl) status means;
    drill = λ drill. by_status (λ s. (s ≡ 0) ⊎ (s ≡ 8)) c (λ m. inl refl) (λ m. absurd (drill_differs drill m)) (λ m. absurd (drill_usage drill m)) (λ m. absurd (drill_refused drill m)) (λ m. absurd (drill_malformed drill m))
        (λ m. absurd (drill_fault drill m)) (λ m. absurd (drill_unreadable drill m)) (λ m. absurd (drill_broken drill m)) (λ m. inr refl) status means;
    replay = λ same. replay_same c same one status means;
    other = λ other. replay_other c other status means;
    usage = λ none. by_status (λ s. (s ≡ 2) ⊎ (s ≡ 8)) c (λ m. absurd (lost_done none m)) (λ m. absurd (lost_differs none m)) (λ m. inl refl) (λ m. absurd (lost_refused none m)) (λ m. absurd (lost_malformed none m))
        (λ m. absurd (lost_fault none m)) (λ m. absurd (lost_unreadable none m)) (λ m. absurd (lost_broken none m)) (λ m. inr refl) status means;
    refused = λ spoiled. by_status (λ s. (s ≡ 3) ⊎ (s ≡ 8)) c (λ m. absurd (spoiled_done spoiled m)) (λ m. absurd (spoiled_differs spoiled m)) (λ m. absurd (spoiled_usage spoiled m)) (λ m. inl refl) (λ m. absurd (spoiled_malformed spoiled m))
        (λ m. absurd (spoiled_fault spoiled m)) (λ m. absurd (spoiled_unreadable spoiled m)) (λ m. absurd (spoiled_broken spoiled m)) (λ m. inr refl) status means;
  }
