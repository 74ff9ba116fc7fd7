-- Which status a replay has, from what it was given.
use Rattle.std.proofs.Common.{◌≡◌, ◌⊎◌, ℕ, List, inl, inr, None, Some, refl, ap, ◌∙◌, subst}
use Rattle.lola_front.specs.Front.{IsPlanOf}
use Rattle.lola_replay.specs.Findings.{Finds}
use Rattle.lola_replay.specs.declared.finding.Finding.{Finding}
use Rattle.lola_replay.specs.declared.finding.Finding.TheVariants.{Same}
use Rattle.lola_monitor_command.specs.Command.{command_of}
use Rattle.lola_monitor_command.specs.declared.command.DrillCommand.{DrillCommand}
use Rattle.lola_monitor.specs.Command.{Names, ReplayNames, drill_of, replay_named, replay_of, run_of, specification_of}
use Rattle.lola_monitor.specs.Drilling.{IsCutDrill, IsDrilled, IsFaultyDrill, IsMalformedDrill, IsRefusedDrill}
use Rattle.lola_monitor.specs.Monitor.{Call, IsAnalysed, IsBroken, IsCutAnalysis, IsCutShort, IsDone, IsFault, IsMalformed, IsRefused, IsUnread, IsUsage}
use Rattle.lola_monitor.specs.Replaying.{Differs, IsCutReplay, IsFoundOther, IsFoundSame, IsOtherReplay, IsSameReplay, IsToldReplay, IsUnreadText, ReplayIn, told_by}
use Rattle.lola_monitor.proofs.Commands.{no_drill, no_replayed_analysis, no_replayed_run, replay_specification, same_name, same_replays}
use Rattle.lola_monitor.proofs.Laws.{OneFinding}
use Rattle.lola_monitor.proofs.Means.{Means, by_status}

module _ (c : Call) where
  module _ (told : IsToldReplay c) where
    no_run_here : (names : Names) → run_of c.words ≡ Some names → ⊥
    no_run_here names is = no_replayed_run c.words (command_of c.words) names told.names is told.is_command

    no_drill_here : (d : DrillCommand) → drill_of c.words ≡ Some d → ⊥
    no_drill_here d is = no_drill c.words (command_of c.words) d told.names.specification is (replay_specification c.words (command_of c.words) told.names told.is_command)

    told_name : (name : List ℕ) → specification_of c.words ≡ Some name → c.before.shelf.told name ≡ Some told.specification
    told_name name is =
        ap (λ (n : List ℕ). c.before.shelf.told n) (same_name c.words name told.names.specification is (replay_specification c.words (command_of c.words) told.names told.is_command)) ∙ told.specification_is

    told_usage : IsUsage c → ⊥
    told_usage bad = let known = told.is_command in let nothing : replay_of c.words ≡ None = ap (replay_named c.words) bad.no_command in absurd (cc)

    told_refused : IsRefused c ⊎ IsRefusedDrill c → ⊥
    told_refused (inl bad) = told.not_refused bad.refusal (bad.cause told.specification (told_name bad.name bad.is_command))
    told_refused (inr bad) = no_drill_here bad.of.drill bad.of.is_command

    told_malformed : IsMalformed c ⊎ IsMalformedDrill c → ⊥
    told_malformed (inl bad) = no_run_here bad.some.run.names bad.some.run.is_command
    told_malformed (inr bad) = no_drill_here bad.of.drill bad.of.is_command

    told_fault : IsFault c ⊎ IsFaultyDrill c → ⊥
    told_fault (inl bad) = no_run_here bad.up_to.run.names bad.up_to.run.is_command
    told_fault (inr bad) = no_drill_here bad.of.drill bad.of.is_command

    told_unreadable : IsUnread c ⊎ (IsCutShort c ⊎ IsUnreadText c) → ⊥
    told_unreadable (inl bad) = told.shelf bad.rose
    told_unreadable (inr (inl bad)) = told.shelf bad.short.rose
    told_unreadable (inr (inr bad)) = told.shelf bad.unread.rose

    told_done : IsDone c → ⊥
    told_done bad = no_run_here bad.all.run.names bad.all.run.is_command

    told_analysed : IsAnalysed c → ⊥
    told_analysed bad = no_replayed_analysis c.words (command_of c.words) bad.analysis.name told.names bad.analysis.is_command told.is_command

    told_cut_analysis : IsCutAnalysis c → ⊥
    told_cut_analysis bad = no_replayed_analysis c.words (command_of c.words) bad.analysis.name told.names bad.analysis.is_command told.is_command

    told_broken : IsBroken c → ⊥
    told_broken (inl off) = no_run_here off.run.names off.run.is_command
    told_broken (inr (inl done)) = no_run_here done.all.run.names done.all.run.is_command
    told_broken (inr (inr malformed)) = no_run_here malformed.some.run.names malformed.some.run.is_command

    module _ (finding : Finding) (replay : ReplayIn c finding) where
      same : replay.of.names ≡ told.names
      same = same_replays c.words replay.of.names told.names replay.of.is_command told.is_command

      -- the texts that were read are those that are told
      trace_is : replay.trace ≡ told.trace
      trace_is = replay.is_trace told.trace (ap (λ (n : ReplayNames). c.before.shelf.told n.trace) same ∙ told.trace_is)

      verdicts_are : replay.verdicts ≡ told.verdicts
      verdicts_are = replay.are_verdicts told.verdicts (ap (λ (n : ReplayNames). c.before.shelf.told n.verdicts) same ∙ told.verdicts_are)

      plan_is : IsPlanOf told.specification replay.of.plan
      plan_is = replay.of.is_plan told.specification (ap (λ (n : ReplayNames). c.before.shelf.told n.specification) same ∙ told.specification_is)

      finds : Finds (told_by told.names replay.of.plan told.trace told.verdicts) finding
      finds =
          subst (λ (v : List ℕ). Finds (told_by told.names replay.of.plan told.trace v) finding) verdicts_are
          (subst (λ (t : List ℕ). Finds (told_by told.names replay.of.plan t replay.verdicts) finding) trace_is
          (subst (λ (n : ReplayNames). Finds (told_by n replay.of.plan replay.trace replay.verdicts) finding) same replay.finds))

  module _ (same : IsSameReplay c) where
    same_differs : OneFinding → IsFoundOther c → ⊥
    same_differs one bad =
        let plan = bad.replay.of.plan in
        let is = same.same plan (plan_is same.told bad.finding bad.replay) in
        subst Differs (one (told_by same.told.names plan same.told.trace same.told.verdicts) bad.finding (Same is.0 is.1) (finds same.told bad.finding bad.replay) is.2) bad.differs

    same_broken : IsBroken c ⊎ (IsCutAnalysis c ⊎ (IsCutDrill c ⊎ IsCutReplay c)) → ⊥
    same_broken (inl bad) = told_broken same.told bad
    same_broken (inr (inl bad)) = told_cut_analysis same.told bad
    same_broken (inr (inr (inl bad))) = no_drill_here same.told bad.of.drill bad.of.is_command
    same_broken (inr (inr (inr bad))) = same.out bad.out.rose

    -- of texts that are those of a run
    pub replay_same : OneFinding → (status : ℕ) → Means status c → (status ≡ 0) ⊎ (status ≡ 8)
    replay_same one status means = by_status (λ s. (s ≡ 0) ⊎ (s ≡ 8)) c (λ m. inl refl) (λ m. absurd (same_differs one m)) (λ m. absurd (told_usage same.told m)) (λ m. absurd (told_refused same.told m))
        (λ m. absurd (told_malformed same.told m)) (λ m. absurd (told_fault same.told m)) (λ m. absurd (told_unreadable same.told m)) (λ m. absurd (same_broken m)) (λ m. inr refl) status means

  module _ (other : IsOtherReplay c) where
    other_done : IsDone c ⊎ (IsAnalysed c ⊎ (IsDrilled c ⊎ IsFoundSame c)) → ⊥
    other_done (inl bad) = told_done other.told bad
    other_done (inr (inl bad)) = told_analysed other.told bad
    other_done (inr (inr (inl bad))) = no_drill_here other.told bad.of.drill bad.of.is_command
    other_done (inr (inr (inr bad))) =
        other.other bad.replay.of.plan bad.entries bad.lines (plan_is other.told (Same bad.entries bad.lines) bad.replay) (finds other.told (Same bad.entries bad.lines) bad.replay)

    other_broken : IsBroken c ⊎ (IsCutAnalysis c ⊎ (IsCutDrill c ⊎ IsCutReplay c)) → ⊥
    other_broken (inl bad) = told_broken other.told bad
    other_broken (inr (inl bad)) = told_cut_analysis other.told bad
    other_broken (inr (inr (inl bad))) = no_drill_here other.told bad.of.drill bad.of.is_command
    other_broken (inr (inr (inr bad))) =
        other.other bad.replay.of.plan bad.entries bad.lines (plan_is other.told (Same bad.entries bad.lines) bad.replay) (finds other.told (Same bad.entries bad.lines) bad.replay)

    -- of others
    pub replay_other : (status : ℕ) → Means status c → (status ≡ 1) ⊎ (status ≡ 8)
    replay_other status means = by_status (λ s. (s ≡ 1) ⊎ (s ≡ 8)) c (λ m. absurd (other_done m)) (λ m. inl refl) (λ m. absurd (told_usage other.told m)) (λ m. absurd (told_refused other.told m))
        (λ m. absurd (told_malformed other.told m)) (λ m. absurd (told_fault other.told m)) (λ m. absurd (told_unreadable other.told m)) (λ m. absurd (other_broken m)) (λ m. inr refl) status means
