use Rattle.std.proofs.Common.{Global, List, ℕ, map, string_bytes, ap, subst}
use Rattle.std.specs.Option.{option_map}
use Rattle.lola_feed.specs.Lending.{names_at}
use Rattle.lola_model.specs.declared.journal.Show.TheVariants as show
use Rattle.lola_monitor_run.specs.Running.{keeping}
use Rattle.lola_monitor_run.specs.Verdicts.{Setting}
use Rattle.lola_monitor_command.specs.Said.{name_at}
use Rattle.lola_monitor.specs.Causes.{SourcesCause}
use Rattle.lola_monitor.specs.Command.{snapshot_with}
use Rattle.lola_monitor.specs.Monitor.{outside}
use Rattle.lola_monitor.specs.SnapshotOutcomes.{RunsRows, nowhere}
use Rattle.lola_monitor.proofs.BehindNothing.{begins_anew}
use Rattle.lola_monitor.proofs.CallCauses.{caused_over_anew}
use Rattle.lola_monitor.proofs.Calls.{grew_none}
use Rattle.lola_monitor.proofs.SnapshotWorks.{over_anew, over_memory}
use Rattle.lola_monitor.proofs.saving.snapshot_anew.Goals as goal

pub returns-in_default-clause-works : goal.returns-in_default-clause-works
returns-in_default-clause-works g c =
    let shelf = g.F.Shelf.state c.args.shelf.now in
    over_memory c.args.specification.bytes.items c.args.specification.plan (snapshot_with (map (string_bytes {Z = Global}) c.args.words.now) c.args.command.now) shelf shelf

pub returns-in_default-clause-cause : goal.returns-in_default-clause-cause
returns-in_default-clause-cause g c before out trace p is_text = tt

pub returns-in_default-clause-asked : goal.returns-in_default-clause-asked
returns-in_default-clause-asked g c = grew_none (names_at (map (string_bytes {Z = Global}) c.args.words.now) c.args.command.now.sources) (g.F.Shelf.state c.args.shelf.now)

pub run_named-requires-clause-start : goal.run_named-requires-clause-start
run_named-requires-clause-start g c κs within =
    begins_anew (keeping c.in-Ok.run') (record { plan = c.args.specification.plan; start = c.args.command.now.start; show = show.Triggers }) c.in-Ok.ensures.behind c.in-Ok.ensures.setting

pub returns-clause-works : goal.returns-clause-works
returns-clause-works g c =
    let words = map (string_bytes {Z = Global}) c.args.words.now in
    let command = c.args.command.now in
    let before = g.F.Shelf.state c.args.shelf.now in
    let after = g.F.Shelf.state c.run_named.new.shelf in
    let kept = keeping c.in-Ok.run' in
    over_anew c.args.specification.bytes.items c.args.specification.plan (snapshot_with words command) kept before after c.run_named.result (ap (option_map (name_at words)) c.requires.none)
    c.in-Ok.ensures.behind c.in-Ok.ensures.setting
    (subst (λ (b : List ℕ). RunsRows c.run_named.result b kept (names_at words command.sources) before after) c.deref.ensures.value
    (subst (λ (n : List ℕ). RunsRows c.run_named.result c.deref.result.now kept (names_at words n) before after) c.as_slice.ensures c.run_named.ensures.runs))

pub returns-clause-cause : goal.returns-clause-cause
returns-clause-cause g c =
    let words = map (string_bytes {Z = Global}) c.args.words.now in
    let command = c.args.command.now in
    let before = g.F.Shelf.state c.args.shelf.now in
    let after = g.F.Shelf.state c.run_named.new.shelf in
    let kept = keeping c.in-Ok.run' in
    caused_over_anew c.args.specification.bytes.items c.args.specification.plan (snapshot_with words command) before after kept c.run_named.result (ap (option_map (name_at words)) c.requires.none)
    (ap (λ (s : Setting). s.plan) c.in-Ok.ensures.setting)
    (subst (λ (n : List ℕ). SourcesCause c.run_named.result kept.state.plan (names_at words n) (outside before nowhere nowhere) (outside after nowhere nowhere)) c.as_slice.ensures c.run_named.ensures.cause)

pub returns-clause-asked : goal.returns-clause-asked
returns-clause-asked g c =
    let words = map (string_bytes {Z = Global}) c.args.words.now in
    let before = g.F.Shelf.state c.args.shelf.now in
    let after = g.F.Shelf.state c.run_named.new.shelf in
    (subst (λ (n : List ℕ). RunsRows c.run_named.result c.deref.result.now (keeping c.in-Ok.run') (names_at words n) before after) c.as_slice.ensures c.run_named.ensures.runs).asked
