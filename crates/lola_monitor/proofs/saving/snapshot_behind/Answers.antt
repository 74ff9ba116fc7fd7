use Rattle.std.proofs.Common.{Global, List, ℕ, map, string_bytes, ap, sym, subst, ◌∙◌}
use Rattle.std.specs.Option.{option_map}
use Rattle.lola_feed.specs.Lending.{names_at}
use Rattle.lola_model.specs.declared.journal.Show.TheVariants as show
use Rattle.lola_monitor_run.specs.Running.{keeping}
use Rattle.lola_monitor_command.specs.Said.{name_at}
use Rattle.lola_monitor.specs.Causes.{SourcesCause}
use Rattle.lola_monitor.specs.Command.{snapshot_with}
use Rattle.lola_monitor.specs.Monitor.{outside}
use Rattle.lola_monitor.specs.Outcomes.{noted}
use Rattle.lola_monitor.specs.ResumedOutcomes.{RunRead}
use Rattle.lola_monitor.specs.SnapshotOutcomes.{CausesOver, RunsRows, WorksOver, nowhere}
use Rattle.lola_monitor.specs.Stating.{NoEngine}
use Rattle.lola_monitor.proofs.Asking.{snapshot_state}
use Rattle.lola_monitor.proofs.CallCauses.{caused_over_read, caused_over_unloaded}
use Rattle.lola_monitor.proofs.Calls.{grew_twice}
use Rattle.lola_monitor.proofs.SnapshotWorks.{over_read, over_unloaded}
use Rattle.lola_monitor.proofs.StateRuns.{grew_unloaded}
use Rattle.lola_monitor.proofs.saving.snapshot_behind.Given.{Over}
use Rattle.lola_monitor.proofs.saving.snapshot_behind.Goals.{After-drop-bytes-2}
use Rattle.lola_monitor.proofs.saving.snapshot_behind.Goals as goal

pub named-name-requires : goal.named-name-requires
named-name-requires g c = snapshot_state (map (string_bytes {Z = Global}) c.args.words.now) c.args.command.now c.requires.is_snapshot ∙ c.requires.state

-- no engine goes on from the state
pub returns-in-Err-clause-works : goal.returns-in-Err-clause-works
returns-in-Err-clause-works g c =
    let words = map (string_bytes {Z = Global}) c.args.words.now in
    let command = c.args.command.now in
    let before = g.F.Shelf.state c.args.shelf.now in
    let after = g.F.Shelf.state c.run_of_state.new.shelf in
    let state = name_at words c.args.place in
    subst (λ o. WorksOver o c.args.specification.bytes.items c.args.specification.plan (snapshot_with words command) before after) (sym c.without_engine.ensures)
    (over_unloaded c.args.specification.bytes.items state c.args.specification.plan (snapshot_with words command) before after c.in-Err.end (ap (option_map (name_at words)) c.requires.state)
    (subst (λ (b : List ℕ). NoEngine c.in-Err.end b c.args.specification.plan state before after) c.deref.ensures.value
    (subst (λ (n : List ℕ). NoEngine c.in-Err.end c.deref.result.now c.args.specification.plan n before after) c.named-name.ensures c.in-Err.ensures)))

pub returns-in-Err-clause-cause : goal.returns-in-Err-clause-cause
returns-in-Err-clause-cause g c =
    let words = map (string_bytes {Z = Global}) c.args.words.now in
    let command = c.args.command.now in
    let before = g.F.Shelf.state c.args.shelf.now in
    let after = g.F.Shelf.state c.run_of_state.new.shelf in
    let state = name_at words c.args.place in
    subst (λ o. CausesOver o c.args.specification.bytes.items c.args.specification.plan (snapshot_with words command) before after) (sym c.without_engine.ensures)
    (caused_over_unloaded c.args.specification.bytes.items c.args.specification.plan (snapshot_with words command) before after c.in-Err.end state
    (subst (λ (b : List ℕ). NoEngine c.in-Err.end b c.args.specification.plan state before after) c.deref.ensures.value
    (subst (λ (n : List ℕ). NoEngine c.in-Err.end c.deref.result.now c.args.specification.plan n before after) c.named-name.ensures c.in-Err.ensures)))

pub returns-in-Err-clause-asked : goal.returns-in-Err-clause-asked
returns-in-Err-clause-asked g c =
    let words = map (string_bytes {Z = Global}) c.args.words.now in
    let sources = names_at words c.args.command.now.sources in
    let before = g.F.Shelf.state c.args.shelf.now in
    let after = g.F.Shelf.state c.run_of_state.new.shelf in
    grew_unloaded c.in-Err.end c.deref.result.now c.args.specification.plan (name_at words c.args.place) sources before after
    (subst (λ (n : List ℕ). NoEngine c.in-Err.end c.deref.result.now c.args.specification.plan n before after) c.named-name.ensures c.in-Err.ensures)

-- the run that goes on from the state
read_state : (g : Over) (c : After-drop-bytes-2 g) → RunRead c.args.specification.bytes.items c.args.specification.plan show.Triggers (name_at (map (string_bytes {Z = Global}) c.args.words.now) c.args.place) (keeping c.in-Ok.resumed.run) c.in-Ok.resumed.start
    (g.F.Shelf.state c.args.shelf.now) (g.F.Shelf.state c.run_of_state.new.shelf)
read_state g c =
    let plan = c.args.specification.plan in
    let before = g.F.Shelf.state c.args.shelf.now in
    let mid = g.F.Shelf.state c.run_of_state.new.shelf in
    let kept = keeping c.in-Ok.resumed.run in
    let start = c.in-Ok.resumed.start in
    subst (λ (b : List ℕ). RunRead b plan show.Triggers (name_at (map (string_bytes {Z = Global}) c.args.words.now) c.args.place) kept start before mid) c.deref.ensures.value
    (subst (λ (n : List ℕ). RunRead c.deref.result.now plan show.Triggers n kept start before mid) c.named-name.ensures c.in-Ok.ensures)

pub run_named-requires-clause-none : goal.run_named-requires-clause-none
run_named-requires-clause-none g c κs within = c.in-Ok.ensures.none

pub run_named-requires-clause-start : goal.run_named-requires-clause-start
run_named-requires-clause-start g c κs within = c.in-Ok.ensures.merged

pub returns-clause-works : goal.returns-clause-works
returns-clause-works g c =
    let words = map (string_bytes {Z = Global}) c.args.words.now in
    let command = c.args.command.now in
    let bytes = c.args.specification.bytes.items in
    let before = g.F.Shelf.state c.args.shelf.now in
    let mid = g.F.Shelf.state c.run_of_state.new.shelf in
    let after = g.F.Shelf.state c.run_named.new.shelf in
    let kept = keeping c.in-Ok.resumed.run in
    over_read bytes (name_at words c.args.place) c.args.specification.plan (snapshot_with words command) kept c.in-Ok.resumed.start before mid after c.run_named.result (ap (option_map (name_at words)) c.requires.state) (read_state g c)
    (subst (λ (b : List ℕ). RunsRows c.run_named.result b kept (names_at words command.sources) mid after) c.deref-2.ensures.value
    (subst (λ (n : List ℕ). RunsRows c.run_named.result c.deref-2.result.now kept (names_at words n) mid after) c.as_slice.ensures c.run_named.ensures.runs))

pub returns-clause-cause : goal.returns-clause-cause
returns-clause-cause g c =
    let words = map (string_bytes {Z = Global}) c.args.words.now in
    let command = c.args.command.now in
    let before = g.F.Shelf.state c.args.shelf.now in
    let mid = g.F.Shelf.state c.run_of_state.new.shelf in
    let after = g.F.Shelf.state c.run_named.new.shelf in
    let kept = keeping c.in-Ok.resumed.run in
    caused_over_read c.args.specification.bytes.items c.args.specification.plan (snapshot_with words command) before after (name_at words c.args.place) (ap (option_map (name_at words)) c.requires.state)
    show.Triggers kept c.in-Ok.resumed.start mid c.run_named.result (read_state g c)
    (subst (λ (n : List ℕ). SourcesCause c.run_named.result kept.state.plan (names_at words n) (outside mid nowhere nowhere) (outside after nowhere nowhere)) c.as_slice.ensures c.run_named.ensures.cause)

pub returns-clause-asked : goal.returns-clause-asked
returns-clause-asked g c =
    let words = map (string_bytes {Z = Global}) c.args.words.now in
    let sources = names_at words c.args.command.now.sources in
    let before = g.F.Shelf.state c.args.shelf.now in
    let mid = g.F.Shelf.state c.run_of_state.new.shelf in
    let after = g.F.Shelf.state c.run_named.new.shelf in
    grew_twice (name_at words c.args.place) sources before mid after (c.in-Ok.ensures.shelf ∙ ap (noted before) c.named-name.ensures)
    (subst (λ (n : List ℕ). RunsRows c.run_named.result c.deref-2.result.now (keeping c.in-Ok.resumed.run) (names_at words n) mid after) c.as_slice.ensures c.run_named.ensures.runs).asked
