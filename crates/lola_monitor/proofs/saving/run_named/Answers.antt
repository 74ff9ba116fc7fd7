use Rattle.std.proofs.Common.{Global, ◌≡◌, ◌≤◌, length, map, string_bytes, sym, subst}
use Rattle.std.proofs.lemmas.List.{length-map}
use Rattle.lola_monitor_run.specs.Running.{keeping}
use Rattle.lola_monitor_run.specs.Verdicts.{most_rows}
use Rattle.lola_feed.specs.Lending.{AreRooms, names_at}
use Rattle.lola_model.specs.declared.plan.Plan.{Plan}
use Rattle.lola_value.specs.Words.{word_at}
use Rattle.lola_monitor.specs.Causes.{SourcesCause}
use Rattle.lola_monitor.specs.Monitor.{outside}
use Rattle.lola_monitor.specs.SnapshotOutcomes.{RunsRows, nowhere}
use Rattle.lola_monitor.proofs.Calls.{grew_none}
use Rattle.lola_monitor.proofs.Lent.{lent_ready}
use Rattle.lola_monitor.proofs.SnapshotRows.{unfetched_rows}
use Rattle.lola_monitor.proofs.SourceCauses.{caused_unfetched}
use Rattle.lola_monitor.proofs.saving.run_named.Goals as goal

-- no memory for the room
pub returns-in_default-clause-runs : goal.returns-in_default-clause-runs
returns-in_default-clause-runs g c = record { asked = grew_none (names_at (map (string_bytes {Z = Global}) c.args.words.now) c.args.names.now) (g.F.Shelf.state c.args.shelf.now); is_end = tt; long = tt; behind = λ front stands. tt }

pub returns-in_default-clause-cause : goal.returns-in_default-clause-cause
returns-in_default-clause-cause g c = tt

-- nothing was run
pub returns-in-Err-clause-runs : goal.returns-in-Err-clause-runs
returns-in-Err-clause-runs g c =
    let words = map (string_bytes {Z = Global}) c.args.words.now in
    let names = names_at words c.args.names.now in
    let before = g.F.Shelf.state c.args.shelf.now in
    let after = g.F.Shelf.state c.fetch_all.new.shelf in
    subst (λ o. RunsRows o c.args.specification.now (keeping c.args.run) names before after) (sym c.not_fetched.ensures)
    (unfetched_rows c.args.specification.now (keeping c.args.run) names before after c.in-Err.stop c.in-Ok.room.readers.items c.fetch_all.new.workers.items c.in-Err.ensures)

pub returns-in-Err-clause-cause : goal.returns-in-Err-clause-cause
returns-in-Err-clause-cause g c =
    let words = map (string_bytes {Z = Global}) c.args.words.now in
    let names = names_at words c.args.names.now in
    let before = g.F.Shelf.state c.args.shelf.now in
    let after = g.F.Shelf.state c.fetch_all.new.shelf in
    let plan = c.args.run.engine.state.plan in
    subst (λ o. SourcesCause o plan names (outside before nowhere nowhere) (outside after nowhere nowhere)) (sym c.not_fetched.ensures)
    (caused_unfetched c.in-Err.stop plan names c.in-Ok.room.readers.items before after nowhere nowhere c.fetch_all.new.workers.items c.in-Err.ensures)

pub snapshot_lent-requires-clause-ready : goal.snapshot_lent-requires-clause-ready
snapshot_lent-requires-clause-ready g c κs within =
    let words = map (string_bytes {Z = Global}) c.args.words.now in
    let numbers = c.args.names.now in
    let rooms = c.in-Ok.room.readers.items in
    let plan = c.args.run.engine.state.plan in
    let many : length numbers ≡ length (names_at words numbers) = sym (length-map numbers (word_at words)) in
    lent_ready plan (names_at words numbers) rooms (g.F.Shelf.state c.args.shelf.now) (g.F.Shelf.state c.fetch_all.new.shelf) c.fetch_all.new.workers.items c.in_default-fetch_all.ensures
    (subst (λ n. AreRooms plan n most_rows rooms) many (subst (λ (p : Plan). AreRooms p (length numbers) most_rows rooms) c.plan.ensures c.in-Ok.ensures.readers))
    (subst (λ n. 1 ≤ n) many c.requires.sources.0) (subst (λ n. n ≤ 64) many c.requires.sources.1)

pub returns-clause-runs : goal.returns-clause-runs
returns-clause-runs g c =
    let words = map (string_bytes {Z = Global}) c.args.words.now in
    let numbers = c.args.names.now in
    let rooms = c.in-Ok.room.readers.items in
    let plan = c.args.run.engine.state.plan in
    let many : length numbers ≡ length (names_at words numbers) = sym (length-map numbers (word_at words)) in
    c.snapshot_lent.ensures.runs (names_at words numbers) rooms (g.F.Shelf.state c.args.shelf.now) c.in_default-fetch_all.ensures
    (subst (λ n. AreRooms plan n most_rows rooms) many (subst (λ (p : Plan). AreRooms p (length numbers) most_rows rooms) c.plan.ensures c.in-Ok.ensures.readers))

pub returns-clause-cause : goal.returns-clause-cause
returns-clause-cause g c =
    let words = map (string_bytes {Z = Global}) c.args.words.now in
    let numbers = c.args.names.now in
    let rooms = c.in-Ok.room.readers.items in
    let plan = c.args.run.engine.state.plan in
    let many : length numbers ≡ length (names_at words numbers) = sym (length-map numbers (word_at words)) in
    c.snapshot_lent.ensures.cause (names_at words numbers) rooms (g.F.Shelf.state c.args.shelf.now) c.in_default-fetch_all.ensures
    (subst (λ n. AreRooms plan n most_rows rooms) many (subst (λ (p : Plan). AreRooms p (length numbers) most_rows rooms) c.plan.ensures c.in-Ok.ensures.readers))
