use Rattle.std.proofs.Common.{Global, ◌≡◌, ◌≤◌, List, ℕ, Err, inr, length, map, string_bytes, sym, subst}
use Rattle.std.proofs.lemmas.List.{length-map}
use Rattle.lola_monitor_run.specs.Running.{keeping}
use Rattle.lola_monitor_run.specs.Verdicts.{most_rows}
use Rattle.lola_feed.specs.Lending.{AreRooms, Fetches, IsLent, names_at}
use Rattle.lola_value.specs.Words.{word_at}
use Rattle.lola_monitor.specs.Causes.{SourcesCause}
use Rattle.lola_monitor.specs.Monitor.{outside}
use Rattle.lola_monitor.specs.Outcomes.{TakesSources}
use Rattle.lola_monitor.proofs.Lent.{grew_unfetched, lent_ready, unfetched_run}
use Rattle.lola_monitor.proofs.SourceCauses.{caused_unfetched}
use Rattle.lola_monitor.proofs.sources.run_room.Goals as goal

-- nothing was run
pub returns-in-Err-clause-runs : goal.returns-in-Err-clause-runs
returns-in-Err-clause-runs g c =
    let words = map (string_bytes {Z = Global}) c.args.words.now in
    let command = c.args.command.now in
    let rooms = c.args.room.readers.items in
    let workers = c.fetch_all.new.workers.items in
    let before = g.F.Shelf.state c.args.shelf.now in
    let after = g.F.Shelf.state c.fetch_all.new.shelf in
    let out = g.K.Sink.state c.args.out.now in
    let trace = g.T.Sink.state c.args.trace.now in
    let kept = keeping c.args.run.now in
    subst (λ o. TakesSources command.in_turns o kept (names_at words command.sources) (outside before out trace) (outside after out trace)) (sym c.not_fetched.ensures)
    (unfetched_run command.in_turns c.in-Err.stop kept (names_at words command.sources) rooms before after out trace workers
    (subst (λ (numbers : List ℕ). Fetches (Err c.in-Err.stop) (names_at words numbers) rooms before after workers) c.as_slice-names.ensures c.in-Err.ensures))

pub returns-in-Err-clause-cause : goal.returns-in-Err-clause-cause
returns-in-Err-clause-cause g c =
    let words = map (string_bytes {Z = Global}) c.args.words.now in
    let numbers = c.args.command.now.sources in
    let rooms = c.args.room.readers.items in
    let workers = c.fetch_all.new.workers.items in
    let before = g.F.Shelf.state c.args.shelf.now in
    let after = g.F.Shelf.state c.fetch_all.new.shelf in
    let out = g.K.Sink.state c.args.out.now in
    let trace = g.T.Sink.state c.args.trace.now in
    let plan = (keeping c.args.run.now).state.plan in
    subst (λ o. SourcesCause o plan (names_at words numbers) (outside before out trace) (outside after out trace)) (sym c.not_fetched.ensures)
    (caused_unfetched c.in-Err.stop plan (names_at words numbers) rooms before after out trace workers
    (subst (λ (n : List ℕ). Fetches (Err c.in-Err.stop) (names_at words n) rooms before after workers) c.as_slice-names.ensures c.in-Err.ensures))

pub returns-in-Err-clause-asked : goal.returns-in-Err-clause-asked
returns-in-Err-clause-asked g c =
    let words = map (string_bytes {Z = Global}) c.args.words.now in
    let numbers = c.args.command.now.sources in
    let rooms = c.args.room.readers.items in
    let workers = c.fetch_all.new.workers.items in
    let before = g.F.Shelf.state c.args.shelf.now in
    let after = g.F.Shelf.state c.fetch_all.new.shelf in
    grew_unfetched c.in-Err.stop (names_at words numbers) rooms before after workers
    (subst (λ (n : List ℕ). Fetches (Err c.in-Err.stop) (names_at words n) rooms before after workers) c.as_slice-names.ensures c.in-Err.ensures)

pub run_lent-requires-clause-ready : goal.run_lent-requires-clause-ready
run_lent-requires-clause-ready g c κs within =
    let words = map (string_bytes {Z = Global}) c.args.words.now in
    let numbers = c.args.command.now.sources in
    let rooms = c.args.room.readers.items in
    let plan = (keeping c.args.run.now).state.plan in
    let workers = c.fetch_all.new.workers.items in
    let before = g.F.Shelf.state c.args.shelf.now in
    let mid = g.F.Shelf.state c.fetch_all.new.shelf in
    let many : length numbers ≡ length (names_at words numbers) = sym (length-map numbers (word_at words)) in
    lent_ready plan (names_at words numbers) rooms before mid workers
    (subst (λ (n : List ℕ). IsLent (names_at words n) rooms before mid workers) c.as_slice-names.ensures c.in_default.ensures)
    (subst (λ n. AreRooms plan n most_rows rooms) many c.requires.readers) (subst (λ n. 1 ≤ n) many c.requires.sources.0) (subst (λ n. n ≤ 64) many c.requires.sources.1)

pub run_lent-requires-clause-given : goal.run_lent-requires-clause-given
run_lent-requires-clause-given g c κs within =
    let words = map (string_bytes {Z = Global}) c.args.words.now in
    let rooms = c.args.room.readers.items in
    let workers = c.fetch_all.new.workers.items in
    let before = g.F.Shelf.state c.args.shelf.now in
    let mid = g.F.Shelf.state c.fetch_all.new.shelf in
    let is : IsLent (names_at words c.as_slice-names.result.now) rooms before mid workers = c.in_default.ensures in
    is.given

pub returns-clause-runs : goal.returns-clause-runs
returns-clause-runs g c =
    let words = map (string_bytes {Z = Global}) c.args.words.now in
    let numbers = c.args.command.now.sources in
    let rooms = c.args.room.readers.items in
    let plan = (keeping c.args.run.now).state.plan in
    let workers = c.fetch_all.new.workers.items in
    let before = g.F.Shelf.state c.args.shelf.now in
    let mid = g.F.Shelf.state c.fetch_all.new.shelf in
    let many : length numbers ≡ length (names_at words numbers) = sym (length-map numbers (word_at words)) in
    inr (inr (record {
      ends = c.run_lent.ensures.ends;
      behind = c.run_lent.ensures.runs (names_at words numbers) rooms before
          (subst (λ (n : List ℕ). IsLent (names_at words n) rooms before mid workers) c.as_slice-names.ensures c.in_default.ensures)
          (subst (λ n. AreRooms plan n most_rows rooms) many c.requires.readers);
    }))

pub returns-clause-cause : goal.returns-clause-cause
returns-clause-cause g c =
    let words = map (string_bytes {Z = Global}) c.args.words.now in
    let numbers = c.args.command.now.sources in
    let rooms = c.args.room.readers.items in
    let plan = (keeping c.args.run.now).state.plan in
    let workers = c.fetch_all.new.workers.items in
    let before = g.F.Shelf.state c.args.shelf.now in
    let mid = g.F.Shelf.state c.fetch_all.new.shelf in
    let many : length numbers ≡ length (names_at words numbers) = sym (length-map numbers (word_at words)) in
    c.run_lent.ensures.cause (names_at words numbers) rooms before
    (subst (λ (n : List ℕ). IsLent (names_at words n) rooms before mid workers) c.as_slice-names.ensures c.in_default.ensures)
    (subst (λ n. AreRooms plan n most_rows rooms) many c.requires.readers)

pub returns-clause-asked : goal.returns-clause-asked
returns-clause-asked g c =
    let words = map (string_bytes {Z = Global}) c.args.words.now in
    let numbers = c.args.command.now.sources in
    let rooms = c.args.room.readers.items in
    let workers = c.fetch_all.new.workers.items in
    let before = g.F.Shelf.state c.args.shelf.now in
    let mid = g.F.Shelf.state c.fetch_all.new.shelf in
    c.run_lent.ensures.asked (names_at words numbers) rooms before
    (subst (λ (n : List ℕ). IsLent (names_at words n) rooms before mid workers) c.as_slice-names.ensures c.in_default.ensures)

pub run_lent-requires-clause-none : goal.run_lent-requires-clause-none
run_lent-requires-clause-none g c κs within = c.requires.going

pub run_lent-requires-clause-start : goal.run_lent-requires-clause-start
run_lent-requires-clause-start g c κs within = c.requires.start
