use Rattle.std.proofs.Common.{Global, List, ℕ, ◌∷◌, Some, inl, map, string_bytes, ap, sym, subst, refl, ◌∙◌}
use Rattle.lola_model.specs.Journal.{opening_time}
use Rattle.lola_monitor_run.specs.Running.{keeping}
use Rattle.lola_monitor_run.specs.Verdicts.{Setting}
use Rattle.lola_value.specs.Words.{word_at}
use Rattle.lola_monitor.specs.Command.{Names}
use Rattle.lola_monitor.specs.Monitor.{outside}
use Rattle.lola_monitor.specs.Outcomes.{Works}
use Rattle.lola_monitor.proofs.Asking.{names_are, run_is, specification_is}
use Rattle.lola_monitor.proofs.Starts.{option_in_time}
use Rattle.lola_monitor.proofs.Calls.{asked_for, grew_noted, grew_twice, grew_unplanned}
use Rattle.lola_monitor.proofs.Working.{works_after, works_unplanned}
use Rattle.lola_monitor.proofs.monitor.run.Goals as goal

pub returns-in-Err-clause-works : goal.returns-in-Err-clause-works
returns-in-Err-clause-works g c =
    let words = map (string_bytes {Z = Global}) c.args.words.now in
    let before = outside (g.F.Shelf.state c.args.shelf.now) (g.K.Sink.state c.args.out.now) (g.T.Sink.state c.args.trace.now) in
    let after = outside (g.F.Shelf.state c.read_plan.new.shelf) (g.K.Sink.state c.args.out.now) (g.T.Sink.state c.args.trace.now) in
    let is = specification_is words c.args.command.now c.requires.is_run c.requires.is_anew ∙ ap Some (sym c.word_at.ensures) in
    subst (λ outcome. Works outcome words before after) (sym c.without_plan.ensures)
    (works_unplanned words c.word_at.result.now before after (record { trace = refl; out = refl }) is c.in-Err.end c.in-Err.ensures)

pub returns-in-Err-clause-asked : goal.returns-in-Err-clause-asked
returns-in-Err-clause-asked g c =
    let words = map (string_bytes {Z = Global}) c.args.words.now in
    let rest = map (word_at words) c.args.command.now.sources in
    asked_for words (c.word_at.result.now ∷ rest) (g.F.Shelf.state c.args.shelf.now) (g.F.Shelf.state c.read_plan.new.shelf)
    (names_are words c.args.command.now c.requires.is_run c.requires.is_anew ∙ ap (λ (n : List ℕ). n ∷ rest) (sym c.word_at.ensures))
    (grew_unplanned c.in-Err.end c.word_at.result.now rest _ _ c.in-Err.ensures)

-- no memory for the run
pub returns-in_default-clause-works : goal.returns-in_default-clause-works
returns-in_default-clause-works g c = inl (record { trace = refl; out = refl })

pub returns-in_default-clause-asked : goal.returns-in_default-clause-asked
returns-in_default-clause-asked g c =
    let words = map (string_bytes {Z = Global}) c.args.words.now in
    let rest = map (word_at words) c.args.command.now.sources in
    asked_for words (c.word_at.result.now ∷ rest) (g.F.Shelf.state c.args.shelf.now) (g.F.Shelf.state c.read_plan.new.shelf)
    (names_are words c.args.command.now c.requires.is_run c.requires.is_anew ∙ ap (λ (n : List ℕ). n ∷ rest) (sym c.word_at.ensures))
    (grew_noted c.word_at.result.now rest _ _ c.in-Ok.ensures.shelf)

pub returns-clause-works : goal.returns-clause-works
returns-clause-works g c =
    let words = map (string_bytes {Z = Global}) c.args.words.now in
    let command = c.args.command.now in
    let with_name : List ℕ → Names = λ n. record {
      specification = n;
      sources = map (word_at words) command.sources;
      start = command.start;
      show = command.show;
      workers = command.workers;
      in_turns = command.in_turns;
    } in
    let before = outside (g.F.Shelf.state c.args.shelf.now) (g.K.Sink.state c.args.out.now) (g.T.Sink.state c.args.trace.now) in
    let after = outside (g.F.Shelf.state c.run_sources.new.shelf) (g.K.Sink.state c.run_sources.new.out) (g.T.Sink.state c.run_sources.new.trace) in
    works_after words (with_name c.word_at.result.now) c.in-Ok.plan before after (g.F.Shelf.state c.read_plan.new.shelf)
    (run_is words command c.requires.is_run c.requires.is_anew ∙ ap (λ (n : List ℕ). Some (with_name n)) (sym c.word_at.ensures))
    c.in-Ok.ensures.is_plan c.in-Ok.ensures.accepted c.in-Ok.ensures.one_model c.in-Ok.ensures.shelf c.run_sources.result (keeping c.in-Ok-create.run')
    c.in-Ok-create.ensures.setting c.in-Ok-create.ensures.behind c.run_sources.ensures.runs

pub returns-clause-asked : goal.returns-clause-asked
returns-clause-asked g c =
    let words = map (string_bytes {Z = Global}) c.args.words.now in
    let command = c.args.command.now in
    let sources = map (word_at words) command.sources in
    let before = g.F.Shelf.state c.args.shelf.now in
    let mid = g.F.Shelf.state c.read_plan.new.shelf in
    let after = g.F.Shelf.state c.run_sources.new.shelf in
    asked_for words (c.word_at.result.now ∷ sources) before after
    (names_are words command c.requires.is_run c.requires.is_anew ∙ ap (λ (n : List ℕ). n ∷ sources) (sym c.word_at.ensures))
    (grew_twice c.word_at.result.now sources before mid after c.in-Ok.ensures.shelf c.run_sources.ensures.asked)

pub create-requires-clause-workers : goal.create-requires-clause-workers
create-requires-clause-workers g c = c.requires.bounds.workers

pub create-requires-clause-start : goal.create-requires-clause-start
create-requires-clause-start g c = option_in_time c.args.command.now.start c.requires.bounds.start

pub run_sources-requires-clause-start : goal.run_sources-requires-clause-start
run_sources-requires-clause-start g c κs lives =
    let run = c.in-Ok-create.ensures in
    ap (λ (s : Setting). opening_time s.start) (sym run.setting) ∙ sym run.behind.engine.merged

pub run_sources-requires-clause-sources : goal.run_sources-requires-clause-sources
run_sources-requires-clause-sources g c κs lives = c.requires.bounds.sources
