use Rattle.std.proofs.Common.{Global, List, ℕ, ◌∷◌, map, string_bytes, ap, sym, subst, refl, ◌∙◌}
use Rattle.lola_monitor_run.specs.Running.{keeping}
use Rattle.lola_value.specs.Words.{word_at}
use Rattle.lola_monitor_command.specs.Said.{name_at}
use Rattle.lola_monitor.specs.Causes.{Causes}
use Rattle.lola_monitor.specs.Command.{Resumption, resumption_with}
use Rattle.lola_monitor.specs.Monitor.{outside}
use Rattle.lola_monitor.specs.Resumed.{inputs_of}
use Rattle.lola_monitor.specs.ResumedOutcomes.{WorksResumed}
use Rattle.lola_monitor.proofs.Asking.{resumed_names, resumed_state}
use Rattle.lola_monitor.proofs.CallCauses.{caused_resumed, caused_unloaded, caused_unplanned}
use Rattle.lola_monitor.proofs.Calls.{asked_for, grew_twice, grew_unplanned}
use Rattle.lola_monitor.proofs.GoneOn.{works_resumed, works_unloaded, works_unplanned_state}
use Rattle.lola_monitor.proofs.StateRuns.{grew_unloaded}
use Rattle.lola_monitor.proofs.resuming.resume.Goals as goal

pub returns-in-Err-clause-works : goal.returns-in-Err-clause-works
returns-in-Err-clause-works g c =
    let words = map (string_bytes {Z = Global}) c.args.words.now in
    let command = c.args.command.now in
    let named : List ℕ → Resumption = λ n. record {
      specification = n;
      state = name_at words c.args.place;
      sources = map (word_at words) command.sources;
      show = command.show;
      workers = command.workers;
      in_turns = command.in_turns;
    } in
    let before = outside (g.F.Shelf.state c.args.shelf.now) (g.K.Sink.state c.args.out.now) (g.T.Sink.state c.args.trace.now) in
    let after = outside (g.F.Shelf.state c.read_specification.new.shelf) (g.K.Sink.state c.args.out.now) (g.T.Sink.state c.args.trace.now) in
    subst (λ (n : List ℕ). WorksResumed c.without_plan.result (named n) before after) c.word_at.ensures
    (subst (λ o. WorksResumed o (named c.word_at.result.now) before after) (sym c.without_plan.ensures)
    (works_unplanned_state c.in-Err.end (named c.word_at.result.now) before after (record { trace = refl; out = refl }) c.in-Err.ensures.plan))

pub returns-in-Err-clause-cause : goal.returns-in-Err-clause-cause
returns-in-Err-clause-cause g c =
    let words = map (string_bytes {Z = Global}) c.args.words.now in
    let inputs = inputs_of (resumption_with words c.args.command.now c.args.place) in
    let before = outside (g.F.Shelf.state c.args.shelf.now) (g.K.Sink.state c.args.out.now) (g.T.Sink.state c.args.trace.now) in
    let after = outside (g.F.Shelf.state c.read_specification.new.shelf) (g.K.Sink.state c.args.out.now) (g.T.Sink.state c.args.trace.now) in
    subst (λ o. Causes o inputs before after) (sym c.without_plan.ensures) (caused_unplanned c.in-Err.end inputs before after (record { trace = refl; out = refl }))

pub returns-in-Err-clause-asked : goal.returns-in-Err-clause-asked
returns-in-Err-clause-asked g c =
    let words = map (string_bytes {Z = Global}) c.args.words.now in
    let rest = name_at words c.args.place ∷ map (word_at words) c.args.command.now.sources in
    asked_for words (c.word_at.result.now ∷ rest) (g.F.Shelf.state c.args.shelf.now) (g.F.Shelf.state c.read_specification.new.shelf)
    (resumed_names words c.args.command.now c.requires.is_run c.args.place c.requires.is_state ∙ ap (λ (n : List ℕ). n ∷ rest) (sym c.word_at.ensures))
    (grew_unplanned c.in-Err.end c.word_at.result.now rest _ _ c.in-Err.ensures.plan)

pub named-name-requires : goal.named-name-requires
named-name-requires g c = resumed_state (map (string_bytes {Z = Global}) c.args.words.now) c.args.command.now c.requires.is_run c.args.place c.requires.is_state

pub read_run-requires-clause-workers : goal.read_run-requires-clause-workers
read_run-requires-clause-workers g c κs lives = c.requires.bounds.workers

pub run_sources-requires-clause-sources : goal.run_sources-requires-clause-sources
run_sources-requires-clause-sources g c κs lives = c.requires.bounds.sources

-- the specification was read, but no engine was made
pub returns-in-Err-read_run-clause-works : goal.returns-in-Err-read_run-clause-works
returns-in-Err-read_run-clause-works g c =
    let words = map (string_bytes {Z = Global}) c.args.words.now in
    let command = c.args.command.now in
    let named : List ℕ → List ℕ → Resumption = λ n m. record {
      specification = n;
      state = m;
      sources = map (word_at words) command.sources;
      show = command.show;
      workers = command.workers;
      in_turns = command.in_turns;
    } in
    let n = c.word_at.result.now in
    let m = c.named-name.result.now in
    let before = outside (g.F.Shelf.state c.args.shelf.now) (g.K.Sink.state c.args.out.now) (g.T.Sink.state c.args.trace.now) in
    let after = outside (g.F.Shelf.state c.read_run.new.shelf) (g.K.Sink.state c.args.out.now) (g.T.Sink.state c.args.trace.now) in
    let specification = c.in-Ok.specification in
    subst (λ (k : List ℕ). WorksResumed c.without_engine.result (named k (name_at words c.args.place)) before after) c.word_at.ensures
    (subst (λ (k : List ℕ). WorksResumed c.without_engine.result (named n k) before after) c.named-name.ensures
    (subst (λ o. WorksResumed o (named n m) before after) (sym c.without_engine.ensures)
    (works_unloaded (named n m) specification.plan specification.bytes.items before (g.F.Shelf.state c.read_specification.new.shelf) c.in-Ok.ensures.plan.is_plan c.in-Ok.ensures.text c.in-Ok.ensures.plan.shelf
    c.in-Err-read_run.end after (record { trace = refl; out = refl }) c.in-Err-read_run.ensures)))

pub returns-in-Err-read_run-clause-cause : goal.returns-in-Err-read_run-clause-cause
returns-in-Err-read_run-clause-cause g c =
    let words = map (string_bytes {Z = Global}) c.args.words.now in
    let inputs = inputs_of (resumption_with words c.args.command.now c.args.place) in
    let before = outside (g.F.Shelf.state c.args.shelf.now) (g.K.Sink.state c.args.out.now) (g.T.Sink.state c.args.trace.now) in
    let after = outside (g.F.Shelf.state c.read_run.new.shelf) (g.K.Sink.state c.args.out.now) (g.T.Sink.state c.args.trace.now) in
    let specification = c.in-Ok.specification in
    subst (λ o. Causes o inputs before after) (sym c.without_engine.ensures)
    (caused_unloaded c.in-Err-read_run.end specification.bytes.items specification.plan c.named-name.result.now (g.F.Shelf.state c.read_specification.new.shelf) (g.F.Shelf.state c.read_run.new.shelf) inputs before after
    (record { trace = refl; out = refl }) c.in-Err-read_run.ensures)

pub returns-in-Err-read_run-clause-asked : goal.returns-in-Err-read_run-clause-asked
returns-in-Err-read_run-clause-asked g c =
    let words = map (string_bytes {Z = Global}) c.args.words.now in
    let command = c.args.command.now in
    let sources = map (word_at words) command.sources in
    let n = c.word_at.result.now in
    let m = c.named-name.result.now in
    let specification = c.in-Ok.specification in
    asked_for words (n ∷ m ∷ sources) (g.F.Shelf.state c.args.shelf.now) (g.F.Shelf.state c.read_run.new.shelf)
    (resumed_names words command c.requires.is_run c.args.place c.requires.is_state
    ∙ (ap (λ (k : List ℕ). k ∷ name_at words c.args.place ∷ sources) (sym c.word_at.ensures) ∙ ap (λ (k : List ℕ). n ∷ k ∷ sources) (sym c.named-name.ensures)))
    (grew_twice n (m ∷ sources) _ (g.F.Shelf.state c.read_specification.new.shelf) _ c.in-Ok.ensures.plan.shelf
    (grew_unloaded c.in-Err-read_run.end specification.bytes.items specification.plan m sources _ _ c.in-Err-read_run.ensures))

pub returns-clause-works : goal.returns-clause-works
returns-clause-works g c =
    let words = map (string_bytes {Z = Global}) c.args.words.now in
    let command = c.args.command.now in
    let named : List ℕ → List ℕ → Resumption = λ n m. record {
      specification = n;
      state = m;
      sources = map (word_at words) command.sources;
      show = command.show;
      workers = command.workers;
      in_turns = command.in_turns;
    } in
    let n = c.word_at.result.now in
    let m = c.named-name.result.now in
    let before = outside (g.F.Shelf.state c.args.shelf.now) (g.K.Sink.state c.args.out.now) (g.T.Sink.state c.args.trace.now) in
    let after = outside (g.F.Shelf.state c.run_sources.new.shelf) (g.K.Sink.state c.run_sources.new.out) (g.T.Sink.state c.run_sources.new.trace) in
    let specification = c.in-Ok.specification in
    let run = c.in-Ok-read_run.resumed in
    subst (λ (k : List ℕ). WorksResumed c.run_sources.result (named k (name_at words c.args.place)) before after) c.word_at.ensures
    (subst (λ (k : List ℕ). WorksResumed c.run_sources.result (named n k) before after) c.named-name.ensures
    (works_resumed (named n m) specification.plan specification.bytes.items before (g.F.Shelf.state c.read_specification.new.shelf) c.in-Ok.ensures.plan.is_plan c.in-Ok.ensures.text c.in-Ok.ensures.plan.shelf
    c.in-Ok.ensures.plan.accepted c.in-Ok.ensures.plan.one_model (g.F.Shelf.state c.read_run.new.shelf) (keeping run.run) run.start c.in-Ok-read_run.ensures after c.run_sources.result c.run_sources.ensures.runs))

pub returns-clause-cause : goal.returns-clause-cause
returns-clause-cause g c =
    let words = map (string_bytes {Z = Global}) c.args.words.now in
    let command = c.args.command.now in
    let named : List ℕ → List ℕ → Resumption = λ n m. record {
      specification = n;
      state = m;
      sources = map (word_at words) command.sources;
      show = command.show;
      workers = command.workers;
      in_turns = command.in_turns;
    } in
    let n = c.word_at.result.now in
    let m = c.named-name.result.now in
    let before = outside (g.F.Shelf.state c.args.shelf.now) (g.K.Sink.state c.args.out.now) (g.T.Sink.state c.args.trace.now) in
    let after = outside (g.F.Shelf.state c.run_sources.new.shelf) (g.K.Sink.state c.run_sources.new.out) (g.T.Sink.state c.run_sources.new.trace) in
    let specification = c.in-Ok.specification in
    let run = c.in-Ok-read_run.resumed in
    subst (λ (k : List ℕ). Causes c.run_sources.result (inputs_of (named k (name_at words c.args.place))) before after) c.word_at.ensures
    (subst (λ (k : List ℕ). Causes c.run_sources.result (inputs_of (named n k)) before after) c.named-name.ensures
    (caused_resumed specification.bytes.items specification.plan (named n m) (keeping run.run) run.start (g.F.Shelf.state c.read_specification.new.shelf) (g.F.Shelf.state c.read_run.new.shelf) before after c.run_sources.result
    c.in-Ok.ensures.plan.is_plan c.in-Ok.ensures.plan.shelf c.in-Ok-read_run.ensures c.run_sources.ensures.cause))

pub returns-clause-asked : goal.returns-clause-asked
returns-clause-asked g c =
    let words = map (string_bytes {Z = Global}) c.args.words.now in
    let command = c.args.command.now in
    let sources = map (word_at words) command.sources in
    let n = c.word_at.result.now in
    let m = c.named-name.result.now in
    let first = g.F.Shelf.state c.read_specification.new.shelf in
    asked_for words (n ∷ m ∷ sources) (g.F.Shelf.state c.args.shelf.now) (g.F.Shelf.state c.run_sources.new.shelf)
    (resumed_names words command c.requires.is_run c.args.place c.requires.is_state
    ∙ (ap (λ (k : List ℕ). k ∷ name_at words c.args.place ∷ sources) (sym c.word_at.ensures) ∙ ap (λ (k : List ℕ). n ∷ k ∷ sources) (sym c.named-name.ensures)))
    (grew_twice n (m ∷ sources) _ first _ c.in-Ok.ensures.plan.shelf (grew_twice m sources first (g.F.Shelf.state c.read_run.new.shelf) _ c.in-Ok-read_run.ensures.shelf c.run_sources.ensures.asked))
