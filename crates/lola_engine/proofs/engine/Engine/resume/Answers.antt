-- An engine that goes on where others left off stands for what they stood for.
use Rattle.std.proofs.Common.{◌≡◌, ◌≤◌, sym, subst}
use Rattle.lola_model.specs.Journal.{opening_time}
use Rattle.lola_engine.specs.Behind.{StandsBehind}
use Rattle.lola_engine.specs.Engines.{IsEngine}
use Rattle.lola_engine.specs.Resuming.{last_or_start}
use Rattle.lola_engine.specs.declared.engine.EngineState.{EngineState}
use Rattle.lola_engine.proofs.Resumed.{few_rows, merged_so_far, resumed_engine, resumed_stands}
use Rattle.lola_engine.proofs.engine.Engine.resume.Goals as goal

pub returns-clause-engine : goal.returns-clause-engine
returns-clause-engine g c =
    let s = g.S.StreamStore.seen c.args.store in
    subst (λ (d : EngineState). IsEngine d s) (sym c.go_on.ensures)
    (resumed_engine c.args.plan c.args.texts c.args.times.start c.args.show c.args.workers c.in_ok-state.state c.in_ok-state.ensures s c.args.times c.requires.store c.requires.texts)

pub returns-clause-stands : goal.returns-clause-stands
returns-clause-stands g c given_start journal left =
    let s = g.S.StreamStore.seen c.args.store in
    let m = g.S.StreamStore.remembers c.args.store in
    subst (λ (d : EngineState). StandsBehind d s m journal journal) (sym c.go_on.ensures)
    (resumed_stands c.args.plan c.args.texts c.args.show c.args.workers c.args.times c.in_ok-state.state s m c.in_ok-state.ensures c.requires.store given_start journal left)

pub returns-clause-rows : goal.returns-clause-rows
returns-clause-rows g c = subst (λ (d : EngineState). d.rows ≤ 1) (sym c.go_on.ensures) (few_rows c.args.times.start c.args.times.last c.args.times.steps c.in_ok-state.state c.in_ok-state.ensures.nothing.0)

pub returns-clause-merged : goal.returns-clause-merged
returns-clause-merged g c =
    subst (λ (d : EngineState). d.merged ≡ opening_time (last_or_start c.args.times.last c.args.times.start)) (sym c.go_on.ensures)
    (merged_so_far c.args.times.start c.args.times.last c.args.times.steps c.in_ok-state.state (g.S.StreamStore.seen c.args.store).phase c.in_ok-state.ensures.nothing.1 c.requires.store.phase)
