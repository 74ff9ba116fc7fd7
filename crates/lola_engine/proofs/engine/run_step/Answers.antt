-- What the step comes to for those who ran steps before it.
use Rattle.std.proofs.Common.{refl, sym, subst}
use Rattle.lola_step.specs.Steps.{IsDoneStep}
use Rattle.lola_engine.specs.Going.{tally_of}
use Rattle.lola_engine.proofs.Steps.{goes_cut, goes_done, goes_fault, goes_memory}
use Rattle.lola_engine.proofs.engine.run_step.Goals as goal

pub returns-in-Memory-clause-goes : goal.returns-in-Memory-clause-goes
returns-in-Memory-clause-goes g c of at read =
    let t = tally_of c.args.state.now in
    let m = g.S.StreamStore.remembers c.args.store.now in
    let s = g.S.StreamStore.seen c.args.store.now in
    goes_memory t c.args.start of m s c.args.lines.now c.args.lines.now t m s refl

pub returns-in-Fault-clause-goes : goal.returns-in-Fault-clause-goes
returns-in-Fault-clause-goes g c of at read =
    let t = tally_of c.args.state.now in
    let m = g.S.StreamStore.remembers c.args.store.now in
    let s = g.S.StreamStore.seen c.args.store.now in
    goes_fault t c.args.start of m s c.args.lines.now c.args.lines.now t m s c.in-Fault.stream c.args.time c.in-Fault.kind at
    (λ table run stands. c.in-Fault.ensures.ends c.args.state.now.texts.held table of run at read stands) refl

pub returns-in-Err-clause-goes : goal.returns-in-Err-clause-goes
returns-in-Err-clause-goes g c of at read =
    let t = tally_of c.args.state.now in
    let m = g.S.StreamStore.remembers c.args.store.now in
    let s = g.S.StreamStore.seen c.args.store.now in
    let m1 = g.S.StreamStore.remembers c.step.new.store in
    let s1 = g.S.StreamStore.seen c.step.new.store in
    goes_cut t c.args.start of m s c.args.lines.now c.put_lines.new.to c.args.time at m1 s1 c.values.result.now
    (λ table run stands. subst (λ vs. IsDoneStep t.plan t.show c.args.start table of t.names m1 s1 vs) (sym c.values.ensures) (c.in-Done.ensures.ends c.args.state.now.texts.held table of run at read stands))
    t m1 s1 c.in-Err.ensures.memory

pub returns-clause-goes : goal.returns-clause-goes
returns-clause-goes g c of at read =
    let t = tally_of c.args.state.now in
    let m = g.S.StreamStore.remembers c.args.store.now in
    let s = g.S.StreamStore.seen c.args.store.now in
    let m1 = g.S.StreamStore.remembers c.step.new.store in
    let s1 = g.S.StreamStore.seen c.step.new.store in
    goes_done t c.args.start of m s c.args.lines.now c.put_lines.new.to c.args.time at m1 s1 c.values.result.now
    (λ table run stands. subst (λ vs. IsDoneStep t.plan t.show c.args.start table of t.names m1 s1 vs) (sym c.values.ensures) (c.in-Done.ensures.ends c.args.state.now.texts.held table of run at read stands))
    c.requires.sound.accepted c.in-Ok.count c.in-Ok.ensures.count c.in-Ok.ensures.text
