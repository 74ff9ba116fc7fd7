-- One deadline after the other.
use Rattle.std.proofs.Common.{refl, arith}
use Rattle.lola_model.specs.Steps.{deadline_step}
use Rattle.lola_engine.specs.Going.{tally_of}
use Rattle.lola_engine.proofs.Loop.{on_way_done, on_way_ends, on_way_first, on_way_next, on_way_stops, told_from}
use Rattle.lola_engine.proofs.engine.run_deadlines.Goals as goal

pub loop-due-init : goal.loop-due-init
loop-due-init g c = on_way_first c.args.start c.args.limit c.args.from c.args.state.now (g.S.StreamStore.remembers c.args.store.now) (g.S.StreamStore.seen c.args.store.now) c.args.lines.now c.requires.below

-- each deadline is open, so it is not before the last step, and less is left behind it

pub run_step-requires-clause-order : goal.run_step-requires-clause-order
run_step-requires-clause-order g c κs within =
    let s = g.S.StreamStore.seen c.loop-due.store in
    let later = told_from c.args.start c.args.limit c.loop-due.from c.loop-due.state s c.loop-due.invariant.below c.in-Some.due c.in-Some.ensures.value in
    omega (arith, later, c.loop-due.invariant.below.time)

pub loop-due-smaller : goal.loop-due-smaller
loop-due-smaller g c =
    let s = g.S.StreamStore.seen c.loop-due.store in
    let later = told_from c.args.start c.args.limit c.loop-due.from c.loop-due.state s c.loop-due.invariant.below c.in-Some.due c.in-Some.ensures.value in
    omega (arith, later, c.pass-from.ensures.from, c.if-due-limit.false)

pub returns-then-due-limit-clause-goes : goal.returns-then-due-limit-clause-goes
returns-then-due-limit-clause-goes g c =
    let remembers = g.S.StreamStore.remembers in
    let seen = g.S.StreamStore.seen in
    on_way_stops c.args.start c.args.limit c.args.from c.args.state.now (remembers c.args.store.now) (seen c.args.store.now) c.args.lines.now
    c.loop-due.from c.loop-due.state (remembers c.loop-due.store) (seen c.loop-due.store) c.loop-due.lines c.loop-due.invariant c.in-Some.ensures.tells c.requires.in_time
    c.in-Some.due c.in-Some.ensures.value (omega (arith, c.if-due-limit.true))

pub returns-in-Err-clause-goes : goal.returns-in-Err-clause-goes
returns-in-Err-clause-goes g c =
    let remembers = g.S.StreamStore.remembers in
    let seen = g.S.StreamStore.seen in
    on_way_ends c.args.start c.args.limit c.args.from c.args.state.now (remembers c.args.store.now) (seen c.args.store.now) c.args.lines.now
    c.loop-due.from c.loop-due.state (remembers c.loop-due.store) (seen c.loop-due.store) c.loop-due.lines c.loop-due.invariant c.in-Some.ensures.tells c.requires.in_time
    c.in-Some.due c.in-Some.ensures.value (omega (arith, c.if-due-limit.false))
    c.in-Err.end (tally_of c.run_step.new.state) (remembers c.run_step.new.store) (seen c.run_step.new.store) c.run_step.new.lines
    (c.in-Err.ensures.goes (deadline_step c.in-Some.due) refl tt)

pub loop-due-preserved : goal.loop-due-preserved
loop-due-preserved g c =
    let remembers = g.S.StreamStore.remembers in
    let seen = g.S.StreamStore.seen in
    on_way_next c.args.start c.args.limit c.args.from c.args.state.now (remembers c.args.store.now) (seen c.args.store.now) c.args.lines.now
    c.loop-due.from c.loop-due.state (remembers c.loop-due.store) (seen c.loop-due.store) c.loop-due.lines c.loop-due.invariant c.in-Some.ensures.tells c.requires.in_time
    c.in-Some.due c.in-Some.ensures.value (omega (arith, c.if-due-limit.false))
    c.run_step.new.state (remembers c.run_step.new.store) (seen c.run_step.new.store) c.run_step.new.lines c.pass-from.new.state c.pass-from.result
    c.in-Ok.ensures.sound c.in-Ok.ensures.kept c.in-Ok.ensures.clock c.in-Ok.ensures.seen
    (c.in-Ok.ensures.goes (deadline_step c.in-Some.due) refl tt) c.pass-from.ensures.state c.pass-from.ensures.from

pub returns-clause-goes : goal.returns-clause-goes
returns-clause-goes g c =
    let remembers = g.S.StreamStore.remembers in
    let seen = g.S.StreamStore.seen in
    on_way_done c.args.start c.args.limit c.args.from c.args.state.now (remembers c.args.store.now) (seen c.args.store.now) c.args.lines.now
    c.loop-due.from c.loop-due.state (remembers c.loop-due.store) (seen c.loop-due.store) c.loop-due.lines c.loop-due.invariant c.in_default.ensures.tells c.requires.in_time
    c.in_default.ensures.value
