-- The deadlines at the last stamp.
use Rattle.std.proofs.Common.{Err, Ok, refl, sym, arith}
use Rattle.lola_model.specs.Steps.{deadline_step}
use Rattle.lola_engine.proofs.Joining.{finishes_at_once, finishes_before, finishes_done, finishes_step, told_last}
use Rattle.lola_engine.proofs.engine.run_last.Goals as goal

pub returns-then-state-eq0-clause-finishes : goal.returns-then-state-eq0-clause-finishes
returns-then-state-eq0-clause-finishes g c =
    finishes_at_once c.args.state.now c.requires.sound.accepted (g.S.StreamStore.seen c.args.store.now) (g.S.StreamStore.remembers c.args.store.now) c.args.lines.now c.if-state-eq0.true

pub returns-in_default-next_due-clause-finishes : goal.returns-in_default-next_due-clause-finishes
returns-in_default-next_due-clause-finishes g c =
    finishes_done c.args.state.now (g.S.StreamStore.seen c.args.store.now) (g.S.StreamStore.remembers c.args.store.now) c.requires (λ q. omega (arith, q, c.if-state-eq0.false))
    c.in-Some.start (sym c.in-Some.ensures) c.in_default-next_due.ensures.tells c.args.lines.now c.in_default-next_due.ensures.value

pub returns-then-due-state-clause-finishes : goal.returns-then-due-state-clause-finishes
returns-then-due-state-clause-finishes g c =
    finishes_before c.args.state.now (g.S.StreamStore.seen c.args.store.now) (g.S.StreamStore.remembers c.args.store.now) c.requires (λ q. omega (arith, q, c.if-state-eq0.false))
    c.in-Some.start (sym c.in-Some.ensures) c.in-Some-next_due.ensures.tells c.args.lines.now c.in-Some-next_due.due c.in-Some-next_due.ensures.value (omega (arith, c.if-due-state.true))

pub run_step-requires-clause-order : goal.run_step-requires-clause-order
run_step-requires-clause-order g c κs within =
    let high = told_last c.args.state.now (g.S.StreamStore.seen c.args.store.now) (g.S.StreamStore.remembers c.args.store.now) c.requires (λ q. omega (arith, q, c.if-state-eq0.false))
    c.in-Some.start (sym c.in-Some.ensures) c.in-Some-next_due.ensures.tells c.in-Some-next_due.due c.in-Some-next_due.ensures.value (omega (arith, c.if-due-state.false)) in
    omega (arith, high, c.requires.time)

pub returns-in-Ok-clause-finishes : goal.returns-in-Ok-clause-finishes
returns-in-Ok-clause-finishes g c =
    let seen = g.S.StreamStore.seen in
    let remembers = g.S.StreamStore.remembers in
    finishes_step c.args.state.now (seen c.args.store.now) (remembers c.args.store.now) c.requires (λ q. omega (arith, q, c.if-state-eq0.false))
    c.in-Some.start (sym c.in-Some.ensures) c.in-Some-next_due.ensures.tells c.in-Some-next_due.due c.in-Some-next_due.ensures.value (omega (arith, c.if-due-state.false))
    (Ok tt) c.run_step.new.state (seen c.run_step.new.store) (remembers c.run_step.new.store) c.args.lines.now c.run_step.new.lines c.in-Ok.ensures.kept
    (c.in-Ok.ensures.goes (deadline_step c.in-Some-next_due.due) refl tt)

pub returns-in-Err-clause-finishes : goal.returns-in-Err-clause-finishes
returns-in-Err-clause-finishes g c =
    let seen = g.S.StreamStore.seen in
    let remembers = g.S.StreamStore.remembers in
    finishes_step c.args.state.now (seen c.args.store.now) (remembers c.args.store.now) c.requires (λ q. omega (arith, q, c.if-state-eq0.false))
    c.in-Some.start (sym c.in-Some.ensures) c.in-Some-next_due.ensures.tells c.in-Some-next_due.due c.in-Some-next_due.ensures.value (omega (arith, c.if-due-state.false))
    (Err c.in-Err.end) c.run_step.new.state (seen c.run_step.new.store) (remembers c.run_step.new.store) c.args.lines.now c.run_step.new.lines c.in-Err.ensures.kept
    (c.in-Err.ensures.goes (deadline_step c.in-Some-next_due.due) refl tt)
