-- The row after the deadlines before it.
use Rattle.std.proofs.Common.{sym, subst}
use Rattle.lola_model.specs.Steps.{row_step}
use Rattle.lola_step.specs.Moments.{ReadAs}
use Rattle.lola_engine.specs.Going.{tally_of}
use Rattle.lola_engine.proofs.Loop.{due_ends, row_ends, row_goes}
use Rattle.lola_engine.proofs.engine.run_taken.Goals as goal

pub returns-in-Err-clause-goes : goal.returns-in-Err-clause-goes
returns-in-Err-clause-goes g c rows row at read =
    let remembers = g.S.StreamStore.remembers in
    let seen = g.S.StreamStore.seen in
    due_ends c.args.start c.args.from rows row c.args.stamp at (tally_of c.args.state.now) (tally_of c.run_deadlines.new.state)
    (remembers c.args.store.now) (seen c.args.store.now) (remembers c.run_deadlines.new.store) (seen c.run_deadlines.new.store)
    c.args.lines.now c.run_deadlines.new.lines c.run_deadlines.new.lines c.run_deadlines.ensures.kept.plan c.run_deadlines.ensures.kept.show c.in-Err.end c.in-Err.ensures.goes

pub returns-in-Ok-run_step-clause-goes : goal.returns-in-Ok-run_step-clause-goes
returns-in-Ok-run_step-clause-goes g c rows row at read =
    let remembers = g.S.StreamStore.remembers in
    let seen = g.S.StreamStore.seen in
    let read' = subst (λ z. ReadAs z.held c.args.inputs.now row.fields) (sym c.in-Ok.ensures.kept.texts) read in
    row_goes c.args.start c.args.from rows row c.args.stamp at (tally_of c.args.state.now) (tally_of c.run_deadlines.new.state)
    (remembers c.args.store.now) (seen c.args.store.now) (remembers c.run_deadlines.new.store) (seen c.run_deadlines.new.store)
    c.args.lines.now c.run_deadlines.new.lines c.run_step.new.lines c.in-Ok.ensures.kept.plan c.in-Ok.ensures.kept.show c.in-Ok.ensures.goes
    (tally_of c.run_step.new.state) (remembers c.run_step.new.store) (seen c.run_step.new.store)
    (c.in-Ok-run_step.ensures.goes (row_step row) at read')

pub returns-in-Err-run_step-clause-goes : goal.returns-in-Err-run_step-clause-goes
returns-in-Err-run_step-clause-goes g c rows row at read =
    let remembers = g.S.StreamStore.remembers in
    let seen = g.S.StreamStore.seen in
    let read' = subst (λ z. ReadAs z.held c.args.inputs.now row.fields) (sym c.in-Ok.ensures.kept.texts) read in
    row_ends c.args.start c.args.from rows row c.args.stamp at (tally_of c.args.state.now) (tally_of c.run_deadlines.new.state)
    (remembers c.args.store.now) (seen c.args.store.now) (remembers c.run_deadlines.new.store) (seen c.run_deadlines.new.store)
    c.args.lines.now c.run_deadlines.new.lines c.run_step.new.lines c.in-Ok.ensures.kept.plan c.in-Ok.ensures.kept.show c.in-Ok.ensures.goes
    c.in-Err-run_step.end (tally_of c.run_step.new.state) (remembers c.run_step.new.store) (seen c.run_step.new.store)
    (c.in-Err-run_step.ensures.goes (row_step row) at read')
