use Rattle.std.proofs.Common.{arith, slice_index_or, subst, ◌∙◌, ap}
use Rattle.std.proofs.lemmas.Option.{slice_get-get_or}
use Rattle.lola_step.specs.Ends.{FindsFault}
use Rattle.lola_step.specs.Found.{fault_of}
use Rattle.lola_step.proofs.Faulty.{finds_fault, first_here, first_none}
use Rattle.lola_step.proofs.ends.first_fault.Goals as goal

pub outcomes_of-requires : goal.outcomes_of-requires
outcomes_of-requires c =
    c.requires.within c.loop-n.n (slice_index_or c.args.spans.now c.loop-n.n (record { from = 0; count = 0 })) (slice_get-get_or c.args.spans.now c.loop-n.n _ (omega arith))

pub returns-in-Some : goal.returns-in-Some
returns-in-Some c tasks =
    subst (FindsFault c.args.plan.now c.args.spawn_results.now c.args.spans.now tasks c.args.results.now)
    (first_here c.args.results.now c.args.spawn_results.now c.args.spans.now c.loop-n.n c.loop-n.invariant _ (record { from = 0; count = 0 }) c.in-Some.kind c.loop-n-test.true (omega arith)
    (c.in-Some.ensures ∙ ap (fault_of _) c.outcomes_of.ensures.value))
    (finds_fault c.args.plan.now c.requires.accepted c.args.spawn_results.now c.args.spans.now tasks c.args.results.now c.requires.spawn_results c.requires.spans)

pub returns : goal.returns
returns c tasks =
    subst (FindsFault c.args.plan.now c.args.spawn_results.now c.args.spans.now tasks c.args.results.now)
    (first_none c.args.results.now c.args.spawn_results.now c.args.spans.now c.loop-n.n c.loop-n.invariant c.loop-n-test.false)
    (finds_fault c.args.plan.now c.requires.accepted c.args.spawn_results.now c.args.spans.now tasks c.args.results.now c.requires.spawn_results c.requires.spans)
