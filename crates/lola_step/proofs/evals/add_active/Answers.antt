use Rattle.std.proofs.Common.{◌∙◌, ◌++◌, ap, arith, length, sym}
use Rattle.lola_step.specs.Notes.{tasks_at}
use Rattle.lola_step.proofs.Places.{paced_single}
use Rattle.lola_step.proofs.evals.add_active.Goals as goal

pub push_reserved-requires : goal.push_reserved-requires
push_reserved-requires g c =
    let one = c.requires.single c.if-spawns.false in
    omega (arith, c.requires.tasks_room, ap length (paced_single c.args.pacing.now c.args.moment.now (g.S.StreamStore.seen c.args.store.now) c.args.stream one.0 one.1))

pub returns-else-spawns-clause-tasks : goal.returns-else-spawns-clause-tasks
returns-else-spawns-clause-tasks g c =
    let one = c.requires.single c.if-spawns.false in
    c.push_reserved.ensures.items
    ∙ ap (λ is. c.args.tasks.now.items ++ tasks_at c.args.stream is)
    (sym (paced_single c.args.pacing.now c.args.moment.now (g.S.StreamStore.seen c.args.store.now) c.args.stream one.0 one.1))
