use Rattle.std.proofs.Common.{◌≡◌, refl, subst, sym}
use Rattle.crossbeam_queue.specs.Fifo.{Pushes}
use Rattle.crossbeam_queue.specs.Passes.{view}
use Rattle.lola_queue_intake.specs.Deliveries.{Delivers, source_of, with_item}
use Rattle.lola_queue_intake.proofs.QueueSteps.{pushes}
use Rattle.lola_queue_intake.proofs.intake.queue_item.Goals as goal

pub push-requires-clause-rule : goal.push-requires-clause-rule
push-requires-clause-rule g c = let id = c.args.pass.now.pass.id in let v = view c.args.pass.now.pass in let x = c.args.item in (
  subst (λ n. Pushes Delivers n id v x (λ w. w ≡ with_item v x)) (sym c.requires.queue.0) (pushes id v (source_of x) x c.requires.source refl c.requires.unfinished),
  λ items views d at. tt,
)
