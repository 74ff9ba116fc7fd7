use Rattle.std.proofs.Common.{Err, subst}
use Rattle.lola_replay_table.specs.Scenes.{step_at}
use Rattle.lola_replay_table.specs.Tries.{Gives}
use Rattle.lola_replay_table.specs.declared.question.Unanswered.{Unanswered}
use Rattle.lola_replay_step.specs.Closings.{close_at}
use Rattle.lola_replay_step.proofs.ClosingLemmas.{close-open}
use Rattle.lola_replay_step.proofs.closes.condition.Goals as goal

pub unreachable-requires : goal.unreachable-requires
unreachable-requires c =
    let s = c.args.scene.now in
    let given = subst (λ (stop : Unanswered). Gives (close_at s c.args.stream.now c.args.life.now) (Err stop)) c.in-Err-Asks.field-0-is c.in-Err-Asks.ensures in
    c.requires c.in-Err-Asks.field-0-0 (close-open s.plan.now s.moment.start (step_at s) s.known.now c.args.stream.now.close c.args.life.now.params c.in-Err-Asks.field-0-0 given)
