-- One number more.
use Rattle.std.proofs.Common.{◌∙◌, ap, length, arith}
use Rattle.lola_engine.proofs.Sweeping.{next_literal}
use Rattle.lola_engine.proofs.sweep.add_literals.Goals as goal

pub loop-number-preserved : goal.loop-number-preserved
loop-number-preserved c =
    next_literal c.loop-number.ids c.push.new.self c.args.plan.now.spec.texts c.loop-number.number (omega (arith, c.loop-number-test.true, ap length c.as_slice-count.ensures)) c.in_ok-push.ensures.ok
    ∙ c.loop-number.invariant
