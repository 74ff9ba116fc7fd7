use Rattle.std.proofs.Common.{ap, ◌∙◌, ◌<◌, length, arith}
use Rattle.lola_types.proofs.RoundLemmas.{set_least}
use Rattle.lola_types.specs.LeftOut.{with_least}
use Rattle.lola_types.proofs.left_out.give_least.Goals as goal

pub returns-then-is_none : goal.returns-then-is_none
returns-then-is_none c =
    set_least c.loop-number.kinds.items c.loop-number.number c.index.result.now (omega (arith, c.loop-number-test.true, c.loop-number.invariant.same, c.len-number-end.ensures)) c.index.ensures c.if-is_none.ensures c.loop-number.invariant.passed
    ∙ ap with_least c.loop-number.invariant.same
