use Rattle.std.proofs.Common.{arith}
use Rattle.lola_clock.proofs.Moments.{later_part, later_whole}
use Rattle.lola_clock.proofs.timers.one_later.Goals as goal

pub returns-then-rest-num-clause-later : goal.returns-then-rest-num-clause-later
returns-then-rest-num-clause-later c = λ number m.
    let k = c.args.timer.now in
    later_whole c.args.start number k.due k.rest k.rate k.whole k.part m c.requires.period.whole c.requires.period.part (omega (arith, c.num-num.ensures.value, c.if-rest-num.true))

pub returns-else-rest-num-clause-later : goal.returns-else-rest-num-clause-later
returns-else-rest-num-clause-later c = λ number m.
    let k = c.args.timer.now in
    rw c.num-num.ensures.value (later_part c.args.start number k.due k.rest k.rate k.whole k.part c.num-num.ensures.rate.num m c.requires.period.whole c.requires.period.part (omega (arith, c.num-num.ensures.value, c.if-rest-num.false)))
