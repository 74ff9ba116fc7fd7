use Rattle.std.proofs.Common.{◌*◌}
use Rattle.lola_pacing_normal.proofs.MultipleLemmas.{above_zero, whole_times}
use Rattle.lola_pacing_normal.proofs.implies.is_whole_multiple.Goals as goal

pub returns : goal.returns
returns c =
    rw (c.num.ensures.value, c.den.ensures.value, c.den-2.ensures.value, c.num-2.ensures.value)
    (whole_times (c.args.rate.now.num * c.args.other.now.den) (c.args.rate.now.den * c.args.other.now.num)
    (above_zero c.args.rate.now.den c.args.other.now.num c.num.ensures.rate.den c.den.ensures.rate.num))
