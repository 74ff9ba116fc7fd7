use Rattle.std.proofs.Common.{◌∙◌, false, length, get_or, nat_lt, ap, arith, below_more, get_or-set_other, get_or-set_same}
use Rattle.std.proofs.lemmas.List.{length-set}
use Rattle.lola_instances_one.proofs.bits.BitVector.fill.Goals as goal

pub loop-i-preserved : goal.loop-i-preserved
loop-i-preserved c =
    let bits = c.loop-i.self in
    let i = c.loop-i.i in
    let b = nat_lt i c.args.front in
    let was = c.loop-i.invariant in
    let n = length-set bits i b in
    let m = ap length c.set.ensures in
    record {
      length = omega (arith, was.length);
      bits = below_more _ _
          (λ k h. ap (λ l. get_or l k false) c.set.ensures ∙ get_or-set_other bits i k b false (omega arith) ∙ was.bits k h)
          (ap (λ l. get_or l i false) c.set.ensures ∙ get_or-set_same bits i b false (omega (arith, was.length)));
    }
