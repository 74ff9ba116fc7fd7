use Rattle.std.proofs.Common.{arith}
use Rattle.lola_panes.proofs.Rising.{left_le}
use Rattle.lola_panes.proofs.ring.left.Goals as goal

pub loop-low-init : goal.loop-low-init
loop-low-init c =
    let l = c.len-high.ensures.len in
    (omega arith, omega (arith, left_le c.args.count c.args.k c.args.ring.now.items), omega arith)
