use Rattle.std.proofs.Common.{◌≡◌, true}
use Rattle.lola_save_read.proofs.HeadLines.{spec-ends}
use Rattle.lola_save_read.proofs.head.behind_spec.Goals as goal

pub returns-then-is_length : goal.returns-then-is_length
returns-then-is_length c =
    spec-ends c.args.spec.now c.args.digits.now c.args.left.now c.in-Some.last.now c.behind-then-is_length.result (c.is_length.ensures.0 c.if-is_length.true) c.in-Some.ensures c.behind-then-is_length.ensures

pub returns-else-is_length : goal.returns-else-is_length
returns-else-is_length c = λ rest h.
    let t : c.is_length.result ≡ true = c.is_length.ensures.1 h.same in
    let f = c.if-is_length.false in
    absurd (cc)
