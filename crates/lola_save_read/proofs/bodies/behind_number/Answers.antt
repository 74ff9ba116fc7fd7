use Rattle.std.proofs.Common.{◌≡◌, true}
use Rattle.lola_save_read.proofs.WordCuts.{number-none, number-other}
use Rattle.lola_save_read.proofs.bodies.behind_number.Goals as goal

pub returns-in-None : goal.returns-in-None
returns-in-None c = number-none c.args.number c.args.bytes.now c.in-None.ensures

pub returns-else-is_decimal : goal.returns-else-is_decimal
returns-else-is_decimal c =
    number-other c.args.number c.args.bytes.now c.in-Some.first.now c.in-Some.rest.now c.in-Some.ensures
    (λ e. let t : c.is_decimal.result ≡ true = c.is_decimal.ensures.1 e in let f = c.if-is_decimal.false in absurd (cc))
