use Rattle.std.proofs.Common.{◌≡◌, true}
use Rattle.lola_save_read.proofs.WordCuts.{alone-more, alone-none}
use Rattle.lola_save_read.proofs.bodies.last_number.Goals as goal

pub returns-in-None : goal.returns-in-None
returns-in-None c = λ n l. alone-none n c.args.bytes.now c.in-None.ensures

pub returns-else-is_nothing : goal.returns-else-is_nothing
returns-else-is_nothing c = λ n l.
    alone-more n c.args.bytes.now c.in-Some.last.now c.in-Some.rest.now c.in-Some.ensures
    (λ e. let t : c.is_nothing.result ≡ true = c.is_nothing.ensures.1 e in let f = c.if-is_nothing.false in absurd (cc))
