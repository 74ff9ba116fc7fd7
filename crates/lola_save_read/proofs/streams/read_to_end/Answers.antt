use Rattle.std.proofs.Common.{◌≡◌, true}
use Rattle.lola_save_read.proofs.StateTurns.{ended, more-behind, no-end}
use Rattle.lola_save_read.proofs.streams.read_to_end.Goals as goal

pub returns-in-None : goal.returns-in-None
returns-in-None c =
    no-end c.args.times c.args.forms.now c.args.bytes.now c.in-Ok.streams c.in-Ok.last.now (rw c.in-Ok.is at c.in_ok-many.ensures) c.in-None.ensures

pub returns-then-is_nothing : goal.returns-then-is_nothing
returns-then-is_nothing c =
    ended c.args.times c.args.forms.now c.args.bytes.now c.in-Ok.streams c.in-Ok.last.now (rw c.in-Ok.is at c.in_ok-many.ensures) c.in-Some.rest.now c.in-Some.ensures (c.is_nothing.ensures.0 c.if-is_nothing.true)

pub returns-else-is_nothing : goal.returns-else-is_nothing
returns-else-is_nothing c =
    more-behind c.args.times c.args.forms.now c.args.bytes.now c.in-Ok.streams c.in-Ok.last.now (rw c.in-Ok.is at c.in_ok-many.ensures) c.in-Some.rest.now c.in-Some.ensures (λ e. let t : c.is_nothing.result ≡ true = c.is_nothing.ensures.1 e in let f = c.if-is_nothing.false in absurd (cc))
