use Rattle.std.proofs.Common.{sym, subst, ◌∙◌, ◌≡◌}
use mathlib.Core.Option.{some, some-injective}
use lib.ListN.{get_elem?}
use Rattle.lola_intake.specs.Turns.{Ended}
use Rattle.lola_intake.proofs.Keeps.{ends}
use Rattle.lola_intake.proofs.lock.TicketLock.end.Goals as goal

pub returns : goal.returns
returns g c = let opens = g.O.Object.opens in let moves = g.O.Object.moves in let key = c.args.self.table.shared.key in let v = c.args.first.me.0 in let t = c.requires.first in
    let last = c.close_with-closed.ensures.values.2 in let at = subst (λ i. get_elem? last.0.views i ≡ some v) t.0 last.1.1 in
    let e = ends opens moves key last.0 last.1.0 v at t.1.0.0 t.1.0.1.0 t.1.0.1.1 c.requires.back in
    subst (λ y. Ended opens moves y v) (some-injective e.0 c.take-object.result (sym (last.4 0 e.0 e.1) ∙ c.take-object.ensures.value)) e.2
