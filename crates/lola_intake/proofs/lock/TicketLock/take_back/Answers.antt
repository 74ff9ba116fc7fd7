use Rattle.std.proofs.Common.{rules, sym, subst}
use Rattle.atomic_table.specs.Table.{Joins}
use Rattle.lola_intake.specs.Turns.{Orderly, taking, gone}
use Rattle.lola_intake.proofs.Keeps.{joins}
use Rattle.lola_intake.proofs.lock.TicketLock.take_back.Goals as goal

pub join_seat-requires : goal.join_seat-requires
join_seat-requires g c = let opens = g.O.Object.opens in let moves = g.O.Object.moves in let key = c.args.self.now.table.shared.key in let v = c.args.first.now.me.0 in let w = c.args.other.me.0 in
    let t = c.requires.first in let u = c.requires.other in (
      c.requires.own.0,
      c.requires.own.1,
      u.1,
      search rules,
      subst (λ i. Joins (Orderly opens moves key) i v c.args.other.id w (taking v w) gone) (sym t.0) (joins opens moves key v c.args.other.id w t.1.0.0 t.1.0.1.0 t.1.0.1.1 u.0.0 u.0.1.0 u.0.1.1),
    )
