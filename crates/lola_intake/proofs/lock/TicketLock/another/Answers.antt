use Rattle.std.proofs.Common.{rules, sym, subst}
use Rattle.atomic_table.specs.Table.{Splits}
use Rattle.lola_intake.specs.Turns.{Orderly, one_more, newcomer}
use Rattle.lola_intake.proofs.Keeps.{splits}
use Rattle.lola_intake.proofs.lock.TicketLock.another.Goals as goal

pub split_seat-requires : goal.split_seat-requires
split_seat-requires g c = let opens = g.O.Object.opens in let moves = g.O.Object.moves in let key = c.args.self.now.table.shared.key in let v = c.args.first.now.me.0 in let t = c.requires.first in (
  c.requires.own,
  search rules,
  subst (λ i. Splits (Orderly opens moves key) i v (one_more v) (newcomer v)) (sym t.0) (splits opens moves key v t.1.0.0 t.1.0.1.0 t.1.0.1.1 t.2),
)
