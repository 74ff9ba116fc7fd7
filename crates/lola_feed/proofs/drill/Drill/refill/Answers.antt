use Rattle.std.proofs.Common.{◌*◌, drop, subst, arith}
use Rattle.lola_feed.specs.Drills.{Drilling, IsRefilled, rows_from}
use Rattle.lola_feed.proofs.Moving.{made}
use Rattle.lola_feed.proofs.drill.Drill.refill.Goals as goal

pub returns : goal.returns
returns c = let i = c.self.inside in let n = c.next_row-self-inside.new.self in
    let new : Drilling = record { waiting = drop 0 c.next_row-self-inside.result.bytes; behind = rows_from n.source n.number n.time n.left; most = 128 * n.left } in
    let P : Drilling → Type 0 = λ old. IsRefilled old new in
    subst P c.self.view_is (made i.line.bytes c.next_row-self-inside.result.bytes i.at i.rows.left n.left _ _ (omega (arith, c.if-self-len.false, c.len.ensures.value)) c.next_row-self-inside.ensures.row c.next_row-self-inside.ensures.left c.next_row-self-inside.ensures.within)
