use Rattle.std.proofs.Common.{◌*◌, ◌-◌, List, ℕ, drop, length, take, sym, ◌∙◌, subst, arith}
use Rattle.lola_feed.specs.Drills.{IsRefilled, rows_from}
use Rattle.lola_feed.proofs.Moving.{moves, shown_from}
use Rattle.lola_feed.proofs.drill.DrillSource.read.Goals as goal

pub returns-clause-moved : goal.returns-clause-moved
returns-clause-moved c = let i = c.self.inside in let bytes = c.as_bytes.result.now in let shown : List ℕ = take (length bytes - i.at) (drop i.at bytes) in
    let all = shown_from bytes i.line.bytes i.at (c.as_bytes.ensures.value ∙ c.as_str.ensures.value) in
    moves c.args.self.now i.line.bytes shown (take c.moved-count.result c.moved-count.new.buf) i.at c.moved-count.result (128 * i.rows.left) (rows_from i.rows.source i.rows.number i.rows.time i.rows.left)
    (subst (λ d. IsRefilled c.args.self.now d) (sym c.self.view_is) c.refill.ensures) c.moved-count.ensures.moved all (omega (arith, c.moved-count.ensures.count))
