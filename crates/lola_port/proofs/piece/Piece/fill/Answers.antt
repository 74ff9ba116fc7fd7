use Rattle.std.proofs.Common.{◌≡◌, ◌-◌, ◌^◌, ◌++◌, length, take, drop, rules, ap, ◌∙◌, arith}
use Rattle.std.proofs.lemmas.List.{with_items_is, places}
use Rattle.lola_port.proofs.BytePieces.{filled, unfilled, at_error}
use Rattle.lola_port.proofs.piece.Piece.fill.Goals as goal

pub returns-in_err-count-clause-failed : goal.returns-in_err-count-clause-failed
returns-in_err-count-clause-failed g c =
    let (first, most, long) = c.self.invariant in
    let end = c.self.inside.end in
    let shown = c.deref_mut.result.now in
    let tail = c.read_some.new.buf ++ drop (length shown - end) (drop end shown) in
    let same : shown ≡ c.self.inside.room.items = search rules in
    let is = with_items_is c.self.inside.room (take end shown ++ tail) (search (rules, places)) in
    at_error _ _ (ap (λ l. record { bytes = l; room = 2 ^ 17 - end }) (unfilled _ shown tail _ c.self.inside.at end first (omega (arith, most, long)) same is) ∙ c.self.view_is)

pub returns-clause-filled : goal.returns-clause-filled
returns-clause-filled g c =
    let (first, most, long) = c.self.invariant in
    let end = c.self.inside.end in
    let shown = c.deref_mut.result.now in
    let tail = drop (length shown - end) (drop end shown) in
    let same : shown ≡ c.self.inside.room.items = search rules in
    let is = with_items_is c.self.inside.room (take end shown ++ (c.read_some.new.buf ++ tail)) (search (rules, places)) in
    let read = c.in_ok-count.ensures in
    let much : length c.read_some.new.buf ≡ length shown - end = search rules in
    let room : length c.read_some.new.buf ≡ 2 ^ 17 - end = omega (arith, much, ap length same, long) in
    filled _ c.self.inside.room.items shown c.read_some.new.buf tail _ c.self.inside.at end c.in_ok-count.count _ _ first (omega (arith, most, long)) same is
    read.within.0 read.bytes.0 (λ none some. read.bytes.1 none (omega (arith, room, some))) (omega (arith, room, most, read.within.0)) c.self.view_is
