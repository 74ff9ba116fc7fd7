use Rattle.std.proofs.Common.{◌≡◌, ◌∙◌, None, Some, ap, sym}
use Rattle.std.proofs.lemmas.Int.{to_z-of_z}
use mir.Syntax.{w128}
use Rattle.circular_buffer.specs.Buffer.{last_item}
use Rattle.lola_panes.specs.Rings.{new_pane, with_value}
use Rattle.lola_panes.proofs.Noting.{note_first, note_same, note_other}
use Rattle.lola_panes.proofs.ring.note.Goals as goal

pub returns-in-None : goal.returns-in-None
returns-in-None c =
    let e : last_item c.args.ring.now.items ≡ None = cc in
    note_first c.args.aggregation c.args.number c.args.added c.args.total c.args.weight c.args.ring.now.items c.args.ring.now.capacity c.pane_with.result c.push_back.new.self
    e (c.pane_with.ensures ∙ (λ i. new_pane c.args.number c.args.added (to_z-of_z w128 c.args.total c.ranges.total i) (to_z-of_z w128 c.args.weight c.ranges.weight i))) c.push_back.ensures.items

pub returns-then-is_of : goal.returns-then-is_of
returns-then-is_of c =
    let e : last_item c.args.ring.now.items ≡ Some c.in-Some.last = cc in
    note_same c.args.aggregation c.args.number c.args.added c.args.total c.args.weight c.args.ring.now.items c.args.ring.now.capacity c.in-Some.last c.pane_and.result c.pop_back.new.self c.push_back-then-is_of.new.self
    e (sym c.is_of.ensures ∙ c.if-is_of.true) (c.pane_and.ensures ∙ ap (λ z. with_value c.args.aggregation z c.in-Some.last) (to_z-of_z w128 c.args.weight c.ranges.weight)) c.pop_back.ensures.items c.push_back-then-is_of.ensures.items

pub returns-else-is_of : goal.returns-else-is_of
returns-else-is_of c =
    let e : last_item c.args.ring.now.items ≡ Some c.in-Some.last = cc in
    note_other c.args.aggregation c.args.number c.args.added c.args.total c.args.weight c.args.ring.now.items c.args.ring.now.capacity c.in-Some.last c.pane_with-else-is_of.result c.push_back-else-is_of.new.self
    e (sym c.is_of.ensures ∙ c.if-is_of.false) (c.pane_with-else-is_of.ensures ∙ (λ i. new_pane c.args.number c.args.added (to_z-of_z w128 c.args.total c.ranges.total i) (to_z-of_z w128 c.args.weight c.ranges.weight i))) c.push_back-else-is_of.ensures.items
