use Rattle.std.proofs.Common.{rules, ◌∙◌, sym, ap, subst, slice_get}
use Rattle.std.proofs.lemmas.Int.{to_z-of_z}
use mir.Syntax.{w128}
use mir.Val.{SFits}
use Rattle.lola_panes.specs.Rings.{left_count, extreme_of}
use Rattle.lola_panes.specs.Answers.{total_answer, best_answer, is_extreme}
use Rattle.lola_panes.specs.Standing.{Partials, AreInOrder}
use Rattle.lola_panes.specs.Weights.{number_at}
use Rattle.lola_panes.proofs.Offsets.{number_le}
use Rattle.lola_panes.proofs.Reading.{read-best, read-total}
use Rattle.lola_panes.proofs.panes.Panes.read_at.Goals as goal

pub returns-then-is_extreme-clause-value : goal.returns-then-is_extreme-clause-value
returns-then-is_extreme-clause-value c = λ names all h.
    let p = c.args.self.now in
    let v = c.self.view_is in
    let o : AreInOrder p c.self.inside.ring.capacity c.self.inside.best.capacity = subst (λ (w : Partials). AreInOrder w c.self.inside.ring.capacity c.self.inside.best.capacity) v c.self.invariant in
    let x = ap (λ (w : Partials). is_extreme w.aggregation) (sym v) ∙ (sym c.is_extreme.ensures ∙ c.if-is_extreme.true) in
    c.best_answer.ensures.value names
    ∙ (ap (λ (w : Partials). best_answer w.kind c.extreme_at.result) v
    ∙ read-best p.aggregation p.kind p.pane p.count (number_at p.pane p.newest) c.args.k all c.left-first.result p.best c.extreme_at.result o.pane (number_le p.pane c.args.k p.newest o.pane c.requires)
    (c.left-first.ensures ∙ ap (λ (w : Partials). left_count w.count c.args.k w.best) v)
    (c.extreme_at.ensures ∙ ap (λ (w : Partials). extreme_of (slice_get w.best c.left-first.result)) v)
    x h.within (h.bests x))

pub returns-else-is_extreme-clause-value : goal.returns-else-is_extreme-clause-value
returns-else-is_extreme-clause-value c = λ names all h.
    let p = c.args.self.now in
    let v = c.self.view_is in
    let o : AreInOrder p c.self.inside.ring.capacity c.self.inside.best.capacity = subst (λ (w : Partials). AreInOrder w c.self.inside.ring.capacity c.self.inside.best.capacity) v c.self.invariant in
    let f : SFits w128 c.since-since.result.total = search rules in
    c.total_answer.ensures.value names
    ∙ (ap (λ z. total_answer c.self.inside.aggregation c.self.inside.kind c.since-since.result.count z) (to_z-of_z w128 c.since-since.result.total f)
    ∙ (ap (λ (w : Partials). total_answer w.aggregation w.kind c.since-since.result.count c.since-since.result.total) v
    ∙ read-total p.aggregation p.kind p.pane p.count (number_at p.pane p.newest) c.args.k all c.left-first-else-is_extreme.result p.whole p.added p.panes c.since-since.result.count c.since-since.result.total o.pane
    (number_le p.pane c.args.k p.newest o.pane c.requires)
    (c.left-first-else-is_extreme.ensures ∙ ap (λ (w : Partials). left_count w.count c.args.k w.panes) v) c.since-since.ensures.count c.since-since.ensures.total
    (ap (λ (w : Partials). is_extreme w.aggregation) (sym v) ∙ (sym c.is_extreme.ensures ∙ c.if-is_extreme.false)) h.within h.holds))
