use Rattle.std.proofs.Common.{◌≡◌, ◌∙◌, ◌*◌, ◌/◌, ◌&&◌, ◌≤◌, nat_lt, true, false, sym, ap, subst, if◌then◌else◌}
use Rattle.lola_value.specs.Answer.{Answer, Missing}
use Rattle.lola_model.specs.Windows.{aggregated, values_within}
use Rattle.lola_panes.specs.Standing.{Partials, AreInOrder}
use Rattle.lola_panes.proofs.Offsets.{whole_again, early_same}
use Rattle.lola_panes.proofs.panes.Panes.read.Goals as goal

pub read_at-requires : goal.read_at-requires
read_at-requires c =
    let p = c.args.self.now in
    let v = c.self.view_is in
    let i : AreInOrder p c.self.inside.ring.capacity c.self.inside.best.capacity = subst (λ (w : Partials). AreInOrder w c.self.inside.ring.capacity c.self.inside.best.capacity) v c.self.invariant in
    let e = ap (λ (w : Partials). c.args.offset / w.pane * p.pane) v ∙ whole_again p.pane c.args.offset c.requires.whole.0 i.pane c.requires.whole.1 in
    subst (λ o. p.newest ≤ o) (sym e) c.requires.newest

pub returns-else-is_early-clause-value : goal.returns-else-is_early-clause-value
returns-else-is_early-clause-value c = λ names all h.
    let p = c.args.self.now in
    let v = c.self.view_is in
    let i : AreInOrder p c.self.inside.ring.capacity c.self.inside.best.capacity = subst (λ (w : Partials). AreInOrder w c.self.inside.ring.capacity c.self.inside.best.capacity) v c.self.invariant in
    let e = ap (λ (w : Partials). c.args.offset / w.pane * p.pane) v ∙ whole_again p.pane c.args.offset c.requires.whole.0 i.pane c.requires.whole.1 in
    let t : (p.exact && nat_lt c.args.offset (p.count * p.pane)) ≡ false =
    ap (λ b. p.exact && b) (sym (early_same p.pane p.count c.args.offset c.requires.whole.0 i.pane c.requires.whole.1))
    ∙ (ap (λ (w : Partials). w.exact && nat_lt (c.args.offset / w.pane) w.count) (sym v) ∙ (sym c.is_early.ensures ∙ c.if-is_early.false)) in
    let a : Answer = aggregated p.aggregation p.kind (values_within (p.count * p.pane) c.args.offset all) in
    c.read_at.ensures.value names all h ∙ (ap (λ o. aggregated p.aggregation p.kind (values_within (p.count * p.pane) o all)) e ∙ sym (ap (λ b. if b then Missing else a) t))

pub returns-then-is_early-clause-value : goal.returns-then-is_early-clause-value
returns-then-is_early-clause-value c = λ names all h.
    let p = c.args.self.now in
    let v = c.self.view_is in
    let i : AreInOrder p c.self.inside.ring.capacity c.self.inside.best.capacity = subst (λ (w : Partials). AreInOrder w c.self.inside.ring.capacity c.self.inside.best.capacity) v c.self.invariant in
    let t : (p.exact && nat_lt c.args.offset (p.count * p.pane)) ≡ true =
    ap (λ b. p.exact && b) (sym (early_same p.pane p.count c.args.offset c.requires.whole.0 i.pane c.requires.whole.1))
    ∙ (ap (λ (w : Partials). w.exact && nat_lt (c.args.offset / w.pane) w.count) (sym v) ∙ (sym c.is_early.ensures ∙ c.if-is_early.true)) in
    let a : Answer = aggregated p.aggregation p.kind (values_within (p.count * p.pane) c.args.offset all) in
    sym (ap (λ b. if b then Missing else a) t)
