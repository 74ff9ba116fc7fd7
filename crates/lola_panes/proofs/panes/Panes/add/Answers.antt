use Rattle.std.proofs.Common.{rules, ◌≡◌, ◌∙◌, ◌+ℤ◌, ℤ, sym, subst, FitsSigned, ◌++◌, ◌∷◌, [], ◌+◌, ◌≤◌, ◌<◌, ◌^◌, IsTrue}
use Rattle.std.proofs.lemmas.Int.{to_z-of_z}
use Rattle.circular_buffer.specs.Buffer.{buffer, keep_last}
use mir.Syntax.{w128}
use mir.Val.{SFits, to_z, of_z}
use Rattle.lola_panes.specs.Rings.{noted, bettered}
use Rattle.lola_panes.specs.Holding.{HoldsPanes}
use Rattle.lola_panes.specs.Standing.{Partials, StandFor}
use Rattle.lola_panes.specs.Weights.{number_at}
use Rattle.lola_value.specs.Naming.{read}
use Rattle.lola_value.specs.Kinds.{is_of_kind}
use Rattle.lola_panes.proofs.Adding.{add-panes, add-best, newest_more, number_read}
use Rattle.lola_panes.proofs.Offsets.{number_monotone}
use Rattle.lola_panes.proofs.Ranges.{AllWithin-more, value_in}
use Rattle.lola_panes.proofs.Order.{order-added}
use Rattle.lola_panes.proofs.panes.Panes.add.Goals as goal

pub returns-clause-all : goal.returns-clause-all
returns-clause-all c = λ names all h0.
    let p = c.self.inside in
    let v = sym c.self.view_is in
    let h = subst (λ (q : Partials). StandFor q all) v h0 in
    let offset : p.newest ≤ c.args.offset = subst (λ (q : Partials). q.newest ≤ c.args.offset) v c.requires.offset in
    let added : p.added < 2 ^ 63 = subst (λ (q : Partials). q.added < 2 ^ 63) v c.requires.added in
    let kind : IsTrue (is_of_kind p.kind c.args.value) = subst (λ (q : Partials). IsTrue (is_of_kind q.kind c.args.value)) v c.requires.kind in
    let i = c.self.invariant in
    let w = c.weight-weight.result in
    let n = c.pane_number-number.result in
    let last = number_at p.pane p.newest in
    let later : last ≤ number_at p.pane c.args.offset = number_monotone p.pane p.newest c.args.offset i.pane offset in
    let ft : SFits w128 p.total = search rules in
    let fw : SFits w128 w = record { sfits = c.weight-weight.type_inv } in
    let fz : SFits w128 c.plus-self-inside.result = record { sfits = c.plus-self-inside.type_inv } in
    let et = to_z-of_z w128 p.total ft in
    let ew = to_z-of_z w128 w fw in
    let note = c.note.ensures ∙ (λ i. buffer (keep_last p.ring.capacity (noted p.aggregation n p.added (et i) (ew i) p.ring.items)) p.ring.capacity) in
    let best = c.keep_best.ensures ∙ (λ i. buffer (bettered p.best.capacity p.aggregation n (ew i) p.best.items) p.best.capacity) in
    let plus : FitsSigned w128 (p.total +ℤ w) → c.plus-self-inside.result ≡ p.total +ℤ w = subst (λ (z : ℤ). FitsSigned w128 z → c.plus-self-inside.result ≡ z) (λ i. et i +ℤ ew i) c.plus-self-inside.ensures in
    record {
      holds =
          subst (λ (z : ℤ). HoldsPanes p.aggregation p.pane p.count (number_at p.pane c.args.offset) z (p.added + 1) c.note.new.ring.items (all ++ (c.args.offset, read names c.args.value) ∷ [])) (sym (to_z-of_z w128 c.plus-self-inside.result fz))
          (add-panes p.aggregation p.kind p.pane p.count last p.total p.added p.ring.items all c.args.offset n names c.args.value w c.plus-self-inside.result p.ring.capacity c.note.new.ring
          i.count i.capacity_is later added kind c.pane_number-number.ensures c.weight-weight.ensures note plus h.holds);
      bests = λ x.
          add-best p.aggregation p.pane p.count last p.best.items all c.args.offset n names c.args.value w p.best.capacity c.keep_best.new.best
          i.pane i.count (i.best_capacity_is x) later x i.best_rising i.best_up_to c.pane_number-number.ensures c.weight-weight.ensures best (h.bests x);
      within = AllWithin-more p.kind all (c.args.offset, read names c.args.value) h.within (value_in p.kind c.args.value (read names c.args.value) kind (number_read names c.args.value));
      newest = newest_more p.pane all (c.args.offset, read names c.args.value);
    }

pub invariant_of-self : goal.invariant_of-self
invariant_of-self c =
    let p = c.self.inside in
    let offset : p.newest ≤ c.args.offset = subst (λ (q : Partials). q.newest ≤ c.args.offset) (sym c.self.view_is) c.requires.offset in
    let added : p.added < 2 ^ 63 = subst (λ (q : Partials). q.added < 2 ^ 63) (sym c.self.view_is) c.requires.added in
    order-added p.aggregation p.kind p.pane p.count p.exact p.told p.newest p.added p.total (to_z w128 (of_z w128 p.total)) (to_z w128 (of_z w128 c.weight-weight.result)) (to_z w128 (of_z w128 c.plus-self-inside.result))
    p.ring.items p.best.items c.note.new.ring c.keep_best.new.best p.ring.capacity p.best.capacity c.args.offset c.pane_number-number.result c.self.invariant offset added c.pane_number-number.ensures
    c.note.ensures c.keep_best.ensures
