use Rattle.std.proofs.Common.{◌≡◌, ◌∙◌, ◌+◌, ◌-◌, ◌*◌, ◌^◌, ◌≤◌, ◌<◌, [], min, length, Some, true, ap, sym, subst, arith}
use Rattle.std.proofs.lemmas.Int.{to_z-of_z}
use Rattle.std.specs.List.{sum_by}
use mir.Syntax.{w128}
use mir.Val.{SFits, to_z, of_z}
use Rattle.circular_buffer.specs.Buffer.{Buffer}
use Rattle.lola_panes.specs.declared.pane.Pane.{Pane}
use Rattle.lola_panes.specs.Parts.{counted, total_size}
use Rattle.lola_panes.specs.Restored.{AreRestored, first_offset, restored_best}
use Rattle.lola_panes.specs.Standing.{Partials, partials, AreInOrder, StandFor}
use Rattle.lola_panes.specs.Weights.{number_at}
use Rattle.lola_panes.proofs.Offsets.{first_number}
use Rattle.lola_panes.proofs.Resuming.{stands-restored, order-restored, some_parts}
use Rattle.lola_panes.proofs.panes.Panes.restore.Goals as goal

pub first_offset-self-inside-requires : goal.first_offset-self-inside-requires
first_offset-self-inside-requires c = subst (λ (w : Partials). first_offset w.pane c.args.last < 2 ^ 64) (sym c.self.view_is) c.requires.newest

pub returns-clause-newest : goal.returns-clause-newest
returns-clause-newest c = c.first_offset-self-inside.ensures ∙ ap (λ (w : Partials). first_offset w.pane c.args.last) c.self.view_is

pub returns-clause-pane : goal.returns-clause-pane
returns-clause-pane c = ap Some (ap (number_at c.self.inside.pane) c.first_offset-self-inside.ensures ∙ first_number c.self.inside.pane c.args.last c.self.invariant.pane)

pub invariant_of-self : goal.invariant_of-self
invariant_of-self c =
    let p = c.self.inside in
    let ps = c.args.partials.now in
    let v = sym c.self.view_is in
    let len : length ps ≡ min (c.args.last + 1) p.count = subst (λ (w : Partials). length ps ≡ min (c.args.last + 1) w.count) v c.requires.partials in
    let before = c.args.added - c.count_all.result in
    let whole = to_z w128 (of_z w128 c.refill-self-inside.result) in
    subst (λ n. AreInOrder (partials p.aggregation p.kind p.pane p.count p.exact true n c.args.added whole c.refill-self-inside.new.ring.items c.rebuild.new.best.items) c.refill-self-inside.new.ring.capacity c.rebuild.new.best.capacity)
    (sym c.first_offset-self-inside.ensures)
    (order-restored p.aggregation p.kind p.pane p.count p.exact p.told p.newest p.added c.args.added c.args.last c.first_number-first.result before p.total whole ps p.ring.items p.best.items c.refill-self-inside.new.ring c.rebuild.new.best
    p.ring.capacity p.best.capacity c.self.invariant c.requires.added len c.first_number-first.ensures c.refill-self-inside.ensures.panes c.rebuild.ensures)

pub returns-clause-all : goal.returns-clause-all
returns-clause-all c = λ all h0.
    let p = c.self.inside in
    let ps = c.args.partials.now in
    let v = sym c.self.view_is in
    let i = c.self.invariant in
    let h = subst (λ (w : Partials). AreRestored w.aggregation w.kind w.pane c.args.last ps all) v h0 in
    let len : length ps ≡ min (c.args.last + 1) p.count = subst (λ (w : Partials). length ps ≡ min (c.args.last + 1) w.count) v c.requires.partials in
    let counts : sum_by (counted p.aggregation) ps ≤ c.args.added = subst (λ (w : Partials). sum_by (counted w.aggregation) ps ≤ c.args.added) v c.requires.counts in
    let totals : sum_by (total_size p.aggregation) ps ≤ c.args.added * 2 ^ 64 = subst (λ (w : Partials). sum_by (total_size w.aggregation) ps ≤ c.args.added * 2 ^ 64) v c.requires.totals in
    let before = c.args.added - c.count_all.result in
    let whole = to_z w128 (of_z w128 c.refill-self-inside.result) in
    let fz : SFits w128 c.refill-self-inside.result = record { sfits = c.refill-self-inside.type_inv } in
    let few = some_parts c.args.last p.count (length ps) i.count len in
    let few2 = few.2 in
    let cap = i.capacity_is in
    let wide = c.len-kept.ensures.within.1 in
    let long : length ps ≤ 9223372036854775808 = omega arith in
    let all_counted = c.count_all.ensures in
    let ce : before + sum_by (counted p.aggregation) ps ≡ c.args.added = omega arith in
    subst (λ n. StandFor (partials p.aggregation p.kind p.pane p.count p.exact true n c.args.added whole c.refill-self-inside.new.ring.items c.rebuild.new.best.items) all) (sym c.first_offset-self-inside.ensures)
    (stands-restored p.aggregation p.kind p.pane p.count p.exact c.args.last c.args.added c.first_number-first.result before whole ps c.refill-self-inside.new.ring.items c.rebuild.new.best.items all
    i.pane i.count c.requires.added long len c.first_number-first.ensures ce totals (to_z-of_z w128 c.refill-self-inside.result fz ∙ c.refill-self-inside.ensures.whole)
    (ap (λ (b : Buffer Pane). b.items) c.refill-self-inside.ensures.panes)
    (λ x. ap (λ (b : Buffer Pane). b.items) c.rebuild.ensures ∙ ap (λ n. restored_best n p.aggregation c.first_number-first.result ps []) (i.best_capacity_is x)) h)
