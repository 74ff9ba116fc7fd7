use Rattle.std.proofs.Common.{◌≡◌, ◌≤◌, MatchOption, Option, arith, length, slice_get, subst, sym}
use Rattle.lola_panes.specs.Standing.{Partials}
use Rattle.lola_instances_one.specs.declared.window.WindowPanes.{WindowPanes}
use Rattle.lola_instances_one.specs.Holdings.{Holdings}
use Rattle.lola_instances_stream.proofs.Answering.{from_panes, panes_below, panes_count}
use Rattle.lola_instances_stream.proofs.instances.Instances.panes.Goals as goal

pub panes-requires : goal.panes-requires
panes-requires c =
    panes_below c.args.self.now.windows c.slot.result.now.panes c.args.place (c.requires.steady c.args.index c.slot.result.now c.slot.ensures).panes c.requires.place

pub returns-clause-length : goal.returns-clause-length
returns-clause-length c =
    let r = c.panes.result in
    subst (λ (o : Option Holdings). MatchOption o ⊥ (λ (s : Holdings). MatchOption (slice_get s.panes c.args.place) ⊥ (λ (p : Partials). r ≡ length p.panes))) (sym c.slot.ensures)
    (panes_count (slice_get c.slot.result.now.panes c.args.place) r c.panes.ensures)

pub returns-clause-within : goal.returns-clause-within
returns-clause-within c =
    let r = c.panes.result in
    from_panes (λ (w : WindowPanes). r ≤ w.count) (λ (p : Partials). (r ≡ length p.panes) × (r ≤ p.count)) (λ w p a q. let k = q.1 in let e = a.count in omega arith)
    c.args.self.now.windows c.slot.result.now.panes (c.requires.steady c.args.index c.slot.result.now c.slot.ensures).panes c.args.place c.panes.ensures
