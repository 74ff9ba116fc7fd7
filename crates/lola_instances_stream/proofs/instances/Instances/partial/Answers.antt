use Rattle.std.proofs.Common.{MatchOption, Option, slice_get, subst, sym}
use Rattle.lola_instances_one.specs.Holdings.{Holdings}
use Rattle.lola_instances_one.specs.Saved.{HasPane, IsPartial}
use Rattle.lola_instances_stream.proofs.Answering.{panes_below}
use Rattle.lola_instances_stream.proofs.instances.Instances.partial.Goals as goal

pub partial-requires-clause-place : goal.partial-requires-clause-place
partial-requires-clause-place c =
    panes_below c.args.self.now.windows c.slot.result.now.panes c.args.place (c.requires.steady c.args.index c.slot.result.now c.slot.ensures).panes c.requires.place

pub partial-requires-clause-pane : goal.partial-requires-clause-pane
partial-requires-clause-pane c =
    subst (λ (o : Option Holdings). MatchOption o ⊥ (λ (s : Holdings). MatchOption (slice_get s.panes c.args.place) ⊥ (HasPane c.args.k))) c.slot.ensures c.requires.pane

pub returns : goal.returns
returns c =
    let r = c.partial.result in
    subst (λ (o : Option Holdings). MatchOption o ⊥ (λ (s : Holdings). MatchOption (slice_get s.panes c.args.place) ⊥ (IsPartial c.args.k r))) (sym c.slot.ensures) c.partial.ensures
