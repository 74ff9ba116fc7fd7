use Rattle.std.proofs.Common.{MatchOption, Option, slice_get, subst, sym}
use Rattle.lola_instances_one.specs.Holdings.{Holdings}
use Rattle.lola_instances_one.specs.Saved.{IsNewestPane}
use Rattle.lola_instances_stream.proofs.Answering.{panes_below}
use Rattle.lola_instances_stream.proofs.instances.Instances.newest_pane.Goals as goal

pub newest_pane-requires : goal.newest_pane-requires
newest_pane-requires c =
    panes_below c.args.self.now.windows c.slot.result.now.panes c.args.place (c.requires.steady c.args.index c.slot.result.now c.slot.ensures).panes c.requires.place

pub returns : goal.returns
returns c =
    let r = c.newest_pane.result in
    subst (λ (o : Option Holdings). MatchOption o ⊥ (λ (s : Holdings). MatchOption (slice_get s.panes c.args.place) ⊥ (IsNewestPane r))) (sym c.slot.ensures) c.newest_pane.ensures
