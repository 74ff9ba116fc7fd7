use Rattle.std.proofs.Common.{◌<◌, Option, length, subst}
use Rattle.lola_model.specs.Store.{instances_seen, target_of}
use Rattle.lola_model.specs.declared.spec.WindowSpec.{WindowSpec}
use Rattle.lola_instances_one.specs.Saved.{HasPane, IsPartial}
use Rattle.lola_instances.specs.Stores.{bounded_seen}
use Rattle.lola_instances.proofs.Asking.{placed_window, stream_within, index_is}
use Rattle.lola_instances.proofs.Recalled.{panes_asked, panes_told}
use Rattle.lola_instances.proofs.store.BoundedStore.partial.Goals as goal

pub lives_of-requires : goal.lives_of-requires
lives_of-requires c =
    let s = c.args.self.now in
    stream_within s.step s.streams.items c.spec_of.result.now.target c.args.index
    (subst (λ (o : Option WindowSpec). c.args.index < length (instances_seen (bounded_seen s) (target_of o))) c.spec_of.ensures c.requires.index)

pub partial-requires-clause-index : goal.partial-requires-clause-index
partial-requires-clause-index c =
    let s = c.args.self.now in
    index_is s.step s.streams.items c.spec_of.result.now.target c.lives_of.result.now c.lives_of.ensures c.args.index
    (subst (λ (o : Option WindowSpec). c.args.index < length (instances_seen (bounded_seen s) (target_of o))) c.spec_of.ensures c.requires.index)

pub partial-requires-clause-place : goal.partial-requires-clause-place
partial-requires-clause-place c =
    (placed_window c.args.self.now c.args.window c.place_of_panes-place.result c.spec_of.result.now c.lives_of.result.now c.spec_of.ensures c.place_of_panes-place.ensures c.lives_of.ensures c.requires.window).below

pub partial-requires-clause-steady : goal.partial-requires-clause-steady
partial-requires-clause-steady c = λ i x e. ((c.args.self.now.right c.spec_of.result.now.target c.lives_of.result.now c.lives_of.ensures).each i x e).steady

pub partial-requires-clause-pane : goal.partial-requires-clause-pane
partial-requires-clause-pane c =
    let s = c.args.self.now in
    panes_asked s.streams.items s.windows s.places.items c.args.window c.args.index c.spec_of.result.now c.place_of_panes-place.result c.lives_of.result.now
    c.spec_of.ensures c.place_of_panes-place.ensures c.lives_of.ensures (HasPane c.args.k) c.requires.pane

pub returns : goal.returns
returns c =
    let s = c.args.self.now in
    panes_told s.streams.items s.windows s.places.items c.args.window c.args.index c.spec_of.result.now c.place_of_panes-place.result c.lives_of.result.now
    c.spec_of.ensures c.place_of_panes-place.ensures c.lives_of.ensures (IsPartial c.args.k c.partial.result) c.partial.ensures
