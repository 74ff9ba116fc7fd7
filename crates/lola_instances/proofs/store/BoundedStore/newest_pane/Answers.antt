use Rattle.std.proofs.Common.{◌<◌, Option, length, subst}
use Rattle.lola_model.specs.Store.{instances_seen, target_of}
use Rattle.lola_model.specs.declared.spec.WindowSpec.{WindowSpec}
use Rattle.lola_instances_one.specs.Saved.{IsNewestPane}
use Rattle.lola_instances.specs.Stores.{bounded_seen}
use Rattle.lola_instances.proofs.Asking.{placed_window, stream_within, index_is}
use Rattle.lola_instances.proofs.Recalled.{panes_told}
use Rattle.lola_instances.proofs.store.BoundedStore.newest_pane.Goals as goal

pub lives_of-requires : goal.lives_of-requires
lives_of-requires c =
    let s = c.args.self.now in
    stream_within s.step s.streams.items c.spec_of.result.now.target c.args.index
    (subst (λ (o : Option WindowSpec). c.args.index < length (instances_seen (bounded_seen s) (target_of o))) c.spec_of.ensures c.requires.index)

pub newest_pane-requires-clause-index : goal.newest_pane-requires-clause-index
newest_pane-requires-clause-index c =
    let s = c.args.self.now in
    index_is s.step s.streams.items c.spec_of.result.now.target c.lives_of.result.now c.lives_of.ensures c.args.index
    (subst (λ (o : Option WindowSpec). c.args.index < length (instances_seen (bounded_seen s) (target_of o))) c.spec_of.ensures c.requires.index)

pub newest_pane-requires-clause-place : goal.newest_pane-requires-clause-place
newest_pane-requires-clause-place c =
    (placed_window c.args.self.now c.args.window c.place_of_panes-place.result c.spec_of.result.now c.lives_of.result.now c.spec_of.ensures c.place_of_panes-place.ensures c.lives_of.ensures c.requires.window).below

pub newest_pane-requires-clause-steady : goal.newest_pane-requires-clause-steady
newest_pane-requires-clause-steady c = λ i x e. ((c.args.self.now.right c.spec_of.result.now.target c.lives_of.result.now c.lives_of.ensures).each i x e).steady

pub returns : goal.returns
returns c =
    let s = c.args.self.now in
    panes_told s.streams.items s.windows s.places.items c.args.window c.args.index c.spec_of.result.now c.place_of_panes-place.result c.lives_of.result.now
    c.spec_of.ensures c.place_of_panes-place.ensures c.lives_of.ensures (IsNewestPane c.newest_pane.result) c.newest_pane.ensures
