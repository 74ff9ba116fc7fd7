use Rattle.std.proofs.Common.{◌≤◌, ◌<◌, Option, MatchOption, length, sym, subst, arith}
use Rattle.lola_model.specs.Store.{instances_seen, target_of}
use Rattle.lola_model.specs.declared.plan.PaneSize.{PaneSize}
use Rattle.lola_model.specs.declared.spec.WindowSpec.{WindowSpec}
use Rattle.lola_instances_one.specs.declared.window.WindowPanes.{WindowPanes}
use Rattle.lola_instances.specs.Stores.{bounded_seen}
use Rattle.lola_instances.proofs.Asking.{placed_window, stream_within, index_is}
use Rattle.lola_instances.proofs.Keeping.{panes_from}
use Rattle.lola_instances.proofs.store.BoundedStore.panes.Goals as goal

pub lives_of-requires : goal.lives_of-requires
lives_of-requires c =
    let s = c.args.self.now in
    stream_within s.step s.streams.items c.spec_of.result.now.target c.args.index
    (subst (λ (o : Option WindowSpec). c.args.index < length (instances_seen (bounded_seen s) (target_of o))) c.spec_of.ensures c.requires.index)

pub panes-requires-clause-index : goal.panes-requires-clause-index
panes-requires-clause-index c =
    let s = c.args.self.now in
    index_is s.step s.streams.items c.spec_of.result.now.target c.lives_of.result.now c.lives_of.ensures c.args.index
    (subst (λ (o : Option WindowSpec). c.args.index < length (instances_seen (bounded_seen s) (target_of o))) c.spec_of.ensures c.requires.index)

pub panes-requires-clause-place : goal.panes-requires-clause-place
panes-requires-clause-place c =
    (placed_window c.args.self.now c.args.window c.place_of_panes-place.result c.spec_of.result.now c.lives_of.result.now c.spec_of.ensures c.place_of_panes-place.ensures c.lives_of.ensures c.requires.window).below

pub panes-requires-clause-steady : goal.panes-requires-clause-steady
panes-requires-clause-steady c = λ i x e. ((c.args.self.now.right c.spec_of.result.now.target c.lives_of.result.now c.lives_of.ensures).each i x e).steady

pub returns-clause-within : goal.returns-clause-within
returns-clause-within c =
    let s = c.args.self.now in
    let f = placed_window s c.args.window c.place_of_panes-place.result c.spec_of.result.now c.lives_of.result.now c.spec_of.ensures c.place_of_panes-place.ensures c.lives_of.ensures c.requires.window in
    let k = subst (λ (o : Option WindowPanes). MatchOption o ⊥ (λ q. c.panes.result ≤ q.count)) f.at c.panes.ensures.within in
    let e = f.is.count in
    subst (λ (o : Option PaneSize). MatchOption o ⊥ (λ p. c.panes.result ≤ p.count)) (sym f.sized) (omega arith)

pub returns-clause-length : goal.returns-clause-length
returns-clause-length c =
    let s = c.args.self.now in
    panes_from s.streams.items s.windows s.places.items c.args.window c.args.index c.spec_of.result.now c.place_of_panes-place.result c.lives_of.result.now c.panes.result
    c.spec_of.ensures c.place_of_panes-place.ensures c.lives_of.ensures c.panes.ensures.length
