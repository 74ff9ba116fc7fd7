use Rattle.std.proofs.Common.{◌≤◌, sym, subst}
use Rattle.lola_model.specs.Store.{kept_in}
use Rattle.lola_instances.proofs.Asking.{layout_at, stream_within, index_is}
use Rattle.lola_instances.proofs.Keeping.{values_from}
use Rattle.lola_instances.proofs.store.BoundedStore.kept.Goals as goal

pub lives_of-requires : goal.lives_of-requires
lives_of-requires c = stream_within c.args.self.now.step c.args.self.now.streams.items c.args.stream c.args.index c.requires

pub kept-requires-clause-index : goal.kept-requires-clause-index
kept-requires-clause-index c = index_is c.args.self.now.step c.args.self.now.streams.items c.args.stream c.lives_of.result.now c.lives_of.ensures c.args.index c.requires

pub kept-requires-clause-steady : goal.kept-requires-clause-steady
kept-requires-clause-steady c = λ i x e. ((c.args.self.now.right c.args.stream c.lives_of.result.now c.lives_of.ensures).each i x e).steady

pub returns-clause-within : goal.returns-clause-within
returns-clause-within c = subst (λ o. c.kept.result ≤ kept_in o) (sym (layout_at c.args.self.now.streams.items c.args.stream c.lives_of.result.now c.lives_of.ensures)) c.kept.ensures.within

pub returns-clause-length : goal.returns-clause-length
returns-clause-length c =
    values_from c.args.self.now.streams.items c.args.stream c.args.index c.lives_of.result.now c.kept.result c.lives_of.ensures c.kept.ensures.length
