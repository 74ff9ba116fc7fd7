use Rattle.lola_instances.proofs.Asking.{stream_within, index_is}
use Rattle.lola_instances.proofs.Recalled.{value_from}
use Rattle.lola_instances.proofs.store.BoundedStore.value_back.Goals as goal

pub lives_of-requires : goal.lives_of-requires
lives_of-requires c = stream_within c.args.self.now.step c.args.self.now.streams.items c.args.stream c.args.index c.requires

pub value_back-requires : goal.value_back-requires
value_back-requires c = index_is c.args.self.now.step c.args.self.now.streams.items c.args.stream c.lives_of.result.now c.lives_of.ensures c.args.index c.requires

pub returns : goal.returns
returns c =
    value_from c.args.self.now.streams.items c.args.stream c.args.index c.args.k c.lives_of.result.now c.value_back.result c.lives_of.ensures c.value_back.ensures
