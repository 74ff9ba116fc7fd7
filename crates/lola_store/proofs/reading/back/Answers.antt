use Rattle.lola_model.specs.Store.{instances_seen}
use Rattle.lola_store.specs.Stores.{whole_seen}
use Rattle.lola_store.proofs.Asking.{of_kind}
use Rattle.lola_store.proofs.Places.{found_below}
use Rattle.lola_store.proofs.reading.back.Goals as goal

pub instance-requires : goal.instance-requires
instance-requires c = found_below c.args.params.now (instances_seen (whole_seen c.args.s.now) c.args.stream) c.in-Some.i c.in-Some.ensures

pub returns-in-Some-clause-kind : goal.returns-in-Some-clause-kind
returns-in-Some-clause-kind c =
    of_kind c.args.s.now c.args.stream c.in-Some.i c.instance.result.now c.back.result c.instance.ensures (λ k ps h. c.back.ensures.kind k h.values)
