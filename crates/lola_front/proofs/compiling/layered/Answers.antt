-- The least stream on a closed walk is a stream of the specification; where there is none, the layers are those of its graph.
use Rattle.std.proofs.Common.{◌<◌, sym, subst, List, length, slice_get}
use Rattle.lola_model.specs.declared.spec.Stream.{Stream}
use Rattle.lola_front.proofs.EndLemmas.{are_layers, is_stream, least_of}
use Rattle.lola_front.specs.Front.{IsPlaceOf}
use Rattle.lola_front.proofs.compiling.layered.Goals as goal

pub cycle-requires : goal.cycle-requires
cycle-requires c =
    let least = least_of c.args.spec.now c.in_ok-edges.edges c.in_ok-stream.field-0 c.in-Some.stream c.in_ok-edges.ensures.all c.in-Some.is c.in_ok-stream.ensures in
    subst (λ (ss : List Stream). c.in-Some.stream < length ss) (sym c.as_slice.ensures) (is_stream c.args.spec.now c.in-Some.stream least)

pub returns-in-Some : goal.returns-in-Some
returns-in-Some c = record {
  stream = c.in-Some.stream;
  least = least_of c.args.spec.now c.in_ok-edges.edges c.in_ok-stream.field-0 c.in-Some.stream c.in_ok-edges.ensures.all c.in-Some.is c.in_ok-stream.ensures;
  is_cycle = c.cycle.ensures.code;
  place = subst (λ (ss : List Stream). IsPlaceOf (slice_get ss c.in-Some.stream) c.cycle.result.at) c.as_slice.ensures c.cycle.ensures.place;
}

pub returns : goal.returns
returns c =
    are_layers c.args.spec.now c.in_ok-edges.edges c.in_ok-stream.field-0 c.in_ok-layers-in-None.layers c.in_ok-edges.ensures.all c.in-None.is c.in_ok-stream.ensures
    c.in_ok-layers-in-None.ensures.each c.in_ok-layers-in-None.ensures.count
