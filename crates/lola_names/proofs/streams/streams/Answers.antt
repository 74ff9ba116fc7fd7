use Rattle.lola_names.proofs.StreamLemmas.{begun_none, begun_more, begun_end, streams_none, grows_streams}
use Rattle.lola_names.proofs.streams.streams.Goals as goal

pub loop-declaration-init : goal.loop-declaration-init
loop-declaration-init c = record {
  begun = begun_none c.args.declarations.now c.args.made.now c.create-streams.result c.create-streams.ensures;
  grown = streams_none c.args.made.now c.create-streams.result c.create-streams.ensures;
}

pub loop-declaration-preserved : goal.loop-declaration-preserved
loop-declaration-preserved c = record {
  begun =
      begun_more c.args.declarations.now _ _ c.loop-declaration.declaration-index _ _ c.declaration-item.result _ _ c.loop-declaration-test.true c.declaration-item.is
      c.in_ok-put_declaration.ensures c.loop-declaration.invariant.begun;
  grown = grows_streams _ _ _ c.loop-declaration.streams c.in_ok-put_declaration.ensures.more _ c.in_ok-put_declaration.ensures.streams c.loop-declaration.invariant.grown c.in_ok-put_declaration.ensures.grown;
}

pub returns-clause-resolved : goal.returns-clause-resolved
returns-clause-resolved c =
    begun_end c.args.declarations.now c.loop-declaration.made c.loop-declaration.declaration-index c.loop-declaration.triggers c.loop-declaration.streams
    c.loop-declaration-test.false c.loop-declaration.invariant.begun
