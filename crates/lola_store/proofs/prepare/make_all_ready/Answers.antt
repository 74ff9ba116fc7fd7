use Rattle.std.proofs.Common.{◌≡◌, ◌<◌, length, Some, slice_get, refl, arith}
use Rattle.std.proofs.lemmas.Option.{slice_get_read, slice_get_within}
use Rattle.lola_store.specs.Rooms.{IsKept, IsReady}
use Rattle.lola_store.proofs.Preparing.{paired-refl, paired-set, each-more, kept-refl, kept-trans}
use Rattle.lola_store.proofs.prepare.make_all_ready.Goals as goal

pub loop-i-init : goal.loop-i-init
loop-i-init c = record { paired = paired-refl IsKept kept-refl c.args.streams.now.items; len = refl; capacity = refl; done = λ j x l e. absurd (omega arith) }

pub returns-in-Err-clause-kept : goal.returns-in-Err-clause-kept
returns-in-Err-clause-kept c =
    let xs = c.loop-i.streams.items in
    let i = c.loop-i.i in
    let y = c.index_mut-population.result.now in
    let at : slice_get xs i ≡ Some y = slice_get_read xs (length xs) i y refl (omega (arith, c.loop-i.streams.ok.0, c.loop-i.invariant.len)) c.index_mut-population.ensures.value in
    paired-set IsKept kept-trans c.args.streams.now.items xs i y c.make_ready.new.population c.loop-i.invariant.paired at (c.make_ready.ensures.kept)

pub loop-i-preserved : goal.loop-i-preserved
loop-i-preserved c =
    let xs = c.loop-i.streams.items in
    let i = c.loop-i.i in
    let y = c.index_mut-population.result.now in
    let at : slice_get xs i ≡ Some y = slice_get_read xs (length xs) i y refl (omega (arith, c.loop-i.streams.ok.0, c.loop-i.invariant.len)) c.index_mut-population.ensures.value in
    record {
      paired = paired-set IsKept kept-trans c.args.streams.now.items xs i y c.make_ready.new.population c.loop-i.invariant.paired at (c.make_ready.ensures.kept);
      len = c.loop-i.invariant.len;
      capacity = c.loop-i.invariant.capacity;
      done = each-more IsReady xs i y c.make_ready.new.population c.loop-i.invariant.done at (c.in-Ok.ensures.ok);
    }

pub returns-clause-ok : goal.returns-clause-ok
returns-clause-ok c = λ j x e.
    let l : j < length c.loop-i.streams.items = slice_get_within c.loop-i.streams.items j x e in
    c.loop-i.invariant.done j x (omega (arith, l, c.loop-i.streams.ok.0, c.loop-i.invariant.len)) e
