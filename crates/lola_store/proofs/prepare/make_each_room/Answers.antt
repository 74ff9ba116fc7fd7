use Rattle.std.proofs.Common.{◌≡◌, ◌<◌, length, Some, slice_get, refl, arith}
use Rattle.std.proofs.lemmas.Option.{slice_get_read, slice_get_within}
use Rattle.lola_store.specs.Rooms.{IsAlike, IsRoomy}
use Rattle.lola_store.proofs.Preparing.{paired-refl, paired-set, each-more, alike-refl, alike-trans}
use Rattle.lola_store.proofs.prepare.make_each_room.Goals as goal

pub loop-i-init : goal.loop-i-init
loop-i-init c = record { paired = paired-refl IsAlike alike-refl c.args.lives.now.items; len = refl; capacity = refl; done = λ j x l e. absurd (omega arith) }

pub returns-in-Err-clause-alike : goal.returns-in-Err-clause-alike
returns-in-Err-clause-alike c =
    let xs = c.loop-i.lives.items in
    let i = c.loop-i.i in
    let y = c.index_mut-life.result.now in
    let at : slice_get xs i ≡ Some y = slice_get_read xs (length xs) i y refl (omega (arith, c.loop-i.lives.ok.0, c.loop-i.invariant.len)) c.index_mut-life.ensures.value in
    paired-set IsAlike alike-trans c.args.lives.now.items xs i y c.make_room.new.self c.loop-i.invariant.paired at (record { params = c.make_room.ensures.params; born = c.make_room.ensures.born; told_at = c.make_room.ensures.told_at; outcome = c.make_room.ensures.outcome; values = c.make_room.ensures.values; len = c.make_room.ensures.len; capacity = c.make_room.ensures.capacity })

pub loop-i-preserved : goal.loop-i-preserved
loop-i-preserved c =
    let xs = c.loop-i.lives.items in
    let i = c.loop-i.i in
    let y = c.index_mut-life.result.now in
    let at : slice_get xs i ≡ Some y = slice_get_read xs (length xs) i y refl (omega (arith, c.loop-i.lives.ok.0, c.loop-i.invariant.len)) c.index_mut-life.ensures.value in
    record {
      paired = paired-set IsAlike alike-trans c.args.lives.now.items xs i y c.make_room.new.self c.loop-i.invariant.paired at (record { params = c.make_room.ensures.params; born = c.make_room.ensures.born; told_at = c.make_room.ensures.told_at; outcome = c.make_room.ensures.outcome; values = c.make_room.ensures.values; len = c.make_room.ensures.len; capacity = c.make_room.ensures.capacity });
      len = c.loop-i.invariant.len;
      capacity = c.loop-i.invariant.capacity;
      done = each-more IsRoomy xs i y c.make_room.new.self c.loop-i.invariant.done at (record { room = c.in-Ok.ensures.ok });
    }

pub returns-clause-ok : goal.returns-clause-ok
returns-clause-ok c = λ j x e.
    let l : j < length c.loop-i.lives.items = slice_get_within c.loop-i.lives.items j x e in
    c.loop-i.invariant.done j x (omega (arith, l, c.loop-i.lives.ok.0, c.loop-i.invariant.len)) e
