use Rattle.std.proofs.Common.{arith, length, refl}
use Rattle.std.proofs.lemmas.Option.{slice_get_read}
use Rattle.lola_store.proofs.population.place.Goals as goal

pub is_same-requires-clause-that : goal.is_same-requires-clause-that
is_same-requires-clause-that c =
    c.requires.counts c.loop-i.i c.index-lives-i.result
    (slice_get_read c.args.lives.now (length c.args.lives.now) c.loop-i.i c.index-lives-i.result refl (omega arith) c.index-lives-i.is)
