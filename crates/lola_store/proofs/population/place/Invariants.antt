use Rattle.std.proofs.Common.{◌≡◌, drop}
use Rattle.lola_store.specs.Instances.{place_in}
use Rattle.lola_store.proofs.population.place.Given as goal

abbrev pub invariant-loop-i : goal.invariant-loop-i
invariant-loop-i l = place_in l.params (drop l.i l.lives) l.i ≡ place_in l.params l.lives 0
