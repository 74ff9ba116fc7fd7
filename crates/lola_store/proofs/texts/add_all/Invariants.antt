use Rattle.std.proofs.Common.{◌≡◌, ◌++◌, drop}
use Rattle.std.specs.Prelude.{flat_map}
use Rattle.lola_store.specs.Texts.{population_texts}
use Rattle.lola_store.proofs.texts.add_all.Given as goal

abbrev pub invariant-loop-population : goal.invariant-loop-population
invariant-loop-population l = l.into ++ flat_map (population_texts l.step) (drop l.population-index l.streams) ≡ l.fn.into ++ flat_map (population_texts l.step) l.streams
