use Rattle.std.proofs.Common.{◌≡◌, ◌++◌, drop}
use Rattle.std.specs.Prelude.{flat_map}
use Rattle.lola_store.specs.Texts.{instance_texts}
use Rattle.lola_store.proofs.texts.add_lives.Given as goal

abbrev pub invariant-loop-x : goal.invariant-loop-x
invariant-loop-x l = l.into ++ flat_map (instance_texts l.step) (drop l.x-index l.lives) ≡ l.fn.into ++ flat_map (instance_texts l.step) l.lives
