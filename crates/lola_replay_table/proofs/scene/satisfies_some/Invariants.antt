-- No set so far is among the present ones.
use Rattle.std.proofs.Common.{◌≡◌, drop}
use Rattle.lola_model.specs.Activity.{satisfies_some as satisfies_some_of}
use Rattle.lola_replay_table.proofs.scene.satisfies_some.Given as goal

abbrev pub invariant-loop-set : goal.invariant-loop-set
invariant-loop-set l = satisfies_some_of l.present (drop l.set-index l.sets) ≡ satisfies_some_of l.present l.sets
