use Rattle.std.proofs.Common.{◌≡◌, ℕ, ◌<◌, Some, slice_get, true}
use Rattle.lola_instances_stream.specs.Crowds.{Crowd}
use Rattle.lola_instances.specs.Spawning.{is_among}
use Rattle.lola_instances.proofs.opening.spawning_of.Given as goal

abbrev pub invariant-loop-i : goal.invariant-loop-i
invariant-loop-i l = (n : ℕ) (c : Crowd) → n < l.i → slice_get l.streams n ≡ Some c → c.layout.spawns ≡ true → is_among n l.made.items ≡ true
