use Rattle.std.proofs.Common.{◌≡◌, ◌++◌, drop, map}
use Rattle.lola_model.specs.Leaves.{onward}
use Rattle.lola_pacing.proofs.follow.lists_of.Given as goal

abbrev pub invariant-loop-stream : goal.invariant-loop-stream
invariant-loop-stream l = map onward l.spec.streams ≡ l.lists.items ++ map onward (drop l.stream-index l.spec.streams)
