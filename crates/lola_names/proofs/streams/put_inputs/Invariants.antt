use Rattle.std.proofs.Common.{◌≡◌, ◌++◌, drop, map}
use Rattle.lola_names.specs.Clauses.{input_stream}
use Rattle.lola_names.proofs.streams.put_inputs.Given as goal

abbrev pub invariant-loop-x : goal.invariant-loop-x
invariant-loop-x l = l.streams ++ map input_stream (drop l.x-index l.xs) ≡ l.fn.streams ++ map input_stream l.xs
