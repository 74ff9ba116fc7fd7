use Rattle.std.proofs.Common.{◌≡◌, ◌++◌, drop}
use Rattle.lola_model.specs.Trace.{input_kinds}
use Rattle.lola_report.proofs.read.kinds_of.Given as goal

abbrev pub invariant-loop-stream : goal.invariant-loop-stream
invariant-loop-stream l = l.kinds ++ input_kinds (drop l.stream-index l.streams) ≡ input_kinds l.streams
