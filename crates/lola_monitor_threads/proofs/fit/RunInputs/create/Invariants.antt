use Rattle.std.proofs.Common.{◌≡◌, ◌++◌, drop}
use Rattle.lola_model.specs.Trace.{input_kinds}
use Rattle.lola_monitor_threads.proofs.fit.RunInputs.create.Given as goal

abbrev pub invariant-loop-stream : goal.invariant-loop-stream
invariant-loop-stream l = l.kinds.items ++ input_kinds (drop l.stream-index l.stream-items) ≡ input_kinds l.stream-items
