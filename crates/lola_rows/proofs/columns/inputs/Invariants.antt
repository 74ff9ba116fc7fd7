use Rattle.std.proofs.Common.{◌≡◌, ◌++◌, drop}
use Rattle.lola_rows.specs.Columns.{inputs_of}
use Rattle.lola_rows.proofs.columns.inputs.Given as goal

abbrev pub invariant-loop-stream : goal.invariant-loop-stream
invariant-loop-stream l = l.inputs.items ++ inputs_of (drop l.stream-index l.streams) ≡ inputs_of l.streams
