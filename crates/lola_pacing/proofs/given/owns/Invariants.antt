use Rattle.std.proofs.Common.{◌≤◌, ◌+◌, length, drop, filter}
use Rattle.lola_model.specs.Model.{is_input as is_input_stream}
use Rattle.lola_model.specs.Formulas.{AreOverInputs}
use Rattle.lola_pacing.specs.Steps.{GrowsOwn}
use Rattle.lola_pacing.proofs.given.owns.Given as goal

abbrev pub invariant-loop-stream : goal.invariant-loop-stream
invariant-loop-stream l = record {
  room : l.inputs + length (filter is_input_stream (drop l.stream-index l.streams)) ≤ 64;
  formulas : AreOverInputs (drop l.stream-index l.streams);
  grows : GrowsOwn l.streams l.inputs (drop l.stream-index l.streams) l.owns.items;
}
