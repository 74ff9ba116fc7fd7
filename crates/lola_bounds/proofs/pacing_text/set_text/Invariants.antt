use Rattle.std.proofs.Common.{◌≡◌, ◌≤◌, ◌+◌, ◌++◌, drop, length, codes}
use Rattle.std.specs.List.{filter}
use Rattle.lola_model.specs.Model.{is_input}
use Rattle.lola_bounds.specs.Report.{joined, names_in, set_text}
use Rattle.lola_bounds.proofs.pacing_text.set_text.Given as goal

abbrev pub invariant-loop-stream : goal.invariant-loop-stream
invariant-loop-stream l = record {
  shown : l.to ++ joined (codes " && ") l.first (names_in l.set l.input (drop l.stream-index l.streams)) ≡ l.initial.to ++ set_text l.streams l.set;
  counted : l.input + length (filter is_input (drop l.stream-index l.streams)) ≤ 64;
}
