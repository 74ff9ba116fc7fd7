-- The lines so far are appended and counted.
use Rattle.std.proofs.Common.{◌≡◌, ◌≤◌, ◌++◌, take, length, flat_map}
use Rattle.lola_engine.proofs.LinesPut.{lines-all, text-for}
use Rattle.lola_engine.proofs.lines.put_lines.Given as goal

abbrev pub invariant-loop-step_value : goal.invariant-loop-step_value
invariant-loop-step_value l = record {
  text : l.to ≡ l.fn.to ++ flat_map (text-for l.show l.time l.plan.spec.streams l.texts.held) (take l.step_value-index l.step_values);
  count : l.count ≡ length (lines-all l.show l.time l.plan.spec.streams l.texts.held (take l.step_value-index l.step_values));
  few : l.count ≤ l.step_value-index;
}
