use Rattle.std.proofs.Common.{◌≡◌, ◌++◌, flat_map, ◌≤◌, take}
use Rattle.std.specs.List.{between}
use Rattle.lola_model.specs.Texts.{escaped}
use Rattle.lola_report.proofs.spelling.spell.Given as goal

abbrev pub invariant-loop-i : goal.invariant-loop-i
invariant-loop-i l = record {
  behind : l.done ≤ l.i;
  before : l.to ≡ l.initial.to ++ flat_map escaped (take l.done l.bytes);
  plain : flat_map escaped (between l.done l.i l.bytes) ≡ between l.done l.i l.bytes;
}
