use Rattle.std.proofs.Common.{◌≡◌, ◌≤◌, ◌+◌, drop}
use Rattle.lola_types.specs.LeftOut.{missing_kinds}
use Rattle.lola_types.proofs.left_out.missing.Given as goal

abbrev pub invariant-loop-kind : goal.invariant-loop-kind
invariant-loop-kind l = record {
  counted : l.count + missing_kinds (drop l.kind-index l.kinds) ≡ missing_kinds l.kinds;
  few : l.count ≤ l.kind-index;
}
