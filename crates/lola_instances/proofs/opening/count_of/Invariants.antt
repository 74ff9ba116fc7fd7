use Rattle.std.proofs.Common.{◌≡◌, ◌+◌, ◌≤◌, drop}
use Rattle.lola_instances.specs.Opening.{count_onto}
use Rattle.lola_instances.proofs.opening.count_of.Given as goal

abbrev pub invariant-loop-w : goal.invariant-loop-w
invariant-loop-w l = record {
  sum : l.count + count_onto l.target (drop l.w-index l.windows) ≡ count_onto l.target l.windows;
  few : l.count ≤ l.w-index;
}
