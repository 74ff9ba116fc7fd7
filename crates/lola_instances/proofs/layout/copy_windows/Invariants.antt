use Rattle.std.proofs.Common.{◌≡◌, ◌++◌, drop}
use Rattle.lola_instances.proofs.layout.copy_windows.Given as goal

abbrev pub invariant-loop-w : goal.invariant-loop-w
invariant-loop-w l = l.copy ++ drop l.w-index l.w-items ≡ l.w-items
