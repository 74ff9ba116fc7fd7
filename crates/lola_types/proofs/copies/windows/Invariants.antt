use Rattle.std.proofs.Common.{◌≡◌, ◌++◌, drop}
use Rattle.lola_types.proofs.copies.windows.Given as goal

abbrev pub invariant-loop-window : goal.invariant-loop-window
invariant-loop-window l = l.copy ++ drop l.window-index l.windows ≡ l.windows
