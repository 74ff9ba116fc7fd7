-- Each line that is left out takes its line feed with it.
use Rattle.std.proofs.Common.{length}
use Rattle.lola_rows.proofs.window.holds_line.Given as goal

abbrev pub decreases-loop-at : goal.decreases-loop-at
decreases-loop-at l = length l.rest
