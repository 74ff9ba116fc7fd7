use Rattle.std.proofs.Common.{◌+◌, length}
use Rattle.lola_pacing.specs.Flags.{Searched, unflagged}
use Rattle.lola_pacing.proofs.search.visit.Given as goal

abbrev pub invariant-loop-stream : goal.invariant-loop-stream
invariant-loop-stream l = Searched l.lists l.own l.first l.flags l.noted.items

abbrev pub decreases-loop-stream : goal.decreases-loop-stream
decreases-loop-stream l = unflagged l.flags + length l.noted.items
