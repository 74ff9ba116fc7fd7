-- What is gathered is that of the values from a place on, and of those behind all.
use Rattle.std.proofs.Common.{◌≤◌, ◌++◌, List, drop, length}
use Rattle.lola_value.specs.declared.text.Field.{Field}
use Rattle.lola_model.specs.Windows.{values_within}
use Rattle.lola_replay_table.specs.Tallies.{IsTally}
use Rattle.lola_replay_table.proofs.window.gathered.Given as goal

abbrev pub invariant-loop-place : goal.invariant-loop-place
invariant-loop-place l =
    (l.place ≤ length l.earlier)
    × ((vs : List Field) → IsTally vs l.behind → IsTally (values_within l.over l.time (drop l.place l.earlier) ++ vs) l.tally)

abbrev pub decreases-loop-place : goal.decreases-loop-place
decreases-loop-place l = l.place
