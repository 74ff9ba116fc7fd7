-- The partial results so far and those of the panes that are left are all.
use Rattle.std.proofs.Common.{◌≤◌, MatchOption}
use Rattle.lola_instances.specs.Saved.{panes_at}
use Rattle.lola_save.proofs.WindowPanes.{ArePartsTo}
use Rattle.lola_save.proofs.panes.partials_of.Given as goal

abbrev pub invariant-loop-left : goal.invariant-loop-left
invariant-loop-left l = record {
  within : l.left ≤ l.count;
  parts : MatchOption (panes_at l.store l.window l.index) ⊥ (ArePartsTo l.count l.left l.partials);
}

abbrev pub decreases-loop-left : goal.decreases-loop-left
decreases-loop-left l = l.left
