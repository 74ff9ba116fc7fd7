use Rattle.std.proofs.Common.{◌≡◌, ◌+◌, drop}
use Rattle.std.specs.List.{sum_by}
use Rattle.lola_panes.specs.Parts.{counted}
use Rattle.lola_panes.proofs.restoring.count_all.Given as goal

abbrev pub invariant-loop-q : goal.invariant-loop-q
invariant-loop-q l = l.count + sum_by (counted l.aggregation) (drop l.q-index l.partials) ≡ sum_by (counted l.aggregation) l.partials
