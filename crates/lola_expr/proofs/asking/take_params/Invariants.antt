use Rattle.std.proofs.Common.{◌≡◌, ◌+◌, ◌≤◌, ◌++◌, drop, IsTrue}
use Rattle.lola_value.specs.Kinds.{is_well_formed}
use Rattle.lola_value.specs.Naming.{the_values}
use Rattle.lola_expr.specs.Machine.{top}
use Rattle.lola_expr.proofs.asking.take_params.Given as goal

-- what is left to be taken and what was taken are together what was to be taken
abbrev pub invariant-loop-left : goal.invariant-loop-left
invariant-loop-left l =
    (top l.left l.stack ++ the_values l.params ≡ top l.fn.count l.initial.stack)
    × (drop l.left l.stack ≡ drop l.fn.count l.initial.stack)
    × (l.params.count + l.left ≤ 4) × IsTrue (is_well_formed l.params)

abbrev pub decreases-loop-left : goal.decreases-loop-left
decreases-loop-left l = l.left
