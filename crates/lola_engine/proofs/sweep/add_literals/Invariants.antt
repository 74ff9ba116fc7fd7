-- The numbers so far and those of the literals to come are all numbers.
use Rattle.std.proofs.Common.{◌≡◌, ◌++◌, drop}
use Rattle.lola_engine.specs.Sweeps.{literals_from}
use Rattle.lola_engine.proofs.sweep.add_literals.Given as goal

abbrev pub invariant-loop-number : goal.invariant-loop-number
invariant-loop-number l = l.ids ++ literals_from l.number (drop l.number l.plan.spec.texts) ≡ l.initial.ids ++ literals_from 0 l.plan.spec.texts
