-- The rates so far and those of the clauses to come have the deadlines of all.
use Rattle.std.proofs.Common.{◌++◌, drop}
use Rattle.lola_model.specs.Steps.{rates_of}
use Rattle.lola_engine.specs.Rates.{HaveDeadlinesOf}
use Rattle.lola_engine.proofs.engine.rates_in.Given as goal

abbrev pub invariant-loop-clauses : goal.invariant-loop-clauses
invariant-loop-clauses l = HaveDeadlinesOf (rates_of l.pacings) (l.rates.items ++ rates_of (drop l.clauses-index l.pacings))
