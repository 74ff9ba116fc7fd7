use Rattle.std.proofs.Common.{drop}
use Rattle.lola_names.specs.Making.{PartsBegun, GrowsByWith}
use Rattle.lola_names.proofs.clauses.expressions.Given as goal

abbrev pub invariant-loop-part : goal.invariant-loop-part
invariant-loop-part l = record {
  begun : PartsBegun l.scope l.made l.xs (drop l.part-index l.xs) l.resolved;
  grown : GrowsByWith l.fn.made l.made l.resolved;
}
