use Rattle.std.proofs.Common.{◌≡◌, ◌++◌, drop}
use Rattle.lola_text.specs.Needed.{texts_in}
use Rattle.lola_text.proofs.adding.add_values.Given as goal

abbrev pub invariant-loop-value : goal.invariant-loop-value
invariant-loop-value l = l.into ++ texts_in (drop l.value-index l.values) ≡ l.fn.into ++ texts_in l.values
