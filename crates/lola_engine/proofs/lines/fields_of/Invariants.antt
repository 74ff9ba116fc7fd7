-- The parameters so far are there.
use Rattle.std.proofs.Common.{◌≡◌, map, take}
use Rattle.lola_value.specs.Naming.{read, the_values}
use Rattle.lola_engine.proofs.lines.fields_of.Given as goal

abbrev pub invariant-loop-i : goal.invariant-loop-i
invariant-loop-i l = l.fields ≡ map (read l.texts.held) (take l.i (the_values l.params))
