-- The parameters so far are there.
use Rattle.std.proofs.Common.{◌≡◌, map, take}
use Rattle.lola_value.specs.Naming.{read, the_values}
use Rattle.lola_save.proofs.fields.fields_of.Given as goal

abbrev pub invariant-loop-i : goal.invariant-loop-i
invariant-loop-i l = l.fields ≡ map (read l.engine.state.texts.held) (take l.i (the_values l.params))
