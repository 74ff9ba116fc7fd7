use Rattle.std.proofs.Common.{◌≡◌, drop}
use Rattle.lola_rows.specs.Blanks.{after_blanks}
use Rattle.lola_rows.proofs.blanks.blanks_before.Given as goal

abbrev pub invariant-loop-at : goal.invariant-loop-at
invariant-loop-at l = after_blanks l.field ≡ after_blanks (drop l.at l.field)
