use Rattle.std.proofs.Common.{◌≡◌, ◌++◌, drop}
use Rattle.lola_pacing.proofs.given_rates.copied_form.Given as goal

abbrev pub invariant-loop-set : goal.invariant-loop-set
invariant-loop-set l = l.form ≡ l.copy ++ drop l.set-index l.form
