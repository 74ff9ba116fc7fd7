use Rattle.std.proofs.Common.{refl, ap, ◌∙◌, None}
use Rattle.lola_clock.specs.Timers.{timer_rates}
use Rattle.lola_clock.proofs.Setting.{new_rates, are_new}
use Rattle.lola_clock.proofs.clock.Clock.create.Goals as goal

pub invariant_of-result : goal.invariant_of-result
invariant_of-result c = (are_new _ c.args.rates.now c.in_ok-timers.ensures, refl)

pub returns : goal.returns
returns c = ap (λ rs. record { rates = rs; start = None; passed = 0 }) (ap timer_rates c.in_ok-timers.ensures ∙ new_rates c.args.rates.now)
