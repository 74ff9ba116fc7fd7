-- What is known of the rate that was looked at last.
use Rattle.std.specs.Prelude.{◌≡◌, ◌-◌, Some}
use Rattle.lola_value.specs.Ratio.{Ratio}
use Rattle.lola_model.specs.Activity.{is_deadline}
use Rattle.lola_step.specs.declared.moment.LastRate.{LastRate}
use Rattle.lola_step.specs.declared.moment.Moment.{Moment}

-- where there is such a rate, whether the moment is one of its deadlines
abbrev pub IsKnownAt : Moment → LastRate → Type 0
IsKnownAt m l = (r : Ratio) → l.rate ≡ Some r → l.is_due ≡ is_deadline r (m.time - m.start)
