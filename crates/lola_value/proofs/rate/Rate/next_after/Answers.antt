use Rattle.std.proofs.Common.{◌∙◌, None, Some}
use Rattle.lola_value.proofs.Rates.{next_in_time_is}
use Rattle.lola_value.proofs.rate.Rate.next_after.Goals as goal

pub returns-in_err-time-clause-value : goal.returns-in_err-time-clause-value
returns-in_err-time-clause-value c = c.from_residual.ensures ∙ next_in_time_is c.args.self.now c.args.t c.next_number-number.result None c.next_number-number.ensures.number c.in_err-time.ensures

pub returns-clause-value : goal.returns-clause-value
returns-clause-value c = next_in_time_is c.args.self.now c.args.t c.next_number-number.result (Some c.in_ok-time.time) c.next_number-number.ensures.number c.in_ok-time.ensures
