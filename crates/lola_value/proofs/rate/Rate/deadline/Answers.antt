use Rattle.std.proofs.Common.{◌≡◌, ◌*◌, ◌≤◌, ◌^◌, ◌∙◌, sym, ap, arith, subst}
use Rattle.lola_value.specs.Ratio.{Ratio}
use Rattle.lola_value.specs.Rate.{IsRate, period_over}
use Rattle.lola_value.proofs.Rates.{too_far}
use Rattle.lola_value.proofs.rate.Rate.deadline.Goals as goal

pub returns-in_err-time : goal.returns-in_err-time
returns-in_err-time c =
    let r = c.args.self.now in
    let rate : IsRate r = subst (λ (q : Ratio). IsRate q) c.self.view_is c.self.invariant in
    let over : c.args.k * c.period_over.result ≡ c.args.k * period_over r = ap (λ n. c.args.k * n) c.period_over.ensures in
    let far : 2 ^ 128 ≤ c.args.k * period_over r = omega (arith, over, c.in_err-time.ensures) in
    c.from_residual.ensures ∙ sym (too_far (c.args.k * period_over r) r.num rate.num rate.limits.num far)
