use Rattle.std.proofs.Common.{◌*◌, ◌+◌, ◌∙◌, ap, subst}
use Rattle.std.specs.Int.{div_ceil}
use Rattle.lola_value.specs.Ratio.{Ratio}
use Rattle.lola_value.specs.Rate.{IsRate}
use Rattle.lola_value.proofs.Rates.{next_number_is}
use Rattle.lola_value.proofs.rate.Rate.next_number.Goals as goal

pub returns-clause-number : goal.returns-clause-number
returns-clause-number c =
    let r = c.args.self.now in
    let t = c.args.t in
    let rate : IsRate r = subst (λ (q : Ratio). IsRate q) c.self.view_is c.self.invariant in
    c.div_ceil.ensures
    ∙ ap (λ (q : Ratio). div_ceil ((t + 1) * q.num) c.period_over.result) c.self.view_is
    ∙ ap (λ n. div_ceil ((t + 1) * r.num) n) c.period_over.ensures
    ∙ next_number_is r t rate
