use Rattle.lola_model.specs.PacingFound.{IsLeastRate}
use Rattle.lola_pacing.proofs.RateLemmas.{least_next, least_same}
use Rattle.lola_pacing.proofs.rates.lesser.Goals as goal

pub returns-then-is_at_most : goal.returns-then-is_at_most
returns-then-is_at_most c rates h =
    let old : IsLeastRate rates c.in-Some-least.other = rw c.in-Some-least.is at h in
    rw c.in-Some.is (least_next rates c.in-Some-least.other c.in-Some.rate old c.is_at_most.ensures.rate.den (c.is_at_most.ensures.most.0 c.if-is_at_most.true))

pub returns-else-is_at_most : goal.returns-else-is_at_most
returns-else-is_at_most c rates h =
    let old : IsLeastRate rates c.in-Some-least.other = rw c.in-Some-least.is at h in
    rw c.in-Some.is (least_same rates c.in-Some-least.other c.in-Some.rate old (λ m. (let a = c.is_at_most.ensures.most.1 m in let b = c.if-is_at_most.false in absurd (cc))))
