use Rattle.std.proofs.Common.{arith, subst}
use Rattle.std.specs.Int.{IsGcd}
use Rattle.std.proofs.Common.{ℕ}
use Rattle.lola_pacing.proofs.window_refusal.rate_refusal.Goals as goal

pub returns-then-over-pane : goal.returns-then-over-pane
returns-then-over-pane c =
    let period = c.in-Some.ensures in
    record { whole = period.0; pane = c.gcd-pane.result; is_pane = subst (λ (n : ℕ). IsGcd n c.args.over c.gcd-pane.result) period.1 c.gcd-pane.ensures.divisor; many = c.if-over-pane.true }

pub returns : goal.returns
returns c =
    let period = c.in-Some.ensures in
    record { whole = period.0; pane = c.gcd-pane.result; is_pane = subst (λ (n : ℕ). IsGcd n c.args.over c.gcd-pane.result) period.1 c.gcd-pane.ensures.divisor; few = omega arith }
