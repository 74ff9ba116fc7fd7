use Rattle.std.proofs.Common.{arith, inl, inr, refl, subst, take}
use Rattle.std.specs.Bool.{MatchBool}
use Rattle.lola_replay.specs.Ending.{IsEndBy}
use Rattle.lola_replay.proofs.ComparingLemmas.{not-empty}
use Rattle.lola_replay.proofs.EndingLemmas.{last-there, more-behind, no-end-line}
use Rattle.lola_replay.proofs.ending.end_finding.Goals as goal

pub returns-then-not-branch : goal.returns-then-not-branch
returns-then-not-branch c =
    let plan = c.args.course.now.plan.now in
    let counts = c.args.counts.now in
    let fault = c.args.fault in
    let rest = c.args.compared.rest.now in
    let told = subst (λ b. MatchBool b (IsEndBy plan counts fault (take c.line_length-long.result rest)) (¬ (IsEndBy plan counts fault (take c.line_length-long.result rest)))) c.if-not-branch.true c.in_ok-is_end_line.ensures in
    inl (no-end-line plan counts fault rest (not-empty rest c.if-is_empty.ensures) (subst (λ n. ¬ (IsEndBy plan counts fault (take n rest))) c.line_length-long.ensures.value told), refl)

pub returns-then-long-compared : goal.returns-then-long-compared
returns-then-long-compared c =
    let plan = c.args.course.now.plan.now in
    let counts = c.args.counts.now in
    let fault = c.args.fault in
    let rest = c.args.compared.rest.now in
    let told = subst (λ b. MatchBool b (IsEndBy plan counts fault (take c.line_length-long.result rest)) (¬ (IsEndBy plan counts fault (take c.line_length-long.result rest)))) c.if-not-branch.false c.in_ok-is_end_line.ensures in
    let value = c.line_length-long.ensures.value in
    let long = c.if-long-compared.true in
    inr (more-behind plan counts fault rest (not-empty rest c.if-is_empty.ensures) (subst (λ n. IsEndBy plan counts fault (take n rest)) value told) (omega (arith, value, long)), refl)

pub returns : goal.returns
returns c =
    let plan = c.args.course.now.plan.now in
    let counts = c.args.counts.now in
    let fault = c.args.fault in
    let rest = c.args.compared.rest.now in
    let told = subst (λ b. MatchBool b (IsEndBy plan counts fault (take c.line_length-long.result rest)) (¬ (IsEndBy plan counts fault (take c.line_length-long.result rest)))) c.if-not-branch.false c.in_ok-is_end_line.ensures in
    let value = c.line_length-long.ensures.value in
    let long = c.if-long-compared.false in
    (last-there plan counts fault rest (not-empty rest c.if-is_empty.ensures) (subst (λ n. IsEndBy plan counts fault (take n rest)) value told) (omega (arith, value, long)), refl, refl)
