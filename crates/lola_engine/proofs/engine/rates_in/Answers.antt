use Rattle.std.proofs.Common.{◌≡◌, ◌∙◌, ◌+◌, ◌++◌, ◌∷◌, ℕ, suc, List, ap, arith, drop, drop-cons, subst, sym}
use Rattle.lola_value.specs.Ratio.{Ratio}
use Rattle.lola_model.specs.Steps.{rate_of, rates_of}
use Rattle.lola_model.specs.declared.pacing.ClausePacings.{ClausePacings}
use Rattle.lola_engine.specs.Rates.{HaveDeadlinesOf}
use Rattle.lola_engine.proofs.Deadlines.{have_next}
use Rattle.lola_engine.proofs.engine.rates_in.Goals as goal

pub loop-clauses-preserved : goal.loop-clauses-preserved
loop-clauses-preserved c =
    let pacings = c.args.pacings.now in
    let all : List Ratio = rates_of pacings in
    let at = c.loop-clauses.clauses-index in
    let x = c.clauses-item.result in
    let rest : List Ratio = rates_of (drop (at + 1) pacings) in
    let here : drop at pacings ≡ x ∷ drop (at + 1) pacings =
    let next : suc at ≡ at + 1 = omega arith in
    drop-cons pacings at x c.loop-clauses-test.true
    ∙ (ap (λ (z : ClausePacings). z ∷ drop (suc at) pacings) (sym c.clauses-item.is)
    ∙ ap (λ (n : ℕ). x ∷ drop n pacings) next) in
    let none : HaveDeadlinesOf all (c.loop-clauses.rates.items ++ (rate_of x.spawn ++ (rate_of x.eval ++ (rate_of x.close ++ rest)))) =
    subst (λ (ps : List ClausePacings). HaveDeadlinesOf all (c.loop-clauses.rates.items ++ rates_of ps)) here c.loop-clauses.invariant in
    let one = have_next all c.loop-clauses.rates.items (rate_of x.spawn) (rate_of x.eval ++ (rate_of x.close ++ rest)) c.add_rate.new.rates.items none c.in_ok-add_rate.ensures in
    let two = have_next all c.add_rate.new.rates.items (rate_of x.eval) (rate_of x.close ++ rest) c.add_rate-in-loop-clauses.new.rates.items one c.in_ok-add_rate-2.ensures in
    have_next all c.add_rate-in-loop-clauses.new.rates.items (rate_of x.close) rest c.add_rate-in-loop-clauses-2.new.rates.items two c.in_ok-add_rate-3.ensures
