use Rattle.std.proofs.Common.{◌≡◌, Contains, List, subst, true}
use Rattle.lola_value.specs.Ratio.{Ratio}
use Rattle.lola_engine.proofs.Deadlines.{have_again}
use Rattle.lola_engine.proofs.engine.add_missing.Goals as goal

pub returns-else-not-has_rate : goal.returns-else-not-has_rate
returns-else-not-has_rate c =
    let found : c.has_rate.result ≡ true = cc in
    have_again c.args.rates.now.items c.args.rate.now (subst (λ (rs : List Ratio). Contains rs c.args.rate.now) c.as_slice.ensures.value (c.has_rate.ensures found))
