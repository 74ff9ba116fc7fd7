use Rattle.std.proofs.Common.{◌≡◌, sym, subst}
use Rattle.lola_model.specs.Given.{after_given}
use Rattle.lola_model.proofs.Giving.{given_missing}
use Rattle.lola_store.specs.Stores.{whole_seen}
use Rattle.lola_store.proofs.giving.give.Goals as goal

pub returns-in-Missing-clause-seen : goal.returns-in-Missing-clause-seen
returns-in-Missing-clause-seen c =
    let shown = whole_seen c.args.s.now in
    subst (λ o. shown ≡ after_given shown c.args.stream c.args.index o) (sym c.in-Missing.is) (given_missing shown c.args.stream c.args.index)
