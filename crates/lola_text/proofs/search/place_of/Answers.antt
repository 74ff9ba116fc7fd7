use Rattle.std.proofs.Common.{subst, sym, rules, Option, ℕ}
use Rattle.std.specs.Ordering.{nat_cmp}
use Rattle.std.proofs.lemmas.Fn.{always_returns_same}
use Rattle.lola_text.specs.Flags.{IsPlaceOf}
use Rattle.lola_text.proofs.Finding.{searched}
use Rattle.lola_text.proofs.search.place_of.Goals as goal

pub returns : goal.returns
returns c =
    subst (λ (o : Option ℕ). IsPlaceOf c.args.number c.args.texts.now.entries o) (sym c.ok.ensures.value)
    (searched c.args.texts.now.entries c.args.number c.binary_search_by.result c.requires c.binary_search_by.ensures.bound
    (c.binary_search_by.ensures.position (λ e. nat_cmp e.1.number c.args.number) (always_returns_same _ _ _ (λ a r f' call. search rules))))
