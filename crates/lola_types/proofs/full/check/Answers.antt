use Rattle.std.proofs.Common.{◌≡◌, ap, sym, ◌∙◌, subst, List, Option}
use Rattle.lola_value.specs.declared.value.Kind.{Kind}
use Rattle.lola_model.specs.Refusals.{first_of}
use Rattle.lola_types.specs.LeftOut.{kinds_of}
use Rattle.lola_types.specs.Refused.{kind_refusals, refusals_by}
use Rattle.lola_types.specs.Filled.{IsFilledBy}
use Rattle.lola_types.proofs.FullLemmas.{none_refused}
use Rattle.lola_types.proofs.full.check.Goals as goal

pub returns-in-Ok-full : goal.returns-in-Ok-full
returns-in-Ok-full c =
    let k : c.deref.result.now ≡ kinds_of c.args.spec.now = c.deref.ensures.value ∙ c.in-Ok.ensures.kinds in
    let l : c.deref-in-None.result.now ≡ kinds_of c.args.spec.now = c.deref-in-None.ensures.value ∙ c.in-Ok.ensures.kinds in (
      none_refused (kind_refusals c.args.spec.now) (ap (λ z. first_of (refusals_by c.args.spec.now z)) (sym k) ∙ sym c.in-None.ensures),
      subst (λ (z : List (Option Kind)). IsFilledBy c.args.spec.now z c.in-Ok-full.full) l c.in-Ok-full.ensures,
    )
