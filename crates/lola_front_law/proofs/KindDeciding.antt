-- Each text has one refusal for kinds, or none.
use Rattle.std.proofs.Common.{◌≡◌, refl, sym, ap, subst, ◌∙◌, ℕ, List, [], Option, Some, None, ◌⊎◌, inl, inr}
use Rattle.lola_value.specs.declared.front.Refusal.{Refusal}
use Rattle.lola_parser_grammar.specs.declared.declarations.Declaration.{Declaration}
use Rattle.lola_model.specs.Refusals.{IsFirstOf, first_of}
use Rattle.lola_model.proofs.FirstRefusal.{is_first}
use Rattle.lola_model.specs.declared.spec.Spec.{Spec}
use Rattle.lola_names.specs.Specification.{Resolves}
use Rattle.lola_types.specs.Refused.{kind_refusals}
use Rattle.lola_front.specs.Front.{IsResolved, IsFull, IsKindRefusal}
use Rattle.lola_front_law.specs.OneKind.{HasOneKindRefusal}
use Rattle.lola_front_law.proofs.Deciding.{one_reading}
use Rattle.lola_front_law.proofs.KindLemmas.{same_refusals}

one_some : (o : Option Refusal) (r q : Refusal) → o ≡ Some r → o ≡ Some q → r ≡ q
one_some o r q a b = cc

none_some : (o : Option Refusal) (r : Refusal) → o ≡ None → o ≡ Some r → ⊥
none_some o r a b = cc

module _ (bytes : List ℕ) where
  -- the same is refused of each specification that a text is resolved to
  pub refused_once : (x y : Spec) → IsResolved bytes x → IsResolved bytes y → kind_refusals x ≡ kind_refusals y
  refused_once x y a b =
      let same = one_reading bytes a.declarations b.declarations a.read b.read in
      same_refusals b.declarations x y (subst (λ (ds : List Declaration). Resolves ds x) same a.resolves) b.resolves

  not_full : (full : Spec) (r : Refusal) → IsFull bytes full → IsKindRefusal bytes r → ⊥
  not_full full r a b =
      let same = refused_once a.spec b.spec a.resolved b.resolved in
      none_some (first_of (kind_refusals b.spec)) r (ap first_of (sym same ∙ a.kinds)) b.refused

  one_refusal : (r q : Refusal) → IsKindRefusal bytes r → IsKindRefusal bytes q → r ≡ q
  one_refusal r q a b =
      let same = refused_once a.spec b.spec a.resolved b.resolved in
      one_some (first_of (kind_refusals b.spec)) r q (sym (ap first_of same) ∙ a.refused) b.refused

  some_or_none : (spec : Spec) → IsResolved bytes spec → (o : Option Refusal) → first_of (kind_refusals spec) ≡ o → IsFirstOf (kind_refusals spec) o
      → (kind_refusals spec ≡ []) ⊎ ((r : Refusal) × IsKindRefusal bytes r)
  some_or_none spec h None e none = inl none
  some_or_none spec h (Some r) e first = inr (r, record { spec = spec; resolved = h; refused = e })

  pub kinds_decided : HasOneKindRefusal bytes
  kinds_decided = record {
    is_some = λ spec h. some_or_none spec h (first_of (kind_refusals spec)) refl (is_first (kind_refusals spec));
    is_either = not_full;
    one_refusal = one_refusal;
    no_plan = λ plan r p k. not_full plan.spec r p.full k;
    no_later = λ q r late k. elim late [ inl pacing ↦ not_full pacing.full r pacing.is_full k | inr cycle ↦ not_full cycle.full r cycle.is_full k ];
  }
