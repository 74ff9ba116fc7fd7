-- The entries of a table of names.
use Rattle.std.proofs.Common.{◌≡◌, ℕ, false, List, [], ◌∷◌, ◌++◌, Option, Some, None, Vec, refl, ap, inl, inr, is_some, nat_eq}
use Rattle.std.specs.Cmp.Lexicographic.{pointwise}
use Rattle.std.specs.Map.{lookup}
use Rattle.std.specs.declared.alloc.Global.{Global}
use Rattle.std.proofs.lemmas.Bool.{cases_Bool}
use Rattle.lola_value.specs.Arithmetic.{bytes_equal}
use Rattle.lola_names_refused.specs.Table.{meaning_in}
use Rattle.lola_names_refused.specs.Entries.{names_in}

module _ {M : Type 0} where
  -- a look-up by the text gives its meaning
  pub meaning-looked_up : (es : List (Vec ℕ Global × M)) (text : List ℕ) → meaning_in (names_in es) text ≡ lookup (λ k. pointwise nat_eq text k.items) es
  meaning-looked_up [] text = refl
  meaning-looked_up (e ∷ es) text = elim (cases_Bool (bytes_equal text e.0.items)) [
    | inl hit ↦ rw hit refl
    | inr miss ↦ rw miss (meaning-looked_up es text)
  ]

  pub names-pushed : (es : List (Vec ℕ Global × M)) (e : Vec ℕ Global × M) → names_in (es ++ e ∷ []) ≡ names_in es ++ (e.0.items, e.1) ∷ []
  names-pushed [] e = refl
  names-pushed (x ∷ es) e = ap (λ l. (x.0.items, x.1) ∷ l) (names-pushed es e)

  pub none_of : (o : Option M) → is_some o ≡ false → o ≡ None
  none_of None is = refl
  none_of (Some x) is = cc
