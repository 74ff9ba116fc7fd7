-- Tables of names.
use Rattle.std.proofs.Common.{◌≡◌, ℕ, true, List, [], ◌∷◌, ◌++◌, Option, Some, None, is_some, refl, ap, ◌∙◌, inl, inr}
use Rattle.std.specs.Prelude.{if◌then◌else◌}
use Rattle.std.proofs.lemmas.Bool.{cases_Bool, false≢true}
use Rattle.lola_value.specs.Arithmetic.{bytes_equal}
use Rattle.lola_model.proofs.Lookups.{bytes_equal-true}
use Rattle.lola_parser_grammar.specs.declared.literals.Name.{Name}
use Rattle.lola_names_refused.specs.Table.{meaning_in, hides, with_name}

module _ {M : Type 0} where
  pub meaning-append : (a b : List (List ℕ × M)) (q : List ℕ) → meaning_in (a ++ b) q ≡ hides (meaning_in a q) (meaning_in b q)
  meaning-append [] b q = refl
  meaning-append (e ∷ a) b q = elim (cases_Bool (bytes_equal q e.0)) [
    | inl hit ↦ rw hit refl
    | inr miss ↦ rw miss (meaning-append a b q)
  ]

  pub hides-hides : (a b c : Option M) → hides (hides a b) c ≡ hides a (hides b c)
  hides-hides None b c = refl
  hides-hides (Some x) b c = refl

  hidden : (o : Option M) (m n : Option M) → is_some o ≡ true → hides o m ≡ hides o n
  hidden None m n e = absurd (false≢true e)
  hidden (Some x) m n e = refl

  -- one name more, whatever stands behind it
  pub hides-with_name : (k : List (List ℕ × M)) (n : Name × M) (q : List ℕ) (m : Option M)
      → hides (meaning_in (with_name k n) q) m ≡ hides (meaning_in k q) (if bytes_equal q n.0.text then Some n.1 else m)
  hides-with_name k n q m = elim (cases_Bool (is_some (meaning_in k n.0.text))) [
    | inl known ↦ rw known (elim (cases_Bool (bytes_equal q n.0.text)) [
      | inl hit ↦
          let there : is_some (meaning_in k q) ≡ true = ap (λ t. is_some (meaning_in k t)) (bytes_equal-true q n.0.text hit) ∙ known in
          hidden (meaning_in k q) m (if bytes_equal q n.0.text then Some n.1 else m) there
      | inr miss ↦ rw miss refl
    ])
    | inr unknown ↦ rw unknown (
        ap (λ o. hides o m) (meaning-append k ((n.0.text, n.1) ∷ []) q)
        ∙ hides-hides (meaning_in k q) (meaning_in ((n.0.text, n.1) ∷ []) q) m
        ∙ (elim (cases_Bool (bytes_equal q n.0.text)) [
          | inl hit ↦ rw hit refl
          | inr miss ↦ rw miss refl
        ])
        )
  ]
