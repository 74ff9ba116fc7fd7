-- Parameters are read one by one.
use Rattle.std.proofs.Common.{◌≡◌, ℕ, zero, suc, ◌+◌, List, [], ◌∷◌, ◌++◌, map, take, refl, ap, sym, ◌∙◌, arith, slice_get}
use Rattle.std.proofs.lemmas.List.{map-append}
use Rattle.lola_value.specs.Naming.{the_values}
use Rattle.lola_value.specs.declared.text.Field.{Field}
use Rattle.lola_value.specs.declared.value.Params.{Params}
use Rattle.lola_value.specs.declared.value.Value.{Value}
use Rattle.lola_save.specs.Taken.{value_in}

take-more : (vs : List Value) (i : ℕ) → take (suc i) vs ≡ take i vs ++ value_in (slice_get vs i)
take-more [] zero = refl
take-more [] (suc i) = refl
take-more (v ∷ vs) zero = refl
take-more (v ∷ vs) (suc i) = ap (λ (xs : List Value). v ∷ xs) (take-more vs i)

take-again : {X : Type 0} (n : ℕ) (xs : List X) → take n (take n xs) ≡ take n xs
take-again zero xs = refl
take-again (suc n) [] = refl
take-again (suc n) (x ∷ xs) = ap (λ ys. x ∷ ys) (take-again n xs)

module _ (f : Value → Field) where
  pub more-read : (vs : List Value) (i : ℕ) (fields more : List Field) → more ≡ fields ++ map f (value_in (slice_get vs i)) → fields ≡ map f (take i vs) → more ≡ map f (take (i + 1) vs)
  more-read vs i fields more e h =
      e
      ∙ ap (λ (fs : List Field). fs ++ map f (value_in (slice_get vs i))) h
      ∙ sym (map-append f (take i vs) (value_in (slice_get vs i)))
      ∙ ap (map f) (sym (take-more vs i))
      ∙ (let n : suc i ≡ i + 1 = omega arith in ap (λ (m : ℕ). map f (take m vs)) n)

  pub all-read : (p : Params) (i : ℕ) (fields : List Field) → i ≡ p.count → fields ≡ map f (take i (the_values p)) → fields ≡ map f (the_values p)
  all-read p i fields e h = h ∙ ap (λ (n : ℕ). map f (take n (the_values p))) e ∙ ap (map f) (take-again p.count (p.at0 ∷ p.at1 ∷ p.at2 ∷ p.at3 ∷ []))
