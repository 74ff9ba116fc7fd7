-- Texts are cut in one way: where the first byte stands that is not of a word.
use Rattle.std.proofs.Common.{◌≡◌, ℕ, List, [], ◌∷◌, ◌++◌, Bool, true, false, refl, ap}
use Rattle.std.specs.List.{list_all}
use Rattle.std.proofs.lemmas.Bool.{and_parts}

-- a text that is empty or begins with a byte that is not of a word
abbrev pub Stops : (ℕ → Bool) → List ℕ → Type 0
Stops p [] = Unit {0}
Stops p (b ∷ bs) = p b ≡ false

module _ (p : ℕ → Bool) where
  apart : (b c : ℕ) → b ≡ c → p b ≡ true → p c ≡ false → ⊥
  apart b c e y n = let f : p b ≡ p c = ap p e in cc

  pub cut-same : (x y u v : List ℕ) → list_all p x ≡ true → list_all p y ≡ true → Stops p u → Stops p v → x ++ u ≡ y ++ v → (x ≡ y) × (u ≡ v)
  cut-same [] [] u v a b s t e = (refl, e)
  cut-same [] (c ∷ y) [] v a b s t e = absurd (cc)
  cut-same [] (c ∷ y) (d ∷ u) v a b s t e =
      let h : c ≡ d = cc in
      absurd (apart c d h (and_parts (p c) (list_all p y) b).0 s)
  cut-same (c ∷ x) [] u [] a b s t e = absurd (cc)
  cut-same (c ∷ x) [] u (d ∷ v) a b s t e =
      let h : c ≡ d = cc in
      absurd (apart c d h (and_parts (p c) (list_all p x) a).0 t)
  cut-same (c ∷ x) (d ∷ y) u v a b s t e =
      let h : c ≡ d = cc in
      let g : x ++ u ≡ y ++ v = cc in
      let r = cut-same x y u v (and_parts (p c) (list_all p x) a).1 (and_parts (p d) (list_all p y) b).1 s t g in
      let f = r.0 in
      (λ i. h i ∷ f i, r.1)
