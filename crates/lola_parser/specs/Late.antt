-- Which nesting of its whole expression a token is.
use Rattle.std.specs.Prelude.{◌≡◌, ℕ, suc, ◌+◌, ◌≤◌, ◌<◌, true, List, ◌∷◌, ◌++◌, length, ◌⊎◌}
use Rattle.lola_parser_grammar.specs.Syntax.{Lexeme, Terminal, Syntax, Past, Token, Nesting, Whole, Known, Then, Map, Either, Maybe, Many, Fork, Spells, max_nestings}
use Rattle.lola_parser_grammar.specs.Nestings.{is_nesting, nestings_in}
use Rattle.lola_parser_grammar.specs.Exceeding.{ExceedsAmong, ExceedsIfSome}

module _ (nestings : List Terminal) where
  module _ (k : ℕ) where
    -- In the sentence of u, t and v, with this value, t is a nesting, and k nestings stand before it in the same whole expression.
    unfoldable pub IsNestingBehind : {A : Type 0} → Syntax A → List Lexeme → Lexeme → List Lexeme → A → Type 0
    IsNestingBehind (Past a) u t v x = ⊥
    IsNestingBehind (Token c) u t v x = ⊥
    IsNestingBehind (Nesting c) u t v x = ⊥
    IsNestingBehind (Whole a) u t v x = Spells a (u ++ t ∷ v) x × (nestings_in nestings u ≡ k) × (is_nesting nestings t ≡ true)
    IsNestingBehind (Known fs ms a) u t v x = IsNestingBehind a u t v x
    IsNestingBehind (Then a b) u t v x =
        ((w z : List Lexeme) × (v ≡ w ++ z) × IsNestingBehind a u t w x.0 × Spells b z x.1)
        ⊎ ((w z : List Lexeme) × (u ≡ w ++ z) × Spells a w x.0 × IsNestingBehind b z t v x.1)
    IsNestingBehind (Map f a) u t v y = (x : _) × (y ≡ f x) × IsNestingBehind a u t v x
    IsNestingBehind (Either a b) u t v x = IsNestingBehind a u t v x ⊎ IsNestingBehind b u t v x
    IsNestingBehind (Maybe a) u t v x = ExceedsIfSome (IsNestingBehind a u t v) x
    IsNestingBehind (Many a) u t v xs = ExceedsAmong (IsNestingBehind a) (Spells a) u t v xs
    IsNestingBehind (Fork ks a b c) u t v x =
        -- in the first expression of a list, or behind a bracket that is a nesting too
        (((w z : List Lexeme) × (v ≡ w ++ z) × Spells a (u ++ t ∷ w) x.0 × Spells b z x.1 × (nestings_in nestings u ≡ k) × (is_nesting nestings t ≡ true))
        ⊎ ((w z : List Lexeme) × (v ≡ w ++ z) × Spells a (u ++ t ∷ w) x.0 × Spells c z x.1 × (suc (nestings_in nestings u) ≡ k) × (is_nesting nestings t ≡ true)))
        -- in the rest of a list, or of the expression
        ⊎ (((w z : List Lexeme) × (u ≡ w ++ z) × Spells a w x.0 × IsNestingBehind b z t v x.1)
        ⊎ ((w z : List Lexeme) × (u ≡ w ++ z) × Spells a w x.0 × Spells c (z ++ t ∷ v) x.1 × (suc (nestings_in nestings w + nestings_in nestings z) ≡ k) × (is_nesting nestings t ≡ true)))

  -- In the sentence of u, t and v, with this value, t is the next nesting behind the first one too many, where a bracket that only
  -- what stands behind its end shows to be a nesting begins the expression: so many as may come stand between the bracket and t.
  unfoldable pub IsNextBehindBracket : {A : Type 0} → Syntax A → List Lexeme → Lexeme → List Lexeme → A → Type 0
  IsNextBehindBracket (Past a) u t v x = ⊥
  IsNextBehindBracket (Token c) u t v x = ⊥
  IsNextBehindBracket (Nesting c) u t v x = ⊥
  IsNextBehindBracket (Whole a) u t v x = ⊥
  IsNextBehindBracket (Known fs ms a) u t v x = IsNextBehindBracket a u t v x
  IsNextBehindBracket (Then a b) u t v x =
      ((w z : List Lexeme) × (v ≡ w ++ z) × IsNextBehindBracket a u t w x.0 × Spells b z x.1)
      ⊎ ((w z : List Lexeme) × (u ≡ w ++ z) × Spells a w x.0 × IsNextBehindBracket b z t v x.1)
  IsNextBehindBracket (Map f a) u t v y = (x : _) × (y ≡ f x) × IsNextBehindBracket a u t v x
  IsNextBehindBracket (Either a b) u t v x = IsNextBehindBracket a u t v x ⊎ IsNextBehindBracket b u t v x
  IsNextBehindBracket (Maybe a) u t v x = ExceedsIfSome (IsNextBehindBracket a u t v) x
  IsNextBehindBracket (Many a) u t v xs = ExceedsAmong (IsNextBehindBracket a) (Spells a) u t v xs
  IsNextBehindBracket (Fork ks a b c) u t v x =
      ((w z : List Lexeme) × (v ≡ w ++ z) × Spells a (u ++ t ∷ w) x.0 × Spells c z x.1 × (nestings_in nestings u ≡ max_nestings) × (is_nesting nestings t ≡ true))
      ⊎ ((w z : List Lexeme) × (u ≡ w ++ z) × Spells a w x.0 × IsNextBehindBracket b z t v x.1)

  -- In the sentence of u, t and v, with this value, t is a nesting too many: as many as may come stand before it, or more.
  abbrev pub IsLate : {A : Type 0} → Syntax A → List Lexeme → Lexeme → List Lexeme → A → Type 0
  IsLate s u t v x = (k : ℕ) × (max_nestings ≤ k) × IsNestingBehind k s u t v x

  -- In every sentence that begins with u, t and w, t is a nesting too many.
  abbrev pub IsLateInEvery : {A : Type 0} → Syntax A → List Lexeme → Lexeme → List Lexeme → Type 0
  IsLateInEvery {A} s u t w = (q : List Lexeme) (x : A) → Spells s (u ++ t ∷ (w ++ q)) x → IsLate s u t (w ++ q) x

  -- In the sentence z, with this value, none of the first n tokens is a nesting too many.
  abbrev pub NoneIsLate : {A : Type 0} → Syntax A → ℕ → List Lexeme → A → Type 0
  NoneIsLate s n z x = (k : ℕ) (u : List Lexeme) (t : Lexeme) (v : List Lexeme) → z ≡ u ++ t ∷ v → length u < n → IsNestingBehind k s u t v x → k < max_nestings

  -- In the sentence of u, t and v, with this value, t is the first nesting too many.
  abbrev pub IsFirstLate : {A : Type 0} → Syntax A → List Lexeme → Lexeme → List Lexeme → A → Type 0
  IsFirstLate s u t v x = IsNestingBehind max_nestings s u t v x × NoneIsLate s (length u) (u ++ t ∷ v) x

  -- t is the first nesting that is one too many in every sentence that begins with u, t and w.
  abbrev pub IsDeepPlace : {A : Type 0} → Syntax A → List Lexeme → Lexeme → List Lexeme → Type 0
  IsDeepPlace s u t w =
      IsLateInEvery s u t w
      × ((u' : List Lexeme) (t' : Lexeme) (w' : List Lexeme) → u ++ t ∷ w ≡ u' ++ t' ∷ w' → length u' < length u → IsLateInEvery s u' t' w' → ⊥)

  -- In every sentence that begins with u, t and w, t is the next nesting behind the first one too many.
  abbrev pub IsNextInEvery : {A : Type 0} → Syntax A → List Lexeme → Lexeme → List Lexeme → Type 0
  IsNextInEvery {A} s u t w = (q : List Lexeme) (x : A) → Spells s (u ++ t ∷ (w ++ q)) x → IsNextBehindBracket s u t (w ++ q) x

  -- Some sentence begins with p in which no token of p is that next nesting.
  abbrev pub HasNoNext : {A : Type 0} → Syntax A → List Lexeme → Type 0
  HasNoNext {A} s p =
      (q : List Lexeme) × (x : A) × Spells s (p ++ q) x
      × ((u : List Lexeme) (t : Lexeme) (v : List Lexeme) → p ++ q ≡ u ++ t ∷ v → length u < length p → IsNextBehindBracket s u t v x → ⊥)
