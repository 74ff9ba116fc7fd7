-- Where a sentence has one nesting too many.
use Rattle.std.specs.Prelude.{◌≡◌, ℕ, suc, ◌+◌, Bool, true, List, [], ◌∷◌, ◌++◌, Option, Some, None, ◌⊎◌}
use Rattle.lola_parser_grammar.specs.Syntax.{Lexeme, Terminal, Syntax, Past, Token, Nesting, Whole, Known, Then, Map, Either, Maybe, Many, Fork, Spells, Repeats, max_nestings}
use Rattle.lola_parser_grammar.specs.Nestings.{is_nesting, nestings_in}

-- in one of several sentences, one after the other
abbrev pub ExceedsAmong : {A : Type 0} → (List Lexeme → Lexeme → List Lexeme → A → Type 0) → (List Lexeme → A → Type 0) → List Lexeme → Lexeme → List Lexeme → List A → Type 0
ExceedsAmong Q P u t v [] = ⊥
ExceedsAmong Q P u t v (x ∷ xs) =
    ((w z : List Lexeme) × (v ≡ w ++ z) × Q u t w x × Repeats P z xs)
    ⊎ ((w z : List Lexeme) × (u ≡ w ++ z) × P w x × ExceedsAmong Q P z t v xs)

abbrev pub ExceedsIfSome : {A : Type 0} → (A → Type 0) → Option A → Type 0
ExceedsIfSome Q None = ⊥
ExceedsIfSome Q (Some x) = Q x

module _ (nestings : List Terminal) where
  -- In the sentence of u, t and v, with this value, t is a nesting before which exactly as many nestings as may come stand in the
  -- same whole expression.
  unfoldable pub Exceeds : {A : Type 0} → Syntax A → List Lexeme → Lexeme → List Lexeme → A → Type 0
  Exceeds (Past a) u t v x = ⊥
  Exceeds (Token k) u t v x = ⊥
  Exceeds (Nesting k) u t v x = ⊥
  Exceeds (Whole a) u t v x = Spells a (u ++ t ∷ v) x × (nestings_in nestings u ≡ max_nestings) × (is_nesting nestings t ≡ true)
  Exceeds (Known fs ms a) u t v x = Exceeds a u t v x
  Exceeds (Then a b) u t v x =
      ((w z : List Lexeme) × (v ≡ w ++ z) × Exceeds a u t w x.0 × Spells b z x.1)
      ⊎ ((w z : List Lexeme) × (u ≡ w ++ z) × Spells a w x.0 × Exceeds b z t v x.1)
  Exceeds (Map f a) u t v y = (x : _) × (y ≡ f x) × Exceeds a u t v x
  Exceeds (Either a b) u t v x = Exceeds a u t v x ⊎ Exceeds b u t v x
  Exceeds (Maybe a) u t v x = ExceedsIfSome (Exceeds a u t v) x
  Exceeds (Many a) u t v xs = ExceedsAmong (Exceeds a) (Spells a) u t v xs
  Exceeds (Fork ks a b c) u t v x =
      -- in the first expression, of a list or behind a bracket that is a nesting
      (((w z : List Lexeme) × (v ≡ w ++ z) × Spells a (u ++ t ∷ w) x.0 × (Spells b z x.1 ⊎ Spells c z x.1) × (nestings_in nestings u ≡ max_nestings) × (is_nesting nestings t ≡ true))
      ⊎ ((w z : List Lexeme) × (v ≡ w ++ z) × Spells a (u ++ t ∷ w) x.0 × Spells c z x.1 × (suc (nestings_in nestings u) ≡ max_nestings) × (is_nesting nestings t ≡ true)))
      -- in the rest of a list, or of the expression
      ⊎ (((w z : List Lexeme) × (u ≡ w ++ z) × Spells a w x.0 × Exceeds b z t v x.1)
      ⊎ ((w z : List Lexeme) × (u ≡ w ++ z) × Spells a w x.0 × Spells c (z ++ t ∷ v) x.1 × (suc (nestings_in nestings w + nestings_in nestings z) ≡ max_nestings) × (is_nesting nestings t ≡ true)))
