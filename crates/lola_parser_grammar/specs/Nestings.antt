-- How nestings bound what is read.
use Rattle.std.specs.Prelude.{◌≡◌, ℕ, zero, suc, ◌+◌, ◌≤◌, Bool, true, false, not, ◌&&◌, min, List, [], ◌∷◌, ◌++◌, ◌⊎◌}
use Rattle.lola_parser_grammar.specs.Syntax.{Lexeme, Terminal, Syntax, Past, Token, Nesting, Whole, Known, Then, Map, Either, Maybe, Many, Fork, any_fits, clashes, listed, within, starts, first, Spells, Repeats, Perhaps, Begins, fits, max_nestings}

abbrev pub lower : ℕ → ℕ → ℕ
lower k zero = k
lower zero (suc j) = zero
lower (suc k) (suc j) = lower k j

abbrev pub none_left : ℕ → Bool
none_left zero = true
none_left (suc k) = false

-- no sentence has fewer nestings
unfoldable pub least : {A : Type 0} → Syntax A → ℕ
least (Past a) = 0
least (Token k) = 0
least (Nesting k) = 1
least (Whole a) = 0
least (Known fs ms a) = 0
least (Then a b) = least a + least b
least (Map f a) = least a
least (Either a b) = min (least a) (least b)
least (Maybe a) = 0
least (Many a) = 0
least (Fork ks a b c) = 0

-- at least so many nestings are read before what is too deep
unfoldable pub guards : {A : Type 0} → ℕ → Syntax A → Bool
guards k (Past a) = none_left k
guards k (Token t) = true
guards k (Nesting t) = true
guards k (Whole a) = false
guards k (Known fs ms a) = guards k a
guards k (Then a b) = guards k a && guards (lower k (least a)) b
guards k (Map f a) = guards k a
guards k (Either a b) = guards k a && guards k b
guards k (Maybe a) = guards k a
guards k (Many a) = guards k a
guards k (Fork ks a b c) = false

module _ (nestings : List Terminal) where
  abbrev pub is_nesting : Lexeme → Bool
  is_nesting t = any_fits nestings t

  abbrev pub one_if : Bool → ℕ
  one_if true = 1
  one_if false = 0

  abbrev pub nestings_in : List Lexeme → ℕ
  nestings_in [] = 0
  nestings_in (t ∷ ts) = one_if (is_nesting t) + nestings_in ts

  -- it counts each nesting, and nothing else
  unfoldable pub tallies : {A : Type 0} → Syntax A → Bool
  tallies (Past a) = tallies a
  tallies (Token k) = not (clashes k nestings)
  tallies (Nesting k) = listed k nestings
  tallies (Whole a) = false
  tallies (Known fs ms a) = tallies a
  tallies (Then a b) = tallies a && tallies b
  tallies (Map f a) = tallies a
  tallies (Either a b) = tallies a && tallies b
  tallies (Maybe a) = tallies a
  tallies (Many a) = tallies a
  tallies (Fork ks a b c) = false

  -- `max_nestings` nestings of a whole expression stand before the token, which is one too, in some sentence that begins so
  abbrev pub IsFull : {A : Type 0} → Syntax A → List Lexeme → Lexeme → Type 0
  IsFull a u t = (nestings_in u ≡ max_nestings) × (is_nesting t ≡ true) × Begins a (u ++ t ∷ [])

  -- the same behind a bracket and v, where the bracket is a nesting and what follows v goes the expression on
  abbrev pub IsFullBehind : {A B : Type 0} → Syntax A → Syntax B → List Lexeme → Lexeme → Type 0
  IsFullBehind {A} a c u t = (v w : List Lexeme) × (y : A) × (u ≡ v ++ w) × Spells a v y × (suc (nestings_in v + nestings_in w) ≡ max_nestings) × (is_nesting t ≡ true) × Begins c (w ++ t ∷ [])

  -- the same where the token behind the part shows only that the bracket was a nesting: it is the last nesting of the part
  abbrev pub IsFullAfterAll : {A B : Type 0} → Syntax A → Syntax B → List Lexeme → Lexeme → List Lexeme → Type 0
  IsFullAfterAll {A} a c u t rest =
      (w r : List Lexeme) × (y : A) × (rest ≡ w ++ r) × Spells a (u ++ t ∷ w) y × (suc (nestings_in u) ≡ max_nestings) × (is_nesting t ≡ true) × (nestings_in w ≡ 0) × (starts (first c) r ≡ true)

  -- the token, with these tokens behind it, is one nesting too many of a whole expression, in some sentence that begins so
  unfoldable pub IsOver : {A : Type 0} → Syntax A → List Lexeme → Lexeme → List Lexeme → Type 0
  IsOver (Past a) u t rest = ⊥
  IsOver (Token k) u t rest = ⊥
  IsOver (Nesting k) u t rest = ⊥
  IsOver (Whole a) u t rest = IsFull a u t
  IsOver (Known fs ms a) u t rest = IsOver a u t rest
  IsOver (Then a b) u t rest = IsOver a u t rest ⊎ ((v w : List Lexeme) × (y : _) × (u ≡ v ++ w) × Spells a v y × IsOver b w t rest)
  IsOver (Map f a) u t rest = IsOver a u t rest
  IsOver (Either a b) u t rest = IsOver a u t rest ⊎ IsOver b u t rest
  IsOver (Maybe a) u t rest = IsOver a u t rest
  IsOver (Many a) u t rest = (v w : List Lexeme) × (xs : List _) × (u ≡ v ++ w) × Repeats (Spells a) v xs × IsOver a w t rest
  IsOver (Fork ks a b c) u t rest =
      (IsFull a u t ⊎ ((v w : List Lexeme) × (y : _) × (u ≡ v ++ w) × Spells a v y × IsOver b w t rest)) ⊎ (IsFullBehind a c u t ⊎ IsFullAfterAll a c u t rest)

  -- nestings stand in whole expressions alone, and each of those is counted and guarded
  unfoldable pub is_counted : {A : Type 0} → Syntax A → Bool
  is_counted (Past a) = false
  is_counted (Token k) = true
  is_counted (Nesting k) = false
  is_counted (Whole a) = tallies a && guards (suc max_nestings) a
  is_counted (Known fs ms a) = is_counted a
  is_counted (Then a b) = is_counted a && is_counted b
  is_counted (Map f a) = is_counted a
  is_counted (Either a b) = is_counted a && is_counted b
  is_counted (Maybe a) = is_counted a
  is_counted (Many a) = is_counted a
  is_counted (Fork ks a b c) = tallies a && (guards (suc max_nestings) a && (is_counted b && (tallies c && (guards (suc max_nestings) c && (within ks nestings && within nestings ks)))))

  -- the tokens are a sentence of it, with this value, and no whole expression has more nestings than may come
  unfoldable pub Fits : {A : Type 0} → Syntax A → List Lexeme → A → Type 0
  Fits (Past a) ts x = Fits a ts x
  Fits (Token k) ts x = (ts ≡ x ∷ []) × (fits k x ≡ true)
  Fits (Nesting k) ts x = (ts ≡ x ∷ []) × (fits k x ≡ true)
  Fits (Whole a) ts x = Spells a ts x × (nestings_in ts ≤ max_nestings)
  Fits (Known fs ms a) ts x = Fits a ts x
  Fits (Then a b) ts x = (u v : List Lexeme) × (ts ≡ u ++ v) × Fits a u x.0 × Fits b v x.1
  Fits (Map f a) ts y = (x : _) × (y ≡ f x) × Fits a ts x
  Fits (Either a b) ts x = Fits a ts x ⊎ Fits b ts x
  Fits (Maybe a) ts x = Perhaps (Fits a) ts x
  Fits (Many a) ts xs = Repeats (Fits a) ts xs
  Fits (Fork ks a b c) ts x = (u v : List Lexeme) × (ts ≡ u ++ v) × Spells a u x.0
      × (((nestings_in u ≤ max_nestings) × Fits b v x.1) ⊎ ((suc (nestings_in u + nestings_in v) ≤ max_nestings) × Spells c v x.1))
