-- What stands before a token.
use Rattle.std.specs.Prelude.{◌≡◌, ◌<◌, ℕ, Bool, true, false, ◌||◌, ◌+◌, List, [], ◌∷◌, length, slice_index_or, Option, Some, None}
use Rattle.lola_lexer.specs.declared.shape.TokenShape.{TokenShape}
use Rattle.lola_lexer.specs.declared.shape.TokenShape.TheVariants as is
use Rattle.lola_lexer.specs.declared.token.Token.{Token}
use Rattle.lola_parser_grammar.specs.Syntax.{same_shape}

-- the tokens that are counted in an expression or formula
unfoldable pub is_nesting_shape : TokenShape → Bool
is_nesting_shape is.Open = true
is_nesting_shape is.Dot = true
is_nesting_shape is.If = true
is_nesting_shape is.Not = true
is_nesting_shape is.Minus = true
is_nesting_shape is.Plus = true
is_nesting_shape is.Star = true
is_nesting_shape is.Slash = true
is_nesting_shape is.Percent = true
is_nesting_shape is.And = true
is_nesting_shape is.Or = true
is_nesting_shape is.Equal = true
is_nesting_shape is.Unequal = true
is_nesting_shape is.Less = true
is_nesting_shape is.LessEqual = true
is_nesting_shape is.Greater = true
is_nesting_shape is.GreaterEqual = true
is_nesting_shape _ = false

abbrev pub is_either : TokenShape → TokenShape → TokenShape → Bool
is_either a b s = same_shape a s || same_shape b s

-- the place in the list is that of the last token of such a shape, or there is none
abbrev pub IsLast : (TokenShape → Bool) → List Token → Option ℕ → Type 0
IsLast f ts None = (k : ℕ) (d : Token) → k < length ts → f (slice_index_or ts k d).shape ≡ false
IsLast f ts (Some i) =
    (i < length ts) × ((d : Token) → f (slice_index_or ts i d).shape ≡ true) × ((k : ℕ) (d : Token) → i < k → k < length ts → f (slice_index_or ts k d).shape ≡ false)

abbrev pub one_if : Bool → ℕ
one_if true = 1
one_if false = 0

-- how many of the tokens are nestings
abbrev pub nestings_among : List Token → ℕ
nestings_among [] = 0
nestings_among (t ∷ ts) = one_if (is_nesting_shape t.shape) + nestings_among ts
