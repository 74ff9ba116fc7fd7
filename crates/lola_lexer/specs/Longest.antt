-- The longest token at the front of a text, and what stands between tokens.
use Rattle.std.specs.Prelude.{◌≡◌, ℕ, ◌+◌, ◌<◌, ◌≤◌, ◌⊎◌, Bool, true, false, ◌&&◌, ◌||◌, ◌==◌, [], ◌∷◌, ◌++◌, length, take, drop, slice_index, codes}
use Rattle.std.specs.Char.{is_ascii_digit}
use Rattle.std.specs.List.{AllPass}
use Rattle.std.specs.Str.{IsUtf8}
use Rattle.lola_lexer.specs.Spelling.{Bytes, is_blank, in_name, in_line, IsToken}
use Rattle.lola_lexer.specs.declared.shape.TokenShape.{TokenShape}
use Rattle.lola_lexer.specs.declared.shape.TokenShape.TheVariants as is
use Rattle.lola_lexer.specs.declared.scan.thing.Thing.{Thing}
use Rattle.lola_lexer.specs.declared.scan.thing.Thing.TheVariants as thing

-- A number is not cut: behind its digits stands no digit, letter or `_`, and no point with a digit; behind its unit no
-- letter, digit or `_`. The two bytes are those behind it, 0 where there is none.
abbrev pub NumberEnds : TokenShape → ℕ → ℕ → Type 0
NumberEnds is.Integer c d = (in_name c ≡ false) × ((c == 46 && is_ascii_digit d) ≡ false)
NumberEnds is.Quantity c d = in_name c ≡ false
NumberEnds _ c d = Unit {0}

abbrev pub BeginsComment : Bytes → Type 0
BeginsComment z = ((v : Bytes) × (z ≡ codes "//" ++ v)) ⊎ ((v : Bytes) × (z ≡ codes "/*" ++ v))

-- The front of so many bytes is a token, and no longer front is one. Where a comment begins there is none, and a number
-- is not cut.
pub record IsLongest (z : Bytes) (s : TokenShape) (n : ℕ) : Type 0 where
  pub fits : n ≤ length z
  pub token : IsToken s (take n z)
  pub longest : (m : ℕ) (other : TokenShape) → n < m → m ≤ length z → IsToken other (take m z) → ⊥
  pub no_comment : BeginsComment z → ⊥
  pub number : NumberEnds s (slice_index z n) (slice_index z (n + 1))

-- whether two bytes that stand directly behind a token make it another or a longer one, or none; 0 where there is no byte
abbrev pub goes_on : TokenShape → ℕ → ℕ → Bool
goes_on is.Integer c d = in_name c || (c == 46 && is_ascii_digit d)
goes_on is.Text c d = false
goes_on is.Define c d = false
goes_on is.Colon c d = c == 61
goes_on is.Comma c d = false
goes_on is.Open c d = false
goes_on is.Shut c d = false
goes_on is.Dot c d = false
goes_on is.At c d = false
goes_on is.Plus c d = false
goes_on is.Minus c d = false
goes_on is.Star c d = false
goes_on is.Slash c d = c == 47 || c == 42
goes_on is.Percent c d = false
goes_on is.Not c d = c == 61
goes_on is.And c d = false
goes_on is.Or c d = false
goes_on is.Equal c d = false
goes_on is.Unequal c d = false
goes_on is.Less c d = c == 61
goes_on is.LessEqual c d = false
goes_on is.Greater c d = c == 61
goes_on is.GreaterEqual c d = false
goes_on _ c d = in_name c

-- a token of so many bytes stands at the front, and what is behind it leaves it so
pub record StandsAt (z : Bytes) (s : TokenShape) (n : ℕ) : Type 0 where
  pub fits : n ≤ length z
  pub some : 1 ≤ n
  pub token : IsToken s (take n z)
  pub ends : goes_on s (slice_index z n) (slice_index z (n + 1)) ≡ false

-- ---- what stands between tokens

-- a comment up to the end of its line, with what is behind it
abbrev pub EndsLine : Bytes → Type 0
EndsLine [] = Unit {0}
EndsLine (b ∷ z) = b ≡ 10

pub record IsLineComment (w rest : Bytes) : Type 0 where
  pub inner : Bytes
  pub spelled : w ≡ codes "//" ++ inner
  pub in_one_line : AllPass in_line inner
  pub ends : EndsLine rest
  pub utf8 : IsUtf8 w

-- it ends with `*/`, and there is no other `*/` in it
pub record IsClosed (u : Bytes) : Type 0 where
  pub inner : Bytes
  pub spelled : u ≡ inner ++ codes "*/"
  pub first : (p q : Bytes) → u ≡ p ++ (codes "*/" ++ q) → q ≡ []

-- a comment up to the next `*/`, which shares no byte with its `/*`
pub record IsBlockComment (w : Bytes) : Type 0 where
  pub behind : Bytes
  pub spelled : w ≡ codes "/*" ++ behind
  pub closed : IsClosed behind
  pub utf8 : IsUtf8 w

abbrev pub IsBlank : Bytes → Type 0
IsBlank w = (b : ℕ) × (w ≡ b ∷ []) × (is_blank b ≡ true)

-- a blank or a comment, with what is behind it
abbrev pub IsGap : Bytes → Bytes → Type 0
IsGap w rest = IsBlank w ⊎ (IsLineComment w rest ⊎ IsBlockComment w)

pub record GapAt (z : Bytes) (n : ℕ) : Type 0 where
  pub fits : n ≤ length z
  pub some : 1 ≤ n
  pub gap : IsGap (take n z) (drop n z)

-- what is found at the front stands there
abbrev pub IsSound : Bytes → Thing → Type 0
IsSound z (thing.Gap n) = GapAt z n
IsSound z (thing.Token s n) = StandsAt z s n
IsSound z thing.Bad = Unit {0}
