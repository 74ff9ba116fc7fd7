-- What the tokens of a specification are, and what may stand between them.
use Rattle.std.specs.Prelude.{◌≡◌, ◌≢◌, ℕ, ◌+◌, ◌<◌, ◌≤◌, ◌⊎◌, Bool, true, not, ◌||◌, ◌==◌, List, [], ◌∷◌, ◌++◌, length, slice_index, All, codes}
use Rattle.std.specs.Char.{is_ascii_digit, is_ascii_alphabetic, is_ascii_alphanumeric}
use Rattle.std.specs.List.{AllPass, Contains, concat}
use Rattle.std.specs.Str.{IsUtf8}
use Rattle.lola_lexer.specs.declared.shape.TokenShape.{TokenShape}
use Rattle.lola_lexer.specs.declared.shape.TokenShape.TheVariants as is

abbrev pub Bytes : Type 0
Bytes = List ℕ

-- ---- classes of bytes

-- space, tab, LF, CR
abbrev pub is_blank : ℕ → Bool
is_blank b = b == 32 || b == 9 || b == 10 || b == 13

-- a letter or `_`
abbrev pub begins_name : ℕ → Bool
begins_name b = is_ascii_alphabetic b || b == 95

-- a letter, a digit or `_`
abbrev pub in_name : ℕ → Bool
in_name b = is_ascii_alphanumeric b || b == 95

abbrev pub in_line : ℕ → Bool
in_line b = not (b == 10)

-- what may stand behind a backslash: `"`, `\`, n, r, t
abbrev pub is_escape : ℕ → Bool
is_escape b = b == 34 || b == 92 || b == 110 || b == 114 || b == 116

-- what stands for itself in a text: all but `"`, `\`, LF, CR
abbrev pub is_plain : ℕ → Bool
is_plain b = not (b == 34 || b == 92 || b == 10 || b == 13)

-- ---- reserved words and signs

abbrev pub spelling : TokenShape → Bytes
spelling is.Input = codes "input"
spelling is.Output = codes "output"
spelling is.Constant = codes "constant"
spelling is.Trigger = codes "trigger"
spelling is.Spawn = codes "spawn"
spelling is.Eval = codes "eval"
spelling is.Close = codes "close"
spelling is.With = codes "with"
spelling is.When = codes "when"
spelling is.If = codes "if"
spelling is.Then = codes "then"
spelling is.Else = codes "else"
spelling is.True = codes "true"
spelling is.False = codes "false"
spelling is.Define = codes ":="
spelling is.Colon = codes ":"
spelling is.Comma = codes ","
spelling is.Open = codes "("
spelling is.Shut = codes ")"
spelling is.Dot = codes "."
spelling is.At = codes "@"
spelling is.Plus = codes "+"
spelling is.Minus = codes "-"
spelling is.Star = codes "*"
spelling is.Slash = codes "/"
spelling is.Percent = codes "%"
spelling is.Not = codes "!"
spelling is.And = codes "&&"
spelling is.Or = codes "||"
spelling is.Equal = codes "=="
spelling is.Unequal = codes "!="
spelling is.Less = codes "<"
spelling is.LessEqual = codes "<="
spelling is.Greater = codes ">"
spelling is.GreaterEqual = codes ">="
spelling is.Name = []
spelling is.Integer = []
spelling is.Quantity = []
spelling is.Text = []

-- the words that are no names
abbrev pub reserved : List TokenShape
reserved =
    is.Input ∷ is.Output ∷ is.Constant ∷ is.Trigger ∷ is.Spawn ∷ is.Eval ∷ is.Close
    ∷ is.With ∷ is.When ∷ is.If ∷ is.Then ∷ is.Else ∷ is.True ∷ is.False ∷ []

-- ---- names

abbrev pub IsWord : Bytes → Type 0
IsWord w = (begins_name (slice_index w 0) ≡ true) × AllPass in_name w

abbrev pub IsName : Bytes → Type 0
IsName w = IsWord w × All (λ s. w ≢ spelling s) reserved

-- ---- numbers

abbrev pub IsDigits : Bytes → Type 0
IsDigits w = (0 < length w) × AllPass is_ascii_digit w

-- of time, and of frequency
abbrev pub units : List Bytes
units =
    codes "ns" ∷ codes "us" ∷ codes "ms" ∷ codes "s" ∷ codes "min" ∷ codes "h" ∷ codes "d"
    ∷ codes "mHz" ∷ codes "Hz" ∷ codes "kHz" ∷ codes "MHz" ∷ []

-- no point, where no digits stand behind it
abbrev pub pointed : Bytes → Bytes
pointed [] = []
pointed (d ∷ ds) = 46 ∷ d ∷ ds

pub record IsQuantity (w : Bytes) : Type 0 where
  pub whole : Bytes
  pub fraction : Bytes
  pub unit : Bytes
  pub spelled : w ≡ whole ++ (pointed fraction ++ unit)
  pub digits : IsDigits whole
  pub fraction_digits : AllPass is_ascii_digit fraction
  pub few : length whole + length fraction ≤ 38
  pub is_unit : Contains units unit

-- ---- texts

-- a byte that stands for itself, or a backslash and what may stand behind it
abbrev pub IsPiece : Bytes → Type 0
IsPiece p = ((b : ℕ) × (p ≡ b ∷ []) × (is_plain b ≡ true)) ⊎ ((b : ℕ) × (p ≡ 92 ∷ b ∷ []) × (is_escape b ≡ true))

pub record IsText (w : Bytes) : Type 0 where
  pub pieces : List Bytes
  pub spelled : w ≡ 34 ∷ (concat pieces ++ 34 ∷ [])
  pub each : All IsPiece pieces
  pub utf8 : IsUtf8 w

-- ---- all tokens

abbrev pub IsToken : TokenShape → Bytes → Type 0
IsToken is.Name w = IsName w
IsToken is.Integer w = IsDigits w × (length w ≤ 38)
IsToken is.Quantity w = IsQuantity w
IsToken is.Text w = IsText w
IsToken s w = w ≡ spelling s
