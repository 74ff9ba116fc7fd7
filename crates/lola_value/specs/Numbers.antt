-- Numbers in decimal.
use Rattle.std.specs.Prelude.{ℕ, ℤ, pos, negsuc, ◌+◌, List, ◌∷◌, decimal}

-- the digits of a number, after a minus sign where it is negative
abbrev pub integer_text : ℤ → List ℕ
integer_text (pos n) = decimal n
integer_text (negsuc n) = 45 ∷ decimal (n + 1)
