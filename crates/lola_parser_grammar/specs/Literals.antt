-- What the bytes of a literal stand for.
use Rattle.std.specs.Prelude.{ℕ, ◌+◌, ◌-◌, ◌*◌, ◌^◌, min, Bool, true, false, List, [], ◌∷◌, length, take, drop, fold, count_by, not, if◌then◌else◌, ◌==◌, codes}
use Rattle.std.specs.List.{prefix_len}
use Rattle.std.specs.Str.{bytes_eq}
use Rattle.std.specs.Char.{is_ascii_digit, is_ascii_alphabetic}
use Rattle.lola_parser_grammar.specs.declared.literals.QuantityUnit.{QuantityUnit}
use Rattle.lola_parser_grammar.specs.declared.literals.QuantityUnit.TheVariants as unit

abbrev pub greatest : ℕ
greatest = 2 ^ 128 - 1

-- a number with a digit behind it; what is no digit is passed over
abbrev pub with_digit : ℕ → ℕ → ℕ
with_digit n b = if is_ascii_digit b then min (min (n * 10) greatest + (b - 48)) greatest else n

-- The number that the digits among these bytes spell. No token has so many that the limit of 128 bits counts.
abbrev pub number_of : List ℕ → ℕ
number_of z = fold with_digit 0 z

abbrev pub digits_in : List ℕ → ℕ
digits_in z = count_by is_ascii_digit z

-- how many bytes stand before the point, and how many before the first letter
abbrev pub before_point : List ℕ → ℕ
before_point z = prefix_len (λ b. not (b == 46)) z

abbrev pub before_letters : List ℕ → ℕ
before_letters z = prefix_len (λ b. not (is_ascii_alphabetic b)) z

-- how many digits stand behind the point
abbrev pub decimals_in : List ℕ → ℕ
decimals_in z = digits_in (drop (before_point z) z)

abbrev pub unit_named : List ℕ → QuantityUnit
unit_named w =
    if bytes_eq w (codes "ns") then unit.Nanoseconds
    else (if bytes_eq w (codes "us") then unit.Microseconds
    else (if bytes_eq w (codes "ms") then unit.Milliseconds
    else (if bytes_eq w (codes "s") then unit.Seconds
    else (if bytes_eq w (codes "min") then unit.Minutes
    else (if bytes_eq w (codes "h") then unit.Hours
    else (if bytes_eq w (codes "d") then unit.Days
    else (if bytes_eq w (codes "mHz") then unit.Millihertz
    else (if bytes_eq w (codes "Hz") then unit.Hertz
    else (if bytes_eq w (codes "kHz") then unit.Kilohertz else unit.Megahertz)))))))))

-- the unit that stands from the first letter on
abbrev pub unit_of : List ℕ → QuantityUnit
unit_of z = unit_named (drop (before_letters z) z)

-- the byte that a backslash and this one stand for
abbrev pub escaped : ℕ → ℕ
escaped b = if b == 110 then 10 else (if b == 114 then 13 else (if b == 116 then 9 else b))

-- with each escape as the byte that it stands for; the flag says that a backslash stands before
abbrev pub unescaped : Bool → List ℕ → List ℕ
unescaped _ [] = []
unescaped true (b ∷ z) = escaped b ∷ unescaped false z
unescaped false (b ∷ z) = if b == 92 then unescaped true z else b ∷ unescaped false z

-- what stands between the quotes
abbrev pub text_of_literal : List ℕ → List ℕ
text_of_literal z = unescaped false (take (length z - 2) (drop 1 z))
