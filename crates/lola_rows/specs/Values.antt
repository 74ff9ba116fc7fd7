-- The value that a field spells.
use Rattle.std.specs.Prelude.{ℕ, ℤ, pos, neg_ℤ, ◌+◌, ◌-◌, ◌*◌, ◌^◌, List, [], ◌∷◌, Option, Some, None, option_map, Bool, true, false, ◌&&◌, ◌||◌, if◌then◌else◌, nat_eq, nat_lt, length, codes}
use Rattle.std.specs.List.{list_all}
use Rattle.lola_value.specs.declared.value.Kind.{Kind}
use Rattle.lola_value.specs.declared.text.Field.{Field}
use Rattle.lola_value.specs.declared.text.Field.TheVariants as field
use Rattle.lola_value.specs.Arithmetic.{bytes_equal, is_within}
use Rattle.lola_value.specs.Kinds.{is_bool, is_text}
use Rattle.lola_value.specs.Times.{is_digit, number_of}
use Rattle.lola_rows.specs.Blanks.{trimmed}

abbrev pub and_then : {X Y : Type 0} → Option X → (X → Option Y) → Option Y
and_then None f = None
and_then (Some x) f = f x

-- the number of digits, of which there is one at least
abbrev pub read_digits : List ℕ → Option ℕ
read_digits digits = if list_all is_digit digits && nat_lt 0 (length digits) then Some (number_of digits) else None

-- digits, with or without a sign before them
abbrev pub read_integer : List ℕ → Option ℤ
read_integer [] = None
read_integer (b ∷ bs) =
    if nat_eq b 45 then option_map (λ n. neg_ℤ (pos n)) (read_digits bs)
    else if nat_eq b 43 then option_map (λ n. pos n) (read_digits bs)
    else option_map (λ n. pos n) (read_digits (b ∷ bs))

-- a number, where its kind has it
abbrev pub in_range : Kind → ℤ → Option ℤ
in_range k z = if is_within k z then Some z else None

-- a number of a kind
abbrev pub read_number : Kind → List ℕ → Option ℤ
read_number k text = and_then (read_integer text) (in_range k)

-- a truth value
abbrev pub read_truth : List ℕ → Option Bool
read_truth text = if bytes_equal text (codes "true") then Some true else if bytes_equal text (codes "false") then Some false else None

-- a field without a value: empty, or `#`
abbrev pub is_absent : List ℕ → Bool
is_absent text = bytes_equal text [] || bytes_equal text (codes "#")

-- a truth value or a number, from its bytes without blanks around them
abbrev pub read_plain : Kind → List ℕ → Option Field
read_plain k text = if is_bool k then option_map (λ b. field.Bool b) (read_truth text) else option_map (λ z. field.Int z) (read_number k text)

-- a text as it stands; a truth value or a number without the blanks around it; none where the field is no value of the kind
abbrev pub read_value : Kind → List ℕ → Option Field
read_value k text =
    if is_text k then (if is_absent text then Some field.Absent else Some (field.Text text))
    else if is_absent (trimmed text) then Some field.Absent
    else read_plain k (trimmed text)

-- a number that is below a bound
abbrev pub below : ℕ → Option ℕ → Option ℕ
below bound None = None
below bound (Some n) = if nat_lt n bound then Some n else None

-- the number of digits, where it is below a bound
abbrev pub read_below : ℕ → List ℕ → Option ℕ
read_below bound digits = below bound (read_digits digits)

-- a number with one more digit at its end
abbrev pub digit_after : ℕ → ℕ → Option ℕ
digit_after n b = if is_digit b then Some (n * 10 + (b - 48)) else None

-- digits, with or without a sign before them, of a number below 2^64
abbrev pub small_integer : List ℕ → Option ℤ
small_integer [] = None
small_integer (b ∷ bs) =
    if nat_eq b 45 then option_map (λ n. neg_ℤ (pos n)) (read_below (2 ^ 64) bs)
    else if nat_eq b 43 then option_map (λ n. pos n) (read_below (2 ^ 64) bs)
    else option_map (λ n. pos n) (read_below (2 ^ 64) (b ∷ bs))
