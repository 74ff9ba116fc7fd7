-- Times: how they are read, in seconds, and how they are printed.
use Rattle.std.specs.Prelude.{ℕ, ◌+◌, ◌-◌, ◌*◌, ◌/◌, ◌%◌, List, [], ◌∷◌, ◌++◌, Option, Some, None, Bool, ◌&&◌, if◌then◌else◌, nat_eq, nat_lt, nat_le, length, replicate, take, decimal}
use Rattle.std.specs.List.{list_all, before_first, after_first}

-- nine digits
abbrev pub nine_digits : ℕ → List ℕ
nine_digits n = replicate (9 - length (decimal n)) 48 ++ decimal n

-- whole seconds, a point and nine digits
abbrev pub time_text : ℕ → List ℕ
time_text t = decimal (t / 1000000000) ++ (46 ∷ nine_digits (t % 1000000000))

-- the greatest time and duration, in nanoseconds
abbrev pub latest : ℕ
latest = 4000000000000000000

-- the byte of a decimal digit
abbrev pub is_digit : ℕ → Bool
is_digit b = nat_le 48 b && nat_le b 57

-- the byte of a point
abbrev pub is_point : ℕ → Bool
is_point b = nat_eq b 46

-- the number with these digits behind those of n
abbrev pub number_after : ℕ → List ℕ → ℕ
number_after n [] = n
number_after n (d ∷ ds) = number_after (n * 10 + (d - 48)) ds

-- the number that digits spell
abbrev pub number_of : List ℕ → ℕ
number_of digits = number_after 0 digits

-- digits of whole seconds, and decimals of which those past nine are dropped
abbrev pub nanoseconds : List ℕ → List ℕ → ℕ
nanoseconds whole decimals = number_of whole * 1000000000 + number_of (take 9 (decimals ++ replicate 9 48))

-- a time, where it is no greater than the greatest
abbrev pub up_to_latest : ℕ → Option ℕ
up_to_latest t = if nat_le t latest then Some t else None

-- digits with at most one point among them, and one digit at least
abbrev pub is_time : List ℕ → List ℕ → Bool
is_time whole decimals = (list_all is_digit whole && list_all is_digit decimals) && nat_lt 0 (length whole + length decimals)

-- the time that a field spells, if it spells one
abbrev pub read_time : List ℕ → Option ℕ
read_time field =
    if is_time (before_first is_point field) (after_first is_point field)
    then up_to_latest (nanoseconds (before_first is_point field) (after_first is_point field))
    else None
