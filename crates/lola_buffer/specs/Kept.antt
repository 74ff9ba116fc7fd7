-- What a buffer holds.
use Rattle.std.specs.Prelude.{ℕ, ◌-◌, List, Option, None, length, slice_get, nat_lt, if◌then◌else◌}
use Rattle.lola_value.specs.declared.value.Value.{Value}

-- the last values, the oldest first, and how many there may be
pub record Kept : Type 0 where
  pub values : List Value
  pub capacity : ℕ

-- these values, and so many at most
abbrev pub kept : List Value → ℕ → Kept
kept values capacity = record { values = values; capacity = capacity }

-- what stands k places before the newest one, which is the last of the list
abbrev pub before_newest : {X : Type 0} → ℕ → List X → Option X
before_newest k xs = if nat_lt k (length xs) then slice_get xs (length xs - k - 1) else None
