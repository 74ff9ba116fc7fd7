-- Rows of several sources, in rounds.
use Rattle.std.specs.Prelude.{ℕ, zero, suc, ◌≡◌, ◌<◌, ◌≤◌, List, [], ◌∷◌, ◌++◌, map, slice_get, length}
use Rattle.std.specs.Option.{option_to_list}
use Rattle.lola_model.specs.declared.journal.Row.{Row}
use Rattle.lola_model.specs.declared.journal.Entry.{Entry}

-- the row at this place of a list, if there is one
abbrev pub row_at : ℕ → List Row → List Row
row_at n rows = option_to_list (slice_get rows n)

-- the row at this place of each list that has one
abbrev pub round_of : ℕ → List (List Row) → List Row
round_of n [] = []
round_of n (rows ∷ lists) = row_at n rows ++ round_of n lists

-- the first rows of all, then the second ones, and so on, for so many rounds
abbrev pub in_rounds : ℕ → List (List Row) → List Row
in_rounds zero lists = []
in_rounds (suc n) lists = in_rounds n lists ++ round_of n lists

-- the rows of a journal are the first of these lists' rows in rounds
pub record AreFirst (lists : List (List Row)) (journal : List Entry) : Type 0 where
  pub rounds : ℕ
  pub rest : List Row
  pub joined : in_rounds rounds lists ≡ map (λ e. e.row) journal ++ rest

module _ (rows_of : ℕ → List Row) where
  -- the rows at this place of the first so many sources
  abbrev pub turns : ℕ → ℕ → List Row
  turns n zero = []
  turns n (suc s) = turns n s ++ row_at n (rows_of s)

  -- the rows of so many sources, for so many rounds
  abbrev pub rounds : ℕ → ℕ → List Row
  rounds sources zero = []
  rounds sources (suc n) = rounds sources n ++ turns n sources

-- in this round it is the turn of a source: rows came in rounds, a source that goes on gave one in each, and no other gave more
pub record InTurn (sources round turn : ℕ) (goes_on : ℕ → Type 0) (rows_of : ℕ → List Row) (rows : List Row) : Type 0 where
  pub joined : rows ≡ rounds rows_of sources round ++ turns rows_of round turn
  pub before : (s : ℕ) → s < turn → s < sources → goes_on s → length (rows_of s) ≡ suc round
  pub behind : (s : ℕ) → turn ≤ s → s < sources → goes_on s → length (rows_of s) ≡ round
  pub most_before : (s : ℕ) → s < turn → s < sources → length (rows_of s) ≤ suc round
  pub most_behind : (s : ℕ) → turn ≤ s → s < sources → length (rows_of s) ≤ round
