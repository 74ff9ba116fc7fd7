-- Words that are told apart by their numbers.
use Rattle.std.specs.Prelude.{ℕ, List, [], slice_get, unwrap_or}

-- the word of a number, counted from 0; where there is none it is empty
abbrev pub word_at : List (List ℕ) → ℕ → List ℕ
word_at words n = unwrap_or (slice_get words n) []
