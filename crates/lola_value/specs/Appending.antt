-- What is left of a call that appends to a text and finds no memory on the way.
use Rattle.std.specs.Prelude.{ℕ, List, ◌≡◌, ◌++◌}

-- of a whole that was to be appended, the first part was, and nothing else changed
pub record AppendsPart (old new whole : List ℕ) : Type 0 where
  pub part : List ℕ
  pub rest : List ℕ
  pub joined : whole ≡ part ++ rest
  pub appended : new ≡ old ++ part
