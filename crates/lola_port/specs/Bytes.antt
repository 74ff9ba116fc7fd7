-- Which bytes a writer took, and which came into a piece.
use Rattle.std.specs.Prelude.{◌≡◌, ℕ, ◌+◌, ◌<◌, List, ◌++◌, length}
use Rattle.std.specs.Io.KnownBytes.{Appends, Consumes, IsAtEnd}
use Rattle.std.specs.declared.option.Option.{Option}
use Rattle.lola_port.specs.States.{IsProperPart}

-- what a writer holds grew by a front of the bytes, and not by the whole
pub record AppendsPart (old new : Option (List ℕ)) (bytes : List ℕ) : Type 0 where
  pub part : List ℕ
  pub is_part : IsProperPart part bytes
  pub taken : Appends old new part

-- a piece: the bytes that are still to be moved, and for how many more there is room behind them
pub record PieceState : Type 0 where
  pub bytes : List ℕ
  pub room : ℕ

-- so many bytes came from a reader, whose bytes left are told before and after, behind those that a piece had; where
-- there was room none came only at the end
pub record IsFilled (old new : PieceState) (before after : Option (List ℕ)) (count : ℕ) : Type 0 where
  pub come : List ℕ
  pub many : length come ≡ count
  pub taken : Consumes before after come
  pub behind : new.bytes ≡ old.bytes ++ come
  pub room : new.room + count ≡ old.room
  pub end : count ≡ 0 → 0 < old.room → IsAtEnd after
