-- What workers note of the tasks of a layer.
use Rattle.std.specs.Prelude.{ℕ, ◌≡◌, ◌+◌, ◌<◌, ◌≤◌, List, Some, IsSomeAnd, length, slice_get}
use Rattle.lola_value.specs.declared.value.Outcome.{Outcome}
use Rattle.lola_workers.specs.declared.share.Piece.{Piece}
use Rattle.lola_workers.specs.declared.share.Share.{Share}

module _ (Gives : ℕ → Outcome → Type 0) where
  -- these are outcomes that the tasks from one on may have
  abbrev pub AreFrom : ℕ → List Outcome → Type 0
  AreFrom start outcomes = (i : ℕ) → i < length outcomes → IsSomeAnd (slice_get outcomes i) (Gives (start + i))

  -- among these outcomes stand those of a piece's tasks
  pub record IsPieceOf (outcomes : List Outcome) (piece : Piece) : Type 0 where
    pub within : piece.from + piece.count ≤ length outcomes
    pub each : (i : ℕ) → i < piece.count → IsSomeAnd (slice_get outcomes (piece.from + i)) (Gives (piece.start + i))

  -- a share has outcomes that the tasks of its pieces may have
  abbrev pub IsShare : Share → Type 0
  IsShare share = (n : ℕ) (piece : Piece) → slice_get share.pieces.items n ≡ Some piece → IsPieceOf share.outcomes.items piece

  -- each of these shares
  abbrev pub AreShares : List Share → Type 0
  AreShares shares = (n : ℕ) (share : Share) → slice_get shares n ≡ Some share → IsShare share
