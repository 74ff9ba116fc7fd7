-- Cells of instances in order of birth. The cell of one that is closed stays, empty, until the others move up.
use Rattle.std.specs.Prelude.{ℕ, zero, suc, ◌≡◌, ◌+◌, ◌≤◌, Bool, true, false, List, [], ◌∷◌, Option, Some, None, length, slice_get, IsTrue}
use Rattle.lola_instances_one.specs.Bits.{ones}
use Rattle.lola_value.specs.Kinds.{is_well_formed}
use Rattle.lola_instances_one.specs.Holdings.{Holdings}
use Rattle.lola_instances_stream.specs.Listings.{Listing, cell_of}

-- the instances that live, in order of birth
abbrev pub living : List (Option Holdings) → List Holdings
living [] = []
living (None ∷ cs) = living cs
living (Some s ∷ cs) = s ∷ living cs

-- an instance is in the cell of a number, at a place among those that live
abbrev pub StandsIn : List (Option Holdings) → ℕ → ℕ → Holdings → Type 0
StandsIn [] cell place s = ⊥
StandsIn (None ∷ cs) zero place s = ⊥
StandsIn (None ∷ cs) (suc cell) place s = StandsIn cs cell place s
StandsIn (Some x ∷ cs) zero zero s = x ≡ s
StandsIn (Some x ∷ cs) zero (suc place) s = ⊥
StandsIn (Some x ∷ cs) (suc cell) zero s = ⊥
StandsIn (Some x ∷ cs) (suc cell) (suc place) s = StandsIn cs cell place s

-- there is an instance in a cell
abbrev pub IsTaken : Option (Option Holdings) → Type 0
IsTaken None = ⊥
IsTaken (Some None) = ⊥
IsTaken (Some (Some s)) = Unit {0}

-- bits say which cells are taken, and none is set behind them
abbrev pub AreFlagged : List (Option Holdings) → List Bool → Type 0
AreFlagged [] bits = ones bits ≡ 0
AreFlagged (c ∷ cs) [] = ⊥
AreFlagged (None ∷ cs) (b ∷ bits) = (b ≡ false) × AreFlagged cs bits
AreFlagged (Some s ∷ cs) (b ∷ bits) = (b ≡ true) × AreFlagged cs bits

-- where a table is kept, it lists each of these instances in its cell
abbrev pub AreListed : List (Option Holdings) → Listing → Type 0
AreListed cells table = table.is_kept ≡ true → (cell : ℕ) (s : Holdings) → slice_get cells cell ≡ Some (Some s) → cell_of s.params table.entries ≡ Some cell

-- the parameters of each are well-formed
abbrev pub AreFormed : List (Option Holdings) → Type 0
AreFormed cells = (cell : ℕ) (s : Holdings) → slice_get cells cell ≡ Some (Some s) → IsTrue (is_well_formed s.params)

-- what is known of cells by their bits and in their table
pub record AreKnown (cells : List (Option Holdings)) (bits : List Bool) (table : Listing) : Type 0 where
  pub flagged : AreFlagged cells bits
  pub formed : AreFormed cells
  pub listed : AreListed cells table

-- an instance became another one with the same parameters
pub record IsSlotChanged (R : Holdings → Holdings → Type 0) (old new : Option Holdings) : Type 0 where
  pub x : Holdings
  pub y : Holdings
  pub was : old ≡ Some x
  pub is : new ≡ Some y
  pub params : y.params ≡ x.params
  pub related : R x y

-- what others see of cells: the instances that live, how many there is room for, whether a table of them is kept, and how many more it
-- has room for
pub record Line : Type 0 where
  pub items : List Holdings
  pub capacity : ℕ
  pub is_kept : Bool
  pub room : ℕ

-- so many cells are empty, and there is memory for as many as are said to have room
pub record IsLine (cells : List (Option Holdings)) (bits : List Bool) (table : Listing) (empty capacity memory : ℕ) : Type 0 where
  pub known : AreKnown cells bits table
  pub count : empty + length (living cells) ≡ length cells
  pub room : capacity ≤ memory
  pub long : capacity ≤ length bits
