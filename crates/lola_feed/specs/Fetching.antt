-- Sources that are fetched one after another: what was done so far.
use Rattle.std.specs.Prelude.{◌≡◌, ℕ, ◌+◌, List, [], ◌∷◌, ◌++◌, Option, Some, Result, Ok, Err, map, length, take, slice_get}
use Rattle.lola_port.specs.Asks.{given_ask}
use Rattle.lola_port.specs.States.{FetchBroke, ShelfState}
use Rattle.lola_rows.specs.Reading.{Shape}
use Rattle.lola_feed.specs.Feeding.{Working}
use Rattle.lola_feed.specs.Lending.{IsLentTo}
use Rattle.lola_feed.specs.declared.sources.FetchStop.{FetchStop}
use Rattle.lola_feed.specs.declared.sources.FetchStop.TheVariants as fetch

-- a worker for each name and room, in their order, over sources whose places go up from a number
abbrev pub AreLentTo : (List ℕ → Option (List ℕ)) → ℕ → List (List ℕ) → List Shape → List Working → Type 0
AreLentTo told place [] [] [] = Unit {0}
AreLentTo told place (name ∷ names) (room ∷ rooms) (worker ∷ workers) = IsLentTo told place name room worker × AreLentTo told (place + 1) names rooms workers
AreLentTo told place names rooms workers = ⊥

-- the shelf has lent a source for each name so far
pub record HasLent (names : List (List ℕ)) (rooms : List Shape) (before after : ShelfState) (workers : List Working) : Type 0 where
  pub told : after.told ≡ before.told
  pub asks : after.asks ≡ before.asks ++ map given_ask names
  pub count : after.count ≡ before.count
  pub out : after.out ≡ before.out + length names
  pub lent : AreLentTo before.told (length before.asks) names rooms workers

-- the name at a place was not given, after all before it were
pub record HasBroken (at : ℕ) (names : List (List ℕ)) (rooms : List Shape) (before after : ShelfState) (workers : List Working) : Type 0 where
  pub name : List ℕ
  pub is : slice_get names at ≡ Some name
  pub mid : ShelfState
  pub lent : HasLent (take at names) (take at rooms) before mid workers
  pub broke : FetchBroke mid after name

-- there was no memory, after so many were given
pub record HasRunOut (names : List (List ℕ)) (rooms : List Shape) (before after : ShelfState) (workers : List Working) : Type 0 where
  pub asked : ℕ
  pub lent : HasLent (take asked names) (take asked rooms) before after workers

-- what was done before any source comes back, by the answer
abbrev pub HasFetched : Result (Unit {0}) FetchStop → List (List ℕ) → List Shape → ShelfState → ShelfState → List Working → Type 0
HasFetched (Ok done) names rooms before after workers = HasLent names rooms before after workers
HasFetched (Err (fetch.Failed at)) names rooms before after workers = HasBroken at names rooms before after workers
HasFetched (Err fetch.Memory) names rooms before after workers = HasRunOut names rooms before after workers
