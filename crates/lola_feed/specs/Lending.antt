-- Several sources of one shelf: lent, and given back.
use Rattle.std.specs.Prelude.{◌≡◌, ℕ, ◌+◌, ◌<◌, ◌≤◌, ◌^◌, List, [], ◌∷◌, ◌++◌, Option, Some, Result, Ok, Err, All, map, length, take, slice_get, unwrap_or}
use Rattle.lola_port.specs.Asks.{IsGivenAt, failed_ask, given_ask}
use Rattle.lola_port.specs.States.{Rose, ShelfState, SourceState, back}
use Rattle.lola_port.specs.declared.traits.Ask.{Ask}
use Rattle.lola_model.specs.declared.plan.Plan.{Plan}
use Rattle.lola_rows.specs.Reading.{Shape, fresh, shape_of}
use Rattle.lola_feed.specs.Feeding.{Working, beginning}
use Rattle.lola_feed.specs.declared.sources.FetchStop.{FetchStop}
use Rattle.lola_feed.specs.declared.sources.FetchStop.TheVariants as fetch

-- the words of these numbers
abbrev pub names_at : List (List ℕ) → List ℕ → List (List ℕ)
names_at words numbers = map (λ n. unwrap_or (slice_get words n) []) numbers

-- room for each of so many sources, in their order
pub record AreRooms (plan : Plan) (sources most : ℕ) (rooms : List Shape) : Type 0 where
  pub many : length rooms ≡ sources
  pub each : (s : ℕ) → s < sources → slice_get rooms s ≡ Some (shape_of plan.spec.streams s most)

-- the sources of workers, their places and their counts of failures
abbrev pub sources_of : List Working → List SourceState
sources_of workers = map (λ w. w.reader.source) workers

abbrev pub places_of : List Working → List ℕ
places_of workers = map (λ w. w.reader.source.place) workers

abbrev pub counts_of : List Working → List ℕ
counts_of workers = map (λ w. w.reader.source.count) workers

-- the sources are in their places
abbrev pub AreInPlace : List Working → List Working → Type 0
AreInPlace olds news = places_of news ≡ places_of olds

-- the asks at these places were given
abbrev pub AreGiven : List Ask → List ℕ → Type 0
AreGiven asks places = All (λ place. IsGivenAt asks place) places

-- a worker that has had no turn, over a source that has all bytes of a name
pub record IsLentTo (told : List ℕ → Option (List ℕ)) (at : ℕ) (name : List ℕ) (room : Shape) (worker : Working) : Type 0 where
  pub file : SourceState
  pub is : worker ≡ beginning (fresh room file)
  pub left : file.left ≡ told name
  pub bound : file.to_come ≤ 2 ^ 62
  pub count : file.count ≡ 0
  pub place : file.place ≡ at

-- the shelf has lent a source for each name
pub record IsLent (names : List (List ℕ)) (rooms : List Shape) (before after : ShelfState) (workers : List Working) : Type 0 where
  pub told : after.told ≡ before.told
  pub asks : after.asks ≡ before.asks ++ map given_ask names
  pub count : after.count ≡ before.count
  pub out : after.out ≡ before.out + length names
  pub many : length workers ≡ length names
  pub room : length rooms ≡ length names
  pub each : (s : ℕ) (name : List ℕ) (room : Shape) (worker : Working) → slice_get names s ≡ Some name → slice_get rooms s ≡ Some room → slice_get workers s ≡ Some worker
      → IsLentTo before.told (length before.asks + s) name room worker
  pub given : AreGiven after.asks (places_of workers)

-- the name at a place was not given, and those before it are back
pub record IsNotGiven (at : ℕ) (names : List (List ℕ)) (before after : ShelfState) : Type 0 where
  pub name : List ℕ
  pub is : slice_get names at ≡ Some name
  pub asks : after.asks ≡ before.asks ++ (map given_ask (take at names) ++ failed_ask name ∷ [])
  pub told : after.told ≡ before.told
  pub out : after.out ≡ before.out
  pub rose : Rose before.count after.count

-- no memory: some names were asked for, and all are back
pub record IsStopped (names : List (List ℕ)) (before after : ShelfState) : Type 0 where
  pub asked : ℕ
  pub asks : after.asks ≡ before.asks ++ map given_ask (take asked names)
  pub out : after.out ≡ before.out

-- what a fetch of all names does, by its answer
abbrev pub Fetches : Result (Unit {0}) FetchStop → List (List ℕ) → List Shape → ShelfState → ShelfState → List Working → Type 0
Fetches (Ok done) names rooms before after workers = IsLent names rooms before after workers
Fetches (Err (fetch.Failed at)) names rooms before after workers = IsNotGiven at names before after
Fetches (Err fetch.Memory) names rooms before after workers = IsStopped names before after

-- the shelf after these sources came back
abbrev pub all_back : ShelfState → List SourceState → ShelfState
all_back shelf [] = shelf
all_back shelf (file ∷ files) = all_back (back shelf file) files

-- asks of these names that were given, with these counts of failures
abbrev pub asks_of : List (List ℕ) → List ℕ → List Ask
asks_of (name ∷ names) (count ∷ counts) = record (given_ask name) { count = count } ∷ asks_of names counts
asks_of _ _ = []

-- all sources that were lent came back, with these counts of failures
pub record HasReturned (names : List (List ℕ)) (counts : List ℕ) (before after : ShelfState) : Type 0 where
  pub told : after.told ≡ before.told
  pub asks : after.asks ≡ before.asks ++ asks_of names counts
  pub out : after.out ≡ before.out
  pub unfailed : All (λ (count : ℕ). count ≡ 0) counts → after.count ≡ before.count
  pub failed : (s count : ℕ) → slice_get counts s ≡ Some count → Rose 0 count → Rose before.count after.count
