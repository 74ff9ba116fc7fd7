-- Instances by their streams and places, and what is seen of them.
use Rattle.std.proofs.Common.{◌≡◌, ℕ, zero, suc, ◌+◌, ◌≤◌, ◌<◌, List, [], ◌∷◌, length, map, refl, ap, sym, ◌∙◌, arith, Option, Some, None, slice_get, nat_eq, if◌then◌else◌, Bool, true, false, IsTrue, ◌&&◌}
use Rattle.std.specs.Option.{option_map}
use Rattle.std.proofs.lemmas.List.{length-map}
use Rattle.std.proofs.lemmas.Bool.{leb-true}
use Rattle.std.proofs.lemmas.Option.{slice_get-map}
use Rattle.lola_value.specs.declared.value.Params.{Params}
use Rattle.lola_value.specs.declared.value.Outcome.{Outcome}
use Rattle.lola_value.specs.declared.value.Outcome.TheVariants as outcome
use Rattle.lola_model.specs.Store.{SeenInstance, instances_of, now_at, place_among, same_params, is_bad_seen, is_well_formed}
use Rattle.lola_store.specs.declared.instance.Instance.{Instance}
use Rattle.lola_store.specs.declared.population.Population.{Population}
use Rattle.lola_instances_stream.specs.Each.{Each}
use Rattle.lola_store.specs.Instances.{shown, instance_seen, place_in, InstanceRight}
use Rattle.lola_store.specs.Populations.{population_layout, population_seen, lives_in, instance_at, PopulationRight}

-- what is seen of a stream's instances
pub lives_seen : (step : ℕ) (ls : List Population) (n : ℕ) → instances_of (slice_get (map (population_seen step) ls) n) ≡ map (instance_seen step) (lives_in (slice_get ls n))
lives_seen step ls n = ap instances_of (slice_get-map (population_seen step) ls n) ∙ of_stream (slice_get ls n)
  where
    of_stream : (o : Option Population) → instances_of (option_map (population_seen step) o) ≡ map (instance_seen step) (lives_in o)
    of_stream None = refl
    of_stream (Some l) = refl

pub lives_count : (step : ℕ) (ls : List Population) (n : ℕ) → length (instances_of (slice_get (map (population_seen step) ls) n)) ≡ length (lives_in (slice_get ls n))
lives_count step ls n = ap length (lives_seen step ls n) ∙ length-map (lives_in (slice_get ls n)) (instance_seen step)

pub instance_shows : (step : ℕ) (ls : List Population) (n i : ℕ) → slice_get (instances_of (slice_get (map (population_seen step) ls) n)) i ≡ option_map (instance_seen step) (instance_at ls n i)
instance_shows step ls n i = ap (λ xs. slice_get xs i) (lives_seen step ls n) ∙ slice_get-map (instance_seen step) (lives_in (slice_get ls n)) i

-- this step's outcome of an instance, if there is one
abbrev pub outcome_at : ℕ → Option Instance → Outcome
outcome_at step None = outcome.Missing
outcome_at step (Some x) = shown step x

pub outcome_shows : (step : ℕ) (ls : List Population) (n i : ℕ) → now_at (slice_get (instances_of (slice_get (map (population_seen step) ls) n)) i) ≡ outcome_at step (instance_at ls n i)
outcome_shows step ls n i = ap now_at (instance_shows step ls n i) ∙ of_instance (instance_at ls n i)
  where
    of_instance : (o : Option Instance) → now_at (option_map (instance_seen step) o) ≡ outcome_at step o
    of_instance None = refl
    of_instance (Some x) = refl

-- the place of an instance among what is seen
pub places : (step : ℕ) (p : Params) (xs : List Instance) (i : ℕ) → place_among p (map (instance_seen step) xs) i ≡ place_in p xs i
places step p [] i = refl
places step p (x ∷ xs) i = ap (λ o. if same_params p x.params then Some i else o) (places step p xs (i + 1))

pub place_shows : (step : ℕ) (p : Params) (ls : List Population) (n : ℕ) → place_among p (instances_of (slice_get (map (population_seen step) ls) n)) 0 ≡ place_in p (lives_in (slice_get ls n)) 0
place_shows step p ls n = ap (λ xs. place_among p xs 0) (lives_seen step ls n) ∙ places step p (lives_in (slice_get ls n)) 0

place_among_below : (p : Params) (xs : List SeenInstance) (i j : ℕ) → Some j ≡ place_among p xs i → j < i + length xs
place_among_below p [] i j e = absurd (cc)
place_among_below p (x ∷ xs) i j e =
    elim (same_params p x.params) as (λ b. Some j ≡ (if b then Some i else place_among p xs (i + 1)) → j < i + length (x ∷ xs)) [
      | true ↦ λ q. let k : j ≡ i = cc in omega arith
      | false ↦ λ q. let k : j < (i + 1) + length xs = place_among_below p xs (i + 1) j q in omega arith
    ] e

pub found_below : (p : Params) (xs : List SeenInstance) (j : ℕ) → Some j ≡ place_among p xs 0 → j < length xs
found_below p xs j e = let k = place_among_below p xs 0 j e in omega arith

-- where there is an instance, there is its stream
pub stream_of : (ls : List Population) (n i : ℕ) → i < length (lives_in (slice_get ls n)) → n < length ls
stream_of [] zero i h = absurd (omega arith)
stream_of [] (suc n) i h = absurd (omega arith)
stream_of (l ∷ ls) zero i h = omega arith
stream_of (l ∷ ls) (suc n) i h = let k = stream_of ls n i h in omega arith

pub layout_at : (ls : List Population) (n : ℕ) (l : Population) → slice_get ls n ≡ Some l → slice_get (map population_layout ls) n ≡ Some (population_layout l)
layout_at ls n l e = slice_get-map population_layout ls n ∙ ap (option_map population_layout) e

pub bad_shows : (step : ℕ) (ls : List Population) (n : ℕ) (l : Population) → slice_get ls n ≡ Some l → is_bad_seen (slice_get (map (population_seen step) ls) n) ≡ nat_eq l.bad_at step
bad_shows step ls n l e = ap is_bad_seen (slice_get-map (population_seen step) ls n ∙ ap (option_map (population_seen step)) e)

-- what is true of an instance by its place
pub right_at : (on prepared : Bool) (step : ℕ) (ls : List Population) (n i : ℕ) (l : Population) (x : Instance) → Each (PopulationRight on prepared step) ls → slice_get ls n ≡ Some l → instance_at ls n i ≡ Some x
    → InstanceRight l.kind l.parameters on prepared step x
right_at on prepared step ls n i l x h e f = (h n l e).each i x (sym (ap (λ o. slice_get (lives_in o) i) e) ∙ f)

-- at most four parameters
pub four : (p : Params) → IsTrue (is_well_formed p) → p.count ≤ 4
four p h = leb-true p.count 4 (first _ _ h)
  where
    first : (a b : Bool) → (a && b) ≡ true → a ≡ true
    first true b e = refl
    first false b e = cc
