-- Instances by their parameters and places.
use Rattle.std.proofs.Common.{◌≡◌, ℕ, ◌+◌, ◌≤◌, ◌<◌, List, [], ◌∷◌, length, map, refl, ap, ◌∙◌, arith, Option, Some, None, slice_get, if◌then◌else◌, Bool, true, false, IsTrue, ◌&&◌, subst}
use Rattle.std.specs.Option.{option_map}
use Rattle.std.proofs.lemmas.Bool.{leb-true}
use Rattle.std.proofs.lemmas.Option.{slice_get-map}
use Rattle.lola_value.specs.declared.value.Params.{Params}
use Rattle.lola_value.specs.declared.value.Kind.{Kind}
use Rattle.lola_value.specs.declared.value.Value.{Value}
use Rattle.lola_value.specs.Kinds.{all_same, are_of_kinds, is_well_formed, same_params}
use Rattle.lola_value.specs.Naming.{the_values}
use Rattle.lola_model.specs.Store.{no_params, now_at, place_among}
use Rattle.lola_instances_one.specs.Holdings.{Holdings, slot_seen}
use Rattle.lola_instances_stream.specs.Crowds.{place_in, shown_at}

-- at most four parameters
pub four : (p : Params) → IsTrue (is_well_formed p) → p.count ≤ 4
four p h = leb-true p.count 4 (first _ _ h)
  where
    first : (a b : Bool) → (a && b) ≡ true → a ≡ true
    first true b e = refl
    first false b e = cc

-- the place of an instance among what is seen
pub places : (step : ℕ) (p : Params) (ss : List Holdings) (i : ℕ) → place_among p (map (slot_seen step) ss) i ≡ place_in p ss i
places step p [] i = refl
places step p (s ∷ ss) i = ap (λ o. if same_params p s.params then Some i else o) (places step p ss (i + 1))

place_below : (p : Params) (ss : List Holdings) (i j : ℕ) → Some j ≡ place_in p ss i → j < i + length ss
place_below p [] i j e = absurd (cc)
place_below p (s ∷ ss) i j e =
    elim (same_params p s.params) as (λ b. Some j ≡ (if b then Some i else place_in p ss (i + 1)) → j < i + length (s ∷ ss)) [
      | true ↦ λ q. let k : j ≡ i = cc in omega arith
      | false ↦ λ q. let k : j < (i + 1) + length ss = place_below p ss (i + 1) j q in omega arith
    ] e

pub found_below : (p : Params) (ss : List Holdings) (j : ℕ) → Some j ≡ place_in p ss 0 → j < length ss
found_below p ss j e = let k = place_below p ss 0 j e in omega arith

-- what is seen at a place
pub seen_at : (step : ℕ) (ss : List Holdings) (i : ℕ) → now_at (slice_get (map (slot_seen step) ss) i) ≡ shown_at step (slice_get ss i)
seen_at step ss i = ap now_at (slice_get-map (slot_seen step) ss i) ∙ of_slot (slice_get ss i)
  where
    of_slot : (o : Option Holdings) → now_at (option_map (slot_seen step) o) ≡ shown_at step o
    of_slot None = refl
    of_slot (Some s) = refl

-- the first instance of a stream without parameters has none
pub alone_first : (ks : List Kind) (ss : List Holdings) → ks ≡ [] → 0 < length ss
    → ((i : ℕ) (s : Holdings) → slice_get ss i ≡ Some s → IsTrue (are_of_kinds ks (the_values s.params)))
    → place_in no_params ss 0 ≡ Some 0
alone_first ks [] e l h = absurd (omega arith)
alone_first ks (s ∷ ss) e l h =
    ap (λ (b : Bool). if b then Some 0 else place_in no_params ss 1)
    (nothing (the_values s.params) (subst (λ (ks : List Kind). IsTrue (are_of_kinds ks (the_values s.params))) e (h 0 s refl)))
  where
    nothing : (vs : List Value) → IsTrue (are_of_kinds [] vs) → all_same [] vs ≡ true
    nothing [] h = refl
    nothing (v ∷ vs) h = absurd (cc)
