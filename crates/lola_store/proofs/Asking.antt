-- What is asked of an instance of a store.
use Rattle.std.proofs.Common.{◌≡◌, ℕ, zero, suc, List, [], ◌∷◌, map, refl, ap, sym, ◌∙◌, subst, Some, slice_get, if◌then◌else◌, false, IsTrue}
use Rattle.lola_value.specs.declared.value.Kind.{Kind}
use Rattle.lola_value.specs.declared.value.Params.{Params}
use Rattle.lola_value.specs.declared.value.Outcome.{Outcome}
use Rattle.lola_value.specs.declared.value.Outcome.TheVariants as outcome
use Rattle.lola_model.specs.Store.{place_of, now_of, now_at_place, is_bad_seen, kind_in, parameters_of, is_outcome_of}
use Rattle.lola_store.specs.declared.instance.Instance.{Instance}
use Rattle.lola_store.specs.declared.population.Population.{Population}
use Rattle.lola_store.specs.declared.store.WholeStore.{WholeStore}
use Rattle.lola_store.specs.Instances.{shown, InstanceRight}
use Rattle.lola_store.specs.Populations.{population_layout, instance_at}
use Rattle.lola_instances.specs.Phases.{is_on}
use Rattle.lola_store.specs.Stores.{whole_seen}
use Rattle.lola_store.proofs.Places.{outcome_at, outcome_shows, layout_at, right_at}

-- the stream of an instance
pub owner : (ls : List Population) (n i : ℕ) (x : Instance) → instance_at ls n i ≡ Some x → (l : Population) × (slice_get ls n ≡ Some l)
owner [] zero i x e = absurd (cc)
owner [] (suc n) i x e = absurd (cc)
owner (l ∷ ls) zero i x e = (l, refl)
owner (l ∷ ls) (suc n) i x e = owner ls n i x e

-- what is true of an instance, in the words of its stream's layout
pub record Owned (s : WholeStore) (n : ℕ) (x : Instance) : Type 0 where
  pub kind : Kind
  pub parameters : List Kind
  pub kind_is : kind_in (slice_get (map population_layout s.streams.items) n) ≡ kind
  pub parameters_is : parameters_of (slice_get (map population_layout s.streams.items) n) ≡ parameters
  pub right : InstanceRight kind parameters (is_on s.phase) s.prepared s.step x

abbrev pub owned : (s : WholeStore) (n i : ℕ) (x : Instance) → instance_at s.streams.items n i ≡ Some x → Owned s n x
owned s n i x e =
    let o = owner s.streams.items n i x e in
    let at = layout_at s.streams.items n o.0 o.1 in
    record {
      kind = o.0.kind;
      parameters = o.0.parameters;
      kind_is = ap kind_in at;
      parameters_is = ap parameters_of at;
      right = right_at (is_on s.phase) s.prepared s.step s.streams.items n i o.0 x s.right o.1 e;
    }

-- an answer of an instance is of its stream's kind
pub of_kind : (s : WholeStore) (n i : ℕ) (x : Instance) (r : Outcome) → instance_at s.streams.items n i ≡ Some x
    → ((k : Kind) (ps : List Kind) → InstanceRight k ps (is_on s.phase) s.prepared s.step x → IsTrue (is_outcome_of k r)) → IsTrue (is_outcome_of (kind_in (slice_get (map population_layout s.streams.items) n)) r)
of_kind s n i x r e f =
    let o = owned s n i x e in
    subst (λ (k : Kind). IsTrue (is_outcome_of k r)) (sym o.kind_is) (f o.kind o.parameters o.right)

-- the outcome of an instance that was found
pub now_found : (s : WholeStore) (n : ℕ) (p : Params) (i : ℕ) (x : Instance) → false ≡ is_bad_seen (slice_get (whole_seen s).streams n) → Some i ≡ place_of (whole_seen s) n p → instance_at s.streams.items n i ≡ Some x
    → shown s.step x ≡ now_of (whole_seen s) n p
now_found s n p i x e f g =
    sym (ap (λ b. if b then outcome.Poison else now_at_place (whole_seen s) n (place_of (whole_seen s) n p)) (sym e)
    ∙ (ap (now_at_place (whole_seen s) n) (sym f)
    ∙ (outcome_shows s.step s.streams.items n i ∙ ap (outcome_at s.step) g)))
