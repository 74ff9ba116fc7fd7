-- One instance is loaded: its values, and the panes of each window.
use Rattle.std.proofs.Common.{◌≡◌, ℕ, zero, suc, ◌+◌, ◌<◌, ◌≤◌, List, [], ◌∷◌, ◌++◌, length, map, take, refl, subst, ap, sym, ◌∙◌, arith, Bool, true, false, ◌&&◌, Option, Some, None, get_or, slice_get, IsTrue}
use Rattle.std.specs.List.{list_all}
use Rattle.std.proofs.lemmas.List.{take_more, take_all, length-map, length-append, length-take-le, map-append}
use Rattle.std.proofs.lemmas.Option.{slice_get_within}
use Rattle.lola_value.specs.Naming.{AreHeld, IsHeld, Naming, read}
use Rattle.lola_value.specs.declared.text.Field.{Field}
use Rattle.lola_value.specs.declared.value.Kind.{Kind}
use Rattle.lola_value.specs.declared.value.Outcome.{Outcome}
use Rattle.lola_value.specs.declared.value.Outcome.TheVariants as outcome
use Rattle.lola_value.specs.declared.value.Value.{Value}
use Rattle.lola_model.specs.Reading.{IsHeldBy}
use Rattle.lola_model.specs.Store.{Seen, instances_seen, is_silent, kept_in, now_at, now_seen}
use Rattle.lola_panes.specs.Standing.{Partials}
use Rattle.lola_instances_one.specs.Holdings.{Holdings}
use Rattle.lola_instances_stream.specs.Restoring.{HasOneMore}
use Rattle.lola_instances.specs.Restoring.{IsInstanceChanged}
use Rattle.lola_instances.specs.Saved.{partials_of, places_in}
use Rattle.lola_instances.specs.Stores.{bounded_seen, values_kept}
use Rattle.lola_instances.specs.Streams.{values_of}
use Rattle.lola_instances.specs.declared.store.BoundedStore.{BoundedStore}
use Rattle.lola_save.specs.Loaded.{AreValuesOf, ChangesOne, HasValueMore, IsSilentAt, KeepsPanes}
use Rattle.lola_save.proofs.Naming.{values-on}
use Rattle.lola_save.proofs.StoreSlots.{capacity-is, kept-all, panes-by}

-- an instance that is there

pub lives-at : (s : BoundedStore) (n i : ℕ) → IsSilentAt s n i → i < length (instances_seen (bounded_seen s) n)
lives-at s n i h = slice_get_within (instances_seen (bounded_seen s) n) i h.x h.at

pub silent-now : (s : BoundedStore) (n i : ℕ) → IsSilentAt s n i → now_seen (bounded_seen s) n i ≡ outcome.Missing
silent-now s n i h = ap now_at h.at ∙ h.silent

pub silent-is : (s : BoundedStore) (n i : ℕ) → IsSilentAt s n i → IsTrue (is_silent (now_seen (bounded_seen s) n i))
silent-is s n i h = subst (λ (o : Outcome). IsTrue (is_silent o)) (sym (silent-now s n i h)) refl

abbrev pub silent-on : (old new : BoundedStore) (n i : ℕ) → bounded_seen new ≡ bounded_seen old → IsSilentAt old n i → IsSilentAt new n i
silent-on old new n i same h = record { x = h.x; at = ap (λ (s : Seen). slice_get (instances_seen s n) i) same ∙ h.at; silent = h.silent }

-- changes, one after another

pub one-self : (n i : ℕ) (s : BoundedStore) → ChangesOne n i s s
one-self n i s = record { seen = refl; others = λ m j d. refl }

pub one-on : (n i : ℕ) (a b c : BoundedStore) → ChangesOne n i a b → ChangesOne n i b c → ChangesOne n i a c
one-on n i a b c f g = record { seen = g.seen ∙ f.seen; others = λ m j d. g.others m j d ∙ f.others m j d }

pub keeps-self : (n i : ℕ) (s : BoundedStore) → KeepsPanes n i s s
keeps-self n i s w v e t = refl

pub keeps-on : (n i : ℕ) (a b c : BoundedStore) → bounded_seen b ≡ bounded_seen a → KeepsPanes n i a b → KeepsPanes n i b c → KeepsPanes n i a c
keeps-on n i a b c same f g w v e t = g w v (ap (λ (s : Seen). slice_get s.layout.windows w) same ∙ e) t ∙ f w v e t

-- a value

module _ (old new : BoundedStore) (n i : ℕ) (v : Value) (seen : bounded_seen new ≡ bounded_seen old) (places : places_in new ≡ places_in old) (h : IsInstanceChanged (HasOneMore v) n i old new) where
  pub value-one : ChangesOne n i old new
  value-one = record { seen = seen; others = h.others }

  same-panes : (k : Option ℕ) → partials_of (Some h.y) k ≡ partials_of (Some h.x) k
  same-panes None = refl
  same-panes (Some k) = ap (λ (ps : List Partials). slice_get ps k) h.related.panes

  pub value-panes : KeepsPanes n i old new
  value-panes w a f t =
      panes-by new w a n i (ap (λ (s : Seen). slice_get s.layout.windows w) seen ∙ f) t
      ∙ (λ j. partials_of (h.is j) (slice_get (places j) w))
      ∙ same-panes (slice_get (places_in old) w)
      ∙ ap (λ (o : Option Holdings). partials_of o (slice_get (places_in old) w)) (sym h.was)
      ∙ sym (panes-by old w a n i f t)

  pub value-more : length (values_kept old n i) < kept_in (slice_get (bounded_seen old).layout.streams n) → values_kept new n i ≡ values_kept old n i ++ v ∷ []
  value-more free =
      let was : values_kept old n i ≡ h.x.ring.values = ap values_of h.was in
      let capacity = capacity-is old n i h.x h.was in
      let long : length (h.x.ring.values ++ v ∷ []) ≡ length h.x.ring.values + 1 = length-append h.x.ring.values (v ∷ []) in
      let many = ap length was in
      ap values_of h.is
      ∙ ap (λ r. r.values) h.related.ring
      ∙ kept-all h.x.ring.capacity (h.x.ring.values ++ v ∷ []) (omega (arith, free, capacity, long, many))
      ∙ ap (λ (vs : List Value). vs ++ v ∷ []) (sym was)

-- all values

pub values-none : (names : Naming) (fs : List Field) (vs : List Value) → vs ≡ [] → AreValuesOf names (take 0 fs) vs
values-none names fs vs e = record { reads = ap (map (read names)) e; held = subst (λ (us : List Value). AreHeld names us) (sym e) tt }

held-append : (names : Naming) (vs : List Value) (v : Value) → AreHeld names vs → IsHeld names v → AreHeld names (vs ++ v ∷ [])
held-append names [] v h one = (one, tt)
held-append names (u ∷ vs) v h one = (h.0, held-append names vs v h.1 one)

pub values-more : (names more : Naming) (k : Kind) (fs : List Field) (i : ℕ) (f : Field) (vs ws : List Value) → IsHeldBy names more → i < length fs → f ≡ get_or fs i f → AreValuesOf names (take i fs) vs → HasValueMore more k f vs ws
    → AreValuesOf more (take (i + 1) fs) ws
values-more names more k fs i f vs ws on lt e h g =
    let a = values-on names more (take i fs) vs on h in
    record {
      reads = ap (map (read more)) g.more
          ∙ map-append (read more) vs (g.v ∷ [])
          ∙ (λ j. a.reads j ++ (g.named.reads j ∷ []))
          ∙ ap (λ (x : Field). take i fs ++ x ∷ []) e
          ∙ sym (take_more fs i f lt);
      held = subst (λ (us : List Value). AreHeld more us) (sym g.more) (held-append more vs g.v a.held g.named.held);
    }

pub values-all : (names : Naming) (fs : List Field) (i : ℕ) (vs : List Value) → length fs ≤ i → AreValuesOf names (take i fs) vs → AreValuesOf names fs vs
values-all names fs i vs le h = subst (λ (gs : List Field). AreValuesOf names gs vs) (take_all i fs le) h

pub values-many : (names : Naming) (fs : List Field) (i : ℕ) (vs : List Value) → i ≤ length fs → AreValuesOf names (take i fs) vs → length vs ≡ i
values-many names fs i vs le h = sym (length-map vs (read names)) ∙ ap length h.reads ∙ length-take-le i fs le

-- an item passes what all do
pub passes-at : {X : Type 0} (p : X → Bool) (xs : List X) (i : ℕ) (x d : X) → list_all p xs ≡ true → i < length xs → x ≡ get_or xs i d → p x ≡ true
passes-at p [] i x d h lt e = absurd (omega arith)
passes-at p (y ∷ xs) zero x d h lt e = ap p e ∙ left (p y) (list_all p xs) h
  where
    left : (a b : Bool) → (a && b) ≡ true → a ≡ true
    left true b h = refl
    left false b h = h
passes-at p (y ∷ xs) (suc i) x d h lt e = passes-at p xs i x d (right (p y) (list_all p xs) h) (omega arith) e
  where
    right : (a b : Bool) → (a && b) ≡ true → b ≡ true
    right true b h = h
    right false b h = absurd (cc)
