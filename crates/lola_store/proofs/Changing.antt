-- One stream of a store is changed.
use Rattle.std.proofs.Common.{◌≡◌, ℕ, zero, suc, ◌+◌, ◌≤◌, ◌<◌, List, [], ◌∷◌, ◌++◌, length, map, refl, ap, sym, ◌∙◌, subst, arith, Option, Some, None, slice_get, slice_set, nat_eq, nat_le, if◌then◌else◌, Bool, true, false, not, ◌&&◌, IsTrue, eq-eqb, get_or}
use Rattle.std.proofs.lemmas.Bool.{ne_eqb, eqb-true, leb-true, leb-false, eqb-false}
use Rattle.std.proofs.lemmas.List.{append-nil, map-append, length-map}
use Rattle.std.proofs.lemmas.Option.{slice_get_read, slice_get-map}
use Rattle.std.specs.Option.{option_map}
use Rattle.std.specs.Prelude.{vec_len}
use Rattle.std.specs.Vec.{vec_capacity}
use Rattle.lola_value.specs.declared.text.Field.{Field}
use Rattle.lola_value.specs.declared.value.Kind.{Kind}
use Rattle.lola_value.specs.declared.value.Params.{Params}
use Rattle.lola_value.specs.declared.value.Value.{Value}
use Rattle.lola_value.specs.declared.value.Outcome.{Outcome}
use Rattle.lola_value.specs.declared.value.Outcome.TheVariants as outcome
use Rattle.lola_value.specs.Naming.{Naming, the_values, read, read_outcome, IsHeld, IsHeldIn}
use Rattle.lola_value.specs.Kinds.{is_outcome_of, are_of_kinds, is_well_formed}
use Rattle.lola_model.specs.Accesses.{one_more}
use Rattle.lola_model.specs.Reading.{moved_up}
use Rattle.lola_model.specs.Store.{SeenInstance, SeenStream, changed_at, told_at, is_silent, instances_of, now_at, StreamLayout, spawns_in, has_spawned}
use Rattle.lola_store.specs.declared.instance.Instance.{Instance}
use Rattle.lola_store.specs.declared.population.Population.{Population}
use Rattle.lola_instances_stream.specs.Rights.{owed}
use Rattle.lola_store.specs.Instances.{shown, instance_seen, Recalls, InstanceRight, AllHeld}
use Rattle.lola_instances_stream.proofs.Beginnings.{owed_two}
use Rattle.lola_store.specs.Populations.{population_layout, population_seen, lives_in, instance_at, IsNewborn}
use Rattle.lola_store.specs.Tallies.{read_timed, AllOf}
use Rattle.lola_instances_stream.proofs.Lists.{got_before, same_set, other_set}
use Rattle.lola_store.proofs.Places.{layout_at, lives_count, stream_of, outcome_shows, outcome_at}
use Rattle.lola_store.proofs.Recalling.{held-more}

-- the stream and the instance at a place

pub found_stream : (step : ℕ) (ls : List Population) (n i : ℕ) (l : Population) → i < length (instances_of (slice_get (map (population_seen step) ls) n)) → l ≡ get_or ls n l → slice_get ls n ≡ Some l
found_stream step ls n i l h g = slice_get_read ls (length ls) n l refl (stream_of ls n i (omega (arith, h, lives_count step ls n))) g

pub stream_read : (ls : List Population) (n : ℕ) (l : Population) → n < length (map population_layout ls) → l ≡ get_or ls n l → slice_get ls n ≡ Some l
stream_read ls n l h g = slice_get_read ls (length ls) n l refl (omega (arith, h, length-map ls population_layout)) g

pub index_below : (step : ℕ) (ls : List Population) (n i : ℕ) (l : Population) → slice_get ls n ≡ Some l → i < length (instances_of (slice_get (map (population_seen step) ls) n)) → i < length l.lives.items
index_below step ls n i l e h =
    let q : length (lives_in (slice_get ls n)) ≡ length l.lives.items = ap (λ o. length (lives_in o)) e in
    omega (arith, h, q, lives_count step ls n)

pub found_instance : (step : ℕ) (ls : List Population) (n i : ℕ) (l : Population) (x : Instance) → slice_get ls n ≡ Some l → i < length (instances_of (slice_get (map (population_seen step) ls) n)) → x ≡ get_or l.lives.items i x → slice_get l.lives.items i ≡ Some x
found_instance step ls n i l x e h g = slice_get_read l.lives.items (length l.lives.items) i x refl (index_below step ls n i l e h) g

pub silent_at : (step : ℕ) (ls : List Population) (n i : ℕ) (l : Population) (x : Instance) → slice_get ls n ≡ Some l → slice_get l.lives.items i ≡ Some x
    → IsTrue (is_silent (now_at (slice_get (instances_of (slice_get (map (population_seen step) ls) n)) i))) → IsTrue (is_silent (shown step x))
silent_at step ls n i l x e f h =
    let q : instance_at ls n i ≡ Some x = ap (λ o. slice_get (lives_in o) i) e ∙ f in
    subst (λ o. IsTrue (is_silent o)) (outcome_shows step ls n i ∙ ap (outcome_at step) q) h

-- what is seen where one stream is another

pub layout_set : (ls : List Population) (n : ℕ) (l y : Population) → slice_get ls n ≡ Some l → population_layout y ≡ population_layout l → map population_layout (slice_set ls n y) ≡ map population_layout ls
layout_set [] n l y e q = refl
layout_set (x ∷ ls) zero l y e q = let w : l ≡ x = cc in ap (λ z. z ∷ map population_layout ls) (q ∙ ap population_layout w)
layout_set (x ∷ ls) (suc n) l y e q = ap (λ zs. population_layout x ∷ zs) (layout_set ls n l y e q)

pub changed_set : (step : ℕ) (ls : List Population) (n : ℕ) (l y : Population) (g : SeenStream → SeenStream) → slice_get ls n ≡ Some l → population_seen step y ≡ g (population_seen step l)
    → map (population_seen step) (slice_set ls n y) ≡ changed_at (map (population_seen step) ls) n g
changed_set step [] n l y g e q = absurd (cc)
changed_set step (x ∷ ls) zero l y g e q = let w : l ≡ x = cc in ap (λ z. z ∷ map (population_seen step) ls) (q ∙ ap (λ z. g (population_seen step z)) w)
changed_set step (x ∷ ls) (suc n) l y g e q = ap (λ zs. population_seen step x ∷ zs) (changed_set step ls n l y g e q)

pub told_set : (step : ℕ) (xs : List Instance) (i : ℕ) (x y : Instance) (o : Outcome) → slice_get xs i ≡ Some x → instance_seen step y ≡ record { params = x.params; born = x.born; outcome = o }
    → map (instance_seen step) (slice_set xs i y) ≡ told_at (map (instance_seen step) xs) i o
told_set step [] i x y o e q = absurd (cc)
told_set step (a ∷ xs) zero x y o e q =
    let w : x ≡ a = cc in
    ap (λ z. z ∷ map (instance_seen step) xs) (q ∙ (let f : Instance → SeenInstance = λ z. record { params = z.params; born = z.born; outcome = o } in ap f w))
told_set step (a ∷ xs) (suc i) x y o e q = ap (λ zs. instance_seen step a ∷ zs) (told_set step xs i x y o e q)

-- what is said of instances where one stream is another

module _ (P : Option Instance → Type 0) (ls : List Population) (n : ℕ) (l y : Population) (e : slice_get ls n ≡ Some l) where
  pub past_set : (m j : ℕ) → (P (slice_get l.lives.items j) → P (slice_get y.lives.items j)) → P (instance_at ls m j) → P (instance_at (slice_set ls n y) m j)
  past_set m j f h =
      (elim (nat_eq m n) as (λ b. nat_eq m n ≡ b → P (instance_at (slice_set ls n y) m j)) [
        | true ↦ λ q.
            let w : m ≡ n = eqb-true m n q in
            let old : instance_at ls m j ≡ slice_get l.lives.items j = ap (λ k. instance_at ls k j) w ∙ ap (λ o. slice_get (lives_in o) j) e in
            let new : instance_at (slice_set ls n y) m j ≡ slice_get y.lives.items j = ap (λ k. instance_at (slice_set ls n y) k j) w ∙ ap (λ o. slice_get (lives_in o) j) (same_set ls n l y e) in
            subst P (sym new) (f (subst P old h))
        | false ↦ λ q. subst P (sym (ap (λ o. slice_get (lives_in o) j) (other_set ls n m y (eqb-false m n q)))) h
      ]) refl

  pub past_remove : (i m j : ℕ) → ((k : ℕ) → k < i → slice_get y.lives.items k ≡ slice_get l.lives.items k) → ((k : ℕ) → i ≤ k → slice_get y.lives.items k ≡ slice_get l.lives.items (k + 1))
      → P (instance_at ls m (moved_up n i m j)) → P (instance_at (slice_set ls n y) m j)
  past_remove i m j before after h =
      (elim (nat_eq m n) as (λ b. nat_eq m n ≡ b → P (instance_at ls m (if b && nat_le i j then j + 1 else j)) → P (instance_at (slice_set ls n y) m j)) [
        | true ↦ λ q g.
            let w : m ≡ n = eqb-true m n q in
            let old : (k : ℕ) → instance_at ls m k ≡ slice_get l.lives.items k = λ k. ap (λ m. instance_at ls m k) w ∙ ap (λ o. slice_get (lives_in o) k) e in
            let new : instance_at (slice_set ls n y) m j ≡ slice_get y.lives.items j = ap (λ k. instance_at (slice_set ls n y) k j) w ∙ ap (λ o. slice_get (lives_in o) j) (same_set ls n l y e) in
            (elim (nat_le i j) as (λ b. nat_le i j ≡ b → P (instance_at ls m (if b then j + 1 else j)) → P (instance_at (slice_set ls n y) m j)) [
              | true ↦ λ le g. subst P (sym (new ∙ after j (leb-true i j le))) (subst P (old (j + 1)) g)
              | false ↦ λ le g. subst P (sym (new ∙ before j (leb-false i j le))) (subst P (old j) g)
            ]) refl g
        | false ↦ λ q g. subst P (sym (ap (λ o. slice_get (lives_in o) j) (other_set ls n m y (eqb-false m n q)))) g
      ]) refl h

-- an instance that is told

no_both : (b : Bool) → b ≡ true → not b ≡ true → ⊥
no_both true e f = cc
no_both false e f = cc

pub shown_told : (step : ℕ) (y : Instance) (o : Outcome) → y.told_at ≡ step → y.outcome ≡ o → shown step y ≡ o
shown_told step y o e q = ap (λ b. if b then y.outcome else outcome.Missing) (eq-eqb y.told_at step e) ∙ q

pub untold : (k : Kind) (ps : List Kind) (on prepared : Bool) (step : ℕ) (x : Instance) → InstanceRight k ps on prepared step x → IsTrue (is_silent (shown step x)) → x.told_at ≡ step → ⊥
untold k ps on prepared step x h s q = no_both (is_silent x.outcome) (subst (λ o. IsTrue (is_silent o)) (shown_told step x x.outcome q refl) s) (h.told q)

pub instance_told : (k : Kind) (ps : List Kind) (on prepared : Bool) (step : ℕ) (x y : Instance) (o : Outcome) → InstanceRight k ps on prepared step x → on ≡ true
    → y.params ≡ x.params → y.told_at ≡ step → y.outcome ≡ o → IsTrue (not (is_silent o)) → IsTrue (is_outcome_of k o) → AllOf k y.values.items
    → vec_len y.values + owed prepared on step y.told_at ≤ vec_capacity y.values → InstanceRight k ps on prepared step y
instance_told k ps on prepared step x y o h r p t q s g v room =
    record {
      told_le = omega arith;
      before = λ e. let w : true ≡ false = sym r ∙ e in cc;
      told = λ e. subst (λ z. IsTrue (not (is_silent z))) (sym q) s;
      outcome = subst (λ z. IsTrue (is_outcome_of k z)) (sym q) g;
      values = v;
      kinds = subst (λ z. IsTrue (are_of_kinds ps (the_values z))) (sym p) h.kinds;
      formed = subst (λ z. IsTrue (is_well_formed z)) (sym p) h.formed;
      room = room;
    }

module _ (time step : ℕ) (names : Naming) (x y : Instance) (values : List (ℕ × Field)) (h : Recalls time step names x values) (none : shown step x ≡ outcome.Missing) where
  before : map (read_timed names) x.values.items ≡ values
  before = h.all ∙ (ap (λ o. values ++ one_more time (read_outcome names o)) none ∙ append-nil values)

  pub recalls_value : (v : Value) → IsHeld names v → y.told_at ≡ step → y.outcome ≡ outcome.Value v → y.values.items ≡ x.values.items ++ record { at = time; item = v } ∷ [] → Recalls time step names y values
  recalls_value v held t q e =
      let some : shown step y ≡ outcome.Value v = shown_told step y (outcome.Value v) t q in
      record {
        all = ap (map (read_timed names)) e ∙ (map-append (read_timed names) x.values.items (record { at = time; item = v } ∷ []) ∙ (ap (λ vs. vs ++ (time, read names v) ∷ []) before
            ∙ sym (ap (λ o. values ++ one_more time (read_outcome names o)) some)));
        held = subst (AllHeld names) (sym e) (held-more names x.values.items (record { at = time; item = v }) h.held held);
        now_held = subst (IsHeldIn names) (sym some) held;
      }

  pub recalls_poison : y.told_at ≡ step → y.outcome ≡ outcome.Poison → y.values.items ≡ x.values.items → Recalls time step names y values
  recalls_poison t q e =
      let some : shown step y ≡ outcome.Poison = shown_told step y outcome.Poison t q in
      record {
        all = ap (map (read_timed names)) e ∙ (before ∙ sym (ap (λ o. values ++ one_more time (read_outcome names o)) some ∙ append-nil values));
        held = subst (AllHeld names) (sym e) h.held;
        now_held = subst (IsHeldIn names) (sym some) tt;
      }

-- one instance of a stream is another
pub recalls_set : (P : Option Instance → Type 0) (xs : List Instance) (i j : ℕ) (x y : Instance) → slice_get xs i ≡ Some x → (P (Some x) → P (Some y)) → P (slice_get xs j) → P (slice_get (slice_set xs i y) j)
recalls_set P xs i j x y e f h =
    (elim (nat_eq j i) as (λ b. nat_eq j i ≡ b → P (slice_get (slice_set xs i y) j)) [
      | true ↦ λ q.
          let w : j ≡ i = eqb-true j i q in
          subst P (sym (ap (λ k. slice_get (slice_set xs i y) k) w ∙ same_set xs i x y e)) (f (subst P (ap (λ k. slice_get xs k) w ∙ e) h))
      | false ↦ λ q. subst P (sym (other_set xs i j y (eqb-false j i q))) h
    ]) refl

-- an instance that is born

pub spawns_at : (ls : List Population) (n : ℕ) (l : Population) → slice_get ls n ≡ Some l → IsTrue (spawns_in (slice_get (map population_layout ls) n)) → l.spawns ≡ true
spawns_at ls n l e h = subst (λ (o : Option StreamLayout). IsTrue (spawns_in o)) (layout_at ls n l e) h

pub unspawned : (step : ℕ) (ls : List Population) (n : ℕ) (l : Population) → slice_get ls n ≡ Some l → IsTrue (not (has_spawned (slice_get (map (population_seen step) ls) n))) → l.spawned_at ≡ step → ⊥
unspawned step ls n l e h q =
    let at : slice_get (map (population_seen step) ls) n ≡ Some (population_seen step l) = slice_get-map (population_seen step) ls n ∙ ap (option_map (population_seen step)) e in
    no_both (nat_eq l.spawned_at step) (eq-eqb l.spawned_at step q) (subst (λ (o : Option SeenStream). IsTrue (not (has_spawned o))) at h)

pub newborn_right : (k : Kind) (ps : List Kind) (on prepared : Bool) (step at : ℕ) (p : Params) (x : Instance) → IsNewborn at p x → on ≡ true → 1 ≤ step → IsTrue (are_of_kinds ps (the_values p)) → IsTrue (is_well_formed p) → InstanceRight k ps on prepared step x
newborn_right k ps on prepared step at p x b r g f w =
    let z = b.told_at in
    record {
      told_le = omega arith;
      before = λ e. let w : true ≡ false = sym r ∙ e in cc;
      told = λ e. absurd (omega arith);
      outcome = subst (λ o. IsTrue (is_outcome_of k o)) (sym b.outcome) refl;
      values = subst (AllOf k) (sym b.values) tt;
      kinds = subst (λ q. IsTrue (are_of_kinds ps (the_values q))) (sym b.params_is) f;
      formed = subst (λ q. IsTrue (is_well_formed q)) (sym b.params_is) w;
      room = omega (arith, x.values.ok.0, ap length b.values, owed_two prepared on step x.told_at, b.room);
    }

pub newborn_silent : (step at : ℕ) (p : Params) (x : Instance) → IsNewborn at p x → 1 ≤ step → shown step x ≡ outcome.Missing
newborn_silent step at p x b g = let z = b.told_at in ap (λ t. if t then x.outcome else outcome.Missing) (ne_eqb x.told_at step (λ q. omega arith))

pub newborn_recalls : (time step : ℕ) (names : Naming) (at : ℕ) (p : Params) (x : Instance) → IsNewborn at p x → 1 ≤ step → Recalls time step names x []
newborn_recalls time step names at p x b g =
    let none = newborn_silent step at p x b g in
    record {
      all = ap (map (read_timed names)) b.values ∙ sym (ap (λ o. one_more time (read_outcome names o)) none);
      held = subst (AllHeld names) (sym b.values) tt;
      now_held = subst (IsHeldIn names) (sym none) tt;
    }

-- who lives already is found in its place
pub past_append : (P : Option Instance → Type 0) (xs : List Instance) (y : Instance) (j : ℕ) → (P None → ⊥) → P (slice_get xs j) → P (slice_get (xs ++ y ∷ []) j)
past_append P xs y j f h =
    (elim (slice_get xs j) as (λ o. slice_get xs j ≡ o → P o → P (slice_get (xs ++ y ∷ []) j)) [
      | None ↦ λ e p. absurd (f p)
      | Some x ↦ λ e p. subst P (sym (got_before xs y j x e)) p
    ]) refl h
