-- Room is made, and all else stays.
use Rattle.std.proofs.Common.{◌≡◌, ℕ, zero, suc, ◌+◌, ◌≤◌, ◌<◌, List, [], ◌∷◌, ◌++◌, length, map, refl, ap, sym, ◌∙◌, subst, arith, Some, slice_get, slice_set, nat_eq, if◌then◌else◌, Bool, true, false, not, IsTrue}
use Rattle.std.specs.Prelude.{vec_len}
use Rattle.std.specs.Vec.{vec_capacity}
use Rattle.std.proofs.lemmas.Bool.{eqb-true, eqb-false}
use Rattle.lola_value.specs.declared.text.Field.{Field}
use Rattle.lola_value.specs.declared.value.Kind.{Kind}
use Rattle.lola_value.specs.declared.value.Outcome.TheVariants as outcome
use Rattle.lola_value.specs.Naming.{Naming, the_values, read_outcome, IsHeldIn}
use Rattle.lola_value.specs.Kinds.{is_outcome_of, are_of_kinds, is_well_formed}
use Rattle.lola_model.specs.Accesses.{one_more}
use Rattle.lola_model.specs.Store.{is_silent}
use Rattle.lola_store.specs.declared.instance.Instance.{Instance}
use Rattle.lola_store.specs.declared.population.Population.{Population}
use Rattle.lola_store.specs.Paired.{Paired}
use Rattle.lola_instances_stream.specs.Rights.{owed}
use Rattle.lola_store.specs.Instances.{shown, instance_seen, Recalls, RecallsAt, AllHeld, InstanceRight}
use Rattle.lola_store.specs.Populations.{population_layout, population_seen, instance_at, PopulationRight}
use Rattle.lola_store.specs.Rooms.{IsAlike, IsKept, IsReady}
use Rattle.lola_store.specs.Tallies.{AllOf, read_timed}
use Rattle.lola_instances_stream.proofs.Beginnings.{owed_two}
use Rattle.lola_instances_stream.proofs.Lists.{same_set, other_set}

module _ {X : Type 0} (R : X → X → Type 0) where
  pub paired-refl : ((x : X) → R x x) → (xs : List X) → Paired R xs xs
  paired-refl r [] = tt
  paired-refl r (x ∷ xs) = (r x, paired-refl r xs)

  pub paired-set : ((x y z : X) → R x y → R y z → R x z) → (xs ys : List X) (i : ℕ) (y z : X) → Paired R xs ys → slice_get ys i ≡ Some y → R y z → Paired R xs (slice_set ys i z)
  paired-set t [] [] i y z h e r = absurd (cc)
  paired-set t [] (b ∷ ys) i y z h e r = absurd h
  paired-set t (a ∷ xs) [] i y z h e r = absurd h
  paired-set t (a ∷ xs) (b ∷ ys) zero y z h e r = let q : b ≡ y = cc in (t a y z (subst (R a) q h.0) r, h.1)
  paired-set t (a ∷ xs) (b ∷ ys) (suc i) y z h e r = (h.0, paired-set t xs ys i y z h.1 e r)

  pub paired-trans : ((x y z : X) → R x y → R y z → R x z) → (xs ys zs : List X) → Paired R xs ys → Paired R ys zs → Paired R xs zs
  paired-trans t [] [] [] h g = tt
  paired-trans t [] [] (c ∷ zs) h g = absurd g
  paired-trans t [] (b ∷ ys) zs h g = absurd h
  paired-trans t (a ∷ xs) [] zs h g = absurd h
  paired-trans t (a ∷ xs) (b ∷ ys) [] h g = absurd g
  paired-trans t (a ∷ xs) (b ∷ ys) (c ∷ zs) h g = (t a b c h.0 g.0, paired-trans t xs ys zs h.1 g.1)

  pub paired-at : (xs ys : List X) (i : ℕ) (y : X) → Paired R xs ys → slice_get ys i ≡ Some y → (x : X) × (slice_get xs i ≡ Some x) × R x y
  paired-at [] [] i y h e = absurd (cc)
  paired-at [] (b ∷ ys) i y h e = absurd h
  paired-at (a ∷ xs) [] i y h e = absurd h
  paired-at (a ∷ xs) (b ∷ ys) zero y h e = let q : b ≡ y = cc in (a, refl, subst (R a) q h.0)
  paired-at (a ∷ xs) (b ∷ ys) (suc i) y h e = paired-at xs ys i y h.1 e

  pub paired-length : (xs ys : List X) → Paired R xs ys → length ys ≡ length xs
  paired-length [] [] h = refl
  paired-length [] (b ∷ ys) h = absurd h
  paired-length (a ∷ xs) [] h = absurd h
  paired-length (a ∷ xs) (b ∷ ys) h = ap suc (paired-length xs ys h.1)

-- of the first few items
pub each-more : {X : Type 0} (P : X → Type 0) (xs : List X) (n : ℕ) (y z : X) → ((i : ℕ) (x : X) → i < n → slice_get xs i ≡ Some x → P x) → slice_get xs n ≡ Some y → P z
    → (i : ℕ) (x : X) → i < n + 1 → slice_get (slice_set xs n z) i ≡ Some x → P x
each-more P xs n y z h e p i x l g =
    (elim (nat_eq i n) as (λ b. nat_eq i n ≡ b → P x) [
      | true ↦ λ q.
          let w : i ≡ n = eqb-true i n q in
          let s : Some z ≡ Some x = sym (ap (slice_get (slice_set xs n z)) w ∙ same_set xs n y z e) ∙ g in
          let v : z ≡ x = cc in subst P v p
      | false ↦ λ q.
          let w = eqb-false i n q in
          h i x (omega arith) (sym (other_set xs n i z w) ∙ g)
    ]) refl

pub alike-refl : (x : Instance) → IsAlike x x
alike-refl x = record { params = refl; born = refl; told_at = refl; outcome = refl; values = refl; len = refl; capacity = omega arith }

pub alike-trans : (x y z : Instance) → IsAlike x y → IsAlike y z → IsAlike x z
alike-trans x y z h g =
    record { params = g.params ∙ h.params; born = g.born ∙ h.born; told_at = g.told_at ∙ h.told_at; outcome = g.outcome ∙ h.outcome; values = g.values ∙ h.values; len = g.len ∙ h.len; capacity = omega (arith, h.capacity, g.capacity) }

pub kept-refl : (l : Population) → IsKept l l
kept-refl l = record { rest = refl; lives = paired-refl IsAlike alike-refl l.lives.items; len = refl; capacity = omega arith; spares = omega arith; spare = λ h. h }

pub kept-trans : (l k m : Population) → IsKept l k → IsKept k m → IsKept l m
kept-trans l k m h g =
    record {
      rest = g.rest ∙ ap (λ (q : Population). record q { lives = m.lives; spares = m.spares }) h.rest;
      lives = paired-trans IsAlike alike-trans l.lives.items k.lives.items m.lives.items h.lives g.lives;
      len = g.len ∙ h.len;
      capacity = omega (arith, h.capacity, g.capacity);
      spares = omega (arith, h.spares, g.spares);
      spare = λ e. g.spare (h.spare e);
    }

-- what is right stays so, with room or with what is owed

module _ (k : Kind) (ps : List Kind) (on prepared later : Bool) (step : ℕ) (x y : Instance) (a : IsAlike x y) (h : InstanceRight k ps on prepared step x) where
  pub alike_right : vec_len y.values + owed later on step y.told_at ≤ vec_capacity y.values → InstanceRight k ps on later step y
  alike_right r =
      let t = a.told_at in let l = h.told_le in
      record {
        told_le = omega arith;
        before = λ e. let b = h.before e in omega (arith, b, t);
        told = λ e. subst (λ o. IsTrue (not (is_silent o))) (sym a.outcome) (h.told (sym t ∙ e));
        outcome = subst (λ o. IsTrue (is_outcome_of k o)) (sym a.outcome) h.outcome;
        values = subst (AllOf k) (sym a.values) h.values;
        kinds = subst (λ p. IsTrue (are_of_kinds ps (the_values p))) (sym a.params) h.kinds;
        formed = subst (λ p. IsTrue (is_well_formed p)) (sym a.params) h.formed;
        room = r;
      }

module _ (on prepared : Bool) (step : ℕ) (l k : Population) (a : IsKept l k) (h : PopulationRight on prepared step l) where
  few_still : length k.lives.items ≤ 65536
  few_still = omega (arith, h.few, paired-length IsAlike l.lives.items k.lives.items a.lives)

  still : PopulationRight on prepared step (record l { lives = k.lives; spares = k.spares })
  still = record {
    bad_le = h.bad_le;
    spawned_le = h.spawned_le;
    few = few_still;
    each = λ i y e.
        let p = paired-at IsAlike l.lives.items k.lives.items i y a.lives e in
        let x = p.0 in
        let r = h.each i x p.1 in
        let o : owed prepared on step y.told_at ≡ owed prepared on step x.told_at = ap (owed prepared on step) p.2.told_at in
        alike_right l.kind l.parameters on prepared prepared step x y p.2 r (omega (arith, r.room, o, p.2.len, p.2.capacity));
    room = λ w. omega (arith, h.room w, a.len, a.capacity);
    spares = λ w. omega (arith, h.spares w, a.spares);
    spare = a.spare h.spare;
  }

  pub kept_right : PopulationRight on prepared step k
  kept_right = subst (PopulationRight on prepared step) (sym a.rest) still

  ready : IsReady k → PopulationRight on true step (record l { lives = k.lives; spares = k.spares })
  ready g =
      let sp : k.spawns ≡ l.spawns = ap (λ (q : Population). q.spawns) a.rest in
      record {
        bad_le = h.bad_le;
        spawned_le = h.spawned_le;
        few = few_still;
        each = λ i y e.
            let p = paired-at IsAlike l.lives.items k.lives.items i y a.lives e in
            let r = g.each i y e in
            alike_right l.kind l.parameters on prepared true step p.0 y p.2 (h.each i p.0 p.1) (omega (arith, r.room, owed_two true on step y.told_at));
        room = λ w. omega (arith, g.lives (sp ∙ w), owed_two true on step l.spawned_at);
        spares = λ w. omega (arith, g.spares (sp ∙ w), owed_two true on step l.spawned_at);
        spare = a.spare h.spare;
      }

  pub ready_right : IsReady k → PopulationRight on true step k
  ready_right g = subst (PopulationRight on true step) (sym a.rest) (ready g)

-- what is seen and remembered stays

alike_shown : (step : ℕ) (x y : Instance) → IsAlike x y → shown step y ≡ shown step x
alike_shown step x y a = λ i. if nat_eq (a.told_at i) step then a.outcome i else outcome.Missing

instances_still : (step : ℕ) (xs ys : List Instance) → Paired IsAlike xs ys → map (instance_seen step) ys ≡ map (instance_seen step) xs
instances_still step [] [] h = refl
instances_still step [] (y ∷ ys) h = absurd h
instances_still step (x ∷ xs) [] h = absurd h
instances_still step (x ∷ xs) (y ∷ ys) h =
    let e = alike_shown step x y h.0 in let p = h.0.params in let r = instances_still step xs ys h.1 in
    let w = h.0.born in λ i. record { params = p i; born = w i; outcome = e i } ∷ r i

pub seen_still : (step : ℕ) (ls ks : List Population) → Paired IsKept ls ks → map (population_seen step) ks ≡ map (population_seen step) ls
seen_still step [] [] h = refl
seen_still step [] (k ∷ ks) h = absurd h
seen_still step (l ∷ ls) [] h = absurd h
seen_still step (l ∷ ls) (k ∷ ks) h =
    let q = instances_still step l.lives.items k.lives.items h.0.lives in
    let e : population_seen step k ≡ population_seen step l = ap (population_seen step) h.0.rest ∙ (λ i. record { bad = nat_eq l.bad_at step; spawned = nat_eq l.spawned_at step; instances = q i }) in
    λ i. e i ∷ seen_still step ls ks h.1 i

pub layout_still : (ls ks : List Population) → Paired IsKept ls ks → map population_layout ks ≡ map population_layout ls
layout_still [] [] h = refl
layout_still [] (k ∷ ks) h = absurd h
layout_still (l ∷ ls) [] h = absurd h
layout_still (l ∷ ls) (k ∷ ks) h = let e = ap population_layout h.0.rest in λ i. e i ∷ layout_still ls ks h.1 i

module _ (time step : ℕ) (names : Naming) (values : List (ℕ × Field)) where
  alike_recalls : (x y : Instance) → IsAlike x y → Recalls time step names x values → Recalls time step names y values
  alike_recalls x y a h =
      let e = alike_shown step x y a in
      record {
        all = ap (map (read_timed names)) a.values ∙ (h.all ∙ sym (ap (λ o. values ++ one_more time (read_outcome names o)) e));
        held = subst (AllHeld names) (sym a.values) h.held;
        now_held = subst (IsHeldIn names) (sym e) h.now_held;
      }

  instances_recall : (xs ys : List Instance) (i : ℕ) → Paired IsAlike xs ys → RecallsAt time step names (slice_get xs i) values → RecallsAt time step names (slice_get ys i) values
  instances_recall [] [] i p h = h
  instances_recall [] (y ∷ ys) i p h = absurd p
  instances_recall (x ∷ xs) [] i p h = absurd p
  instances_recall (x ∷ xs) (y ∷ ys) zero p h = alike_recalls x y p.0 h
  instances_recall (x ∷ xs) (y ∷ ys) (suc i) p h = instances_recall xs ys i p.1 h

  pub still_recall : (ls ks : List Population) (n i : ℕ) → Paired IsKept ls ks → RecallsAt time step names (instance_at ls n i) values → RecallsAt time step names (instance_at ks n i) values
  still_recall [] [] n i p h = h
  still_recall [] (k ∷ ks) n i p h = absurd p
  still_recall (l ∷ ls) [] n i p h = absurd p
  still_recall (l ∷ ls) (k ∷ ks) zero i p h = instances_recall l.lives.items k.lives.items i p.0.lives h
  still_recall (l ∷ ls) (k ∷ ks) (suc n) i p h = still_recall ls ks n i p.1 h
