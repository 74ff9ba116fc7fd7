-- What is true of a new store.
use Rattle.std.proofs.Common.{◌≡◌, ℕ, zero, suc, ◌≤◌, ◌<◌, List, [], ◌∷◌, length, map, refl, ap, sym, ◌∙◌, subst, arith, Some, slice_get, Bool, true, false, if◌then◌else◌, IsTrue, nat_eq}
use Rattle.std.specs.Prelude.{vec_len}
use Rattle.std.specs.Vec.{vec_capacity}
use Rattle.lola_value.specs.Naming.{Naming, the_values}
use Rattle.lola_value.specs.declared.value.Kind.{Kind}
use Rattle.lola_value.specs.Kinds.{are_of_kinds, is_outcome_of, is_well_formed}
use Rattle.lola_model.specs.Store.{opened, no_params, newborn_seen}
use Rattle.lola_store.specs.declared.instance.Instance.{Instance}
use Rattle.lola_store.specs.declared.population.Population.{Population}
use Rattle.lola_instances_stream.specs.Each.{Each}
use Rattle.lola_store.specs.Instances.{instance_seen, InstanceRight, Recalls, RecallsAt}
use Rattle.lola_store.specs.Opening.{AreFirst, IsOpened}
use Rattle.lola_store.specs.Populations.{IsNewborn, population_layout, population_seen, lives_in, instance_at}
use Rattle.lola_store.specs.Tallies.{AllOf}
use Rattle.lola_instances_stream.proofs.Beginnings.{owed_two}
use Rattle.lola_store.proofs.Changing.{newborn_silent, newborn_recalls}

first_seen : (spawns : Bool) (xs : List Instance) → AreFirst spawns xs → map (instance_seen 1) xs ≡ (if spawns then [] else newborn_seen 0 no_params ∷ [])
first_seen true xs h = ap (map (instance_seen 1)) h
first_seen false xs h =
    let none = newborn_silent 1 0 no_params h.0 h.2 (omega arith) in
    let one : instance_seen 1 h.0 ≡ newborn_seen 0 no_params = λ i. record { params = h.2.params_is i; born = h.2.born i; outcome = none i } in
    ap (map (instance_seen 1)) h.1 ∙ ap (λ z. z ∷ []) one

first_right : (k : Kind) (x : Instance) → IsNewborn 0 no_params x → InstanceRight k [] false false 1 x
first_right k x b =
    let z = b.told_at in
    record {
      told_le = omega arith;
      before = λ e. omega arith;
      told = λ e. absurd (omega arith);
      outcome = subst (λ o. IsTrue (is_outcome_of k o)) (sym b.outcome) refl;
      values = subst (AllOf k) (sym b.values) tt;
      kinds = subst (λ q. IsTrue (are_of_kinds [] (the_values q))) (sym b.params_is) refl;
      formed = subst (λ q. IsTrue (is_well_formed q)) (sym b.params_is) refl;
      room = omega (arith, x.values.ok.0, ap length b.values, owed_two false false 1 x.told_at, b.room);
    }

firsts_right : (k : Kind) (ps : List Kind) (spawns : Bool) (xs : List Instance) → (spawns ≡ false → ps ≡ []) → AreFirst spawns xs → Each (InstanceRight k ps false false 1) xs
firsts_right k ps true xs f h = subst (Each (InstanceRight k ps false false 1)) (sym h) (λ i x e. absurd (cc))
firsts_right k ps false xs f h =
    subst (λ (qs : List Kind). Each (InstanceRight k qs false false 1) xs) (sym (f refl)) (subst (Each (InstanceRight k [] false false 1)) (sym h.1) (one h.0 h.2))
  where
    one : (y : Instance) → IsNewborn 0 no_params y → (i : ℕ) (x : Instance) → slice_get (y ∷ []) i ≡ Some x → InstanceRight k [] false false 1 x
    one y b zero x e = let q : y ≡ x = cc in subst (InstanceRight k [] false false 1) q (first_right k y b)
    one y b (suc i) x e = absurd (cc)

first_few : (spawns : Bool) (xs : List Instance) → AreFirst spawns xs → length xs ≤ 1
first_few true xs h = omega (arith, ap length h)
first_few false xs h = omega (arith, ap length h.1)

no_lives : (spawns : Bool) (xs : List Instance) → AreFirst spawns xs → spawns ≡ true → length xs ≡ 0
no_lives true xs h e = ap length h
no_lives false xs h e = cc

first_blank : (spawns : Bool) (xs : List Instance) → AreFirst spawns xs → (names : Naming) → Each (λ x. Recalls 0 1 names x []) xs
first_blank true xs h names = subst (Each (λ x. Recalls 0 1 names x [])) (sym h) (λ i x e. absurd (cc))
first_blank false xs h names = subst (Each (λ x. Recalls 0 1 names x [])) (sym h.1) (one h.0 h.2)
  where
    one : (y : Instance) → IsNewborn 0 no_params y → (i : ℕ) (x : Instance) → slice_get (y ∷ []) i ≡ Some x → Recalls 0 1 names x []
    one y b zero x e = let q : y ≡ x = cc in subst (λ (z : Instance). Recalls 0 1 names z []) q (newborn_recalls 0 1 names 0 no_params y b (omega arith))
    one y b (suc i) x e = absurd (cc)

pub opened_is : (l : Population) → l.bad_at ≡ 0 → l.spawned_at ≡ 0 → l.spares.items ≡ [] → AreFirst l.spawns l.lives.items → IsOpened l
opened_is l b s e f =
    let q = first_seen l.spawns l.lives.items f in
    record {
      seen = λ i. record { bad = nat_eq (b i) 1; spawned = nat_eq (s i) 1; instances = q i };
      right = λ p. record {
        bad_le = omega (arith, b);
        spawned_le = omega (arith, s);
        few = omega (arith, first_few l.spawns l.lives.items f);
        each = firsts_right l.kind l.parameters l.spawns l.lives.items p f;
        room = λ w. let n = no_lives l.spawns l.lives.items f w in omega (arith, n, l.lives.ok.0);
        spares = λ w. omega arith;
        spare = subst (Each (λ v. (vec_len v ≡ 0) × (2 ≤ vec_capacity v))) (sym e) (λ i x g. absurd (cc));
      };
      blank = first_blank l.spawns l.lives.items f;
    }

-- all streams of a new store
pub all_opened : (ls : List Population) → Each IsOpened ls → map (population_seen 1) ls ≡ map opened (map population_layout ls)
all_opened [] h = refl
all_opened (l ∷ ls) h = let e = (h 0 l refl).seen in let r = all_opened ls (λ i x q. h (suc i) x q) in λ i. e i ∷ r i

blank_in : (names : Naming) (xs : List Instance) (i : ℕ) → Each (λ x. Recalls 0 1 names x []) xs → i < length xs → RecallsAt 0 1 names (slice_get xs i) []
blank_in names [] i h l = absurd (omega arith)
blank_in names (x ∷ xs) zero h l = h 0 x refl
blank_in names (x ∷ xs) (suc i) h l = blank_in names xs i (λ j y q. h (suc j) y q) (omega arith)

pub blank_at : (names : Naming) (ls : List Population) (n i : ℕ) → Each IsOpened ls → i < length (lives_in (slice_get ls n)) → RecallsAt 0 1 names (instance_at ls n i) []
blank_at names [] zero i h l = absurd (omega arith)
blank_at names [] (suc n) i h l = absurd (omega arith)
blank_at names (x ∷ ls) zero i h l = blank_in names x.lives.items i ((h 0 x refl).blank names) l
blank_at names (x ∷ ls) (suc n) i h l = blank_at names ls n i (λ j y q. h (suc j) y q) l
