-- What is restored of the instances of a store.
use Rattle.std.proofs.Common.{◌≡◌, ℕ, ◌+◌, ◌-◌, ◌≤◌, ◌<◌, List, [], ◌∷◌, ◌++◌, length, map, refl, ap, sym, ◌∙◌, subst, arith, Option, Some, None, slice_get, slice_set, nat_eq, if◌then◌else◌, Bool, true, false, not, ◌&&◌, IsTrue, length-append, Result, Ok, Err, OnOk}
use Rattle.std.specs.Prelude.{OnErr}
use Rattle.std.proofs.lemmas.Bool.{eqb-true, eqb-false}
use Rattle.std.proofs.lemmas.List.{map-append}
use Rattle.lola_value.specs.declared.value.Params.{Params}
use Rattle.lola_model.specs.Store.{SeenStream, changed_at, has_spawned, newborn_seen}
use Rattle.lola_instances_one.specs.Holdings.{Holdings, slot_seen}
use Rattle.lola_instances_stream.specs.Births.{newborn}
use Rattle.lola_instances_stream.specs.Changes.{IsChangedAt}
use Rattle.lola_instances_stream.specs.Crowds.{Crowd, crowd_seen}
use Rattle.lola_instances_stream.specs.Rights.{AreRight, CrowdRight, owed}
use Rattle.lola_instances_stream.proofs.Lists.{got_last, map_set, other_set, same_set}
use Rattle.lola_instances_stream.proofs.Newborns.{newborn_shows, past_append}
use Rattle.lola_instances.specs.Restoring.{newborn_of}
use Rattle.lola_instances.specs.Streams.{slot_at, slots_in}
use Rattle.lola_instances.proofs.Asking.{stream_at}
use Rattle.lola_instances.proofs.Changing.{changed_set, past_set}
use Rattle.lola_instances.proofs.Preparing.{kept_right}

-- no birth is still to come in a step that is over
pub owed_over : (prepared running : Bool) (step : ℕ) (cs : List Crowd) (n : ℕ) (c : Crowd) → slice_get cs n ≡ Some c → IsTrue (has_spawned (slice_get (map (crowd_seen step) cs) n)) → owed prepared running step c.spawned_at ≤ 1
owed_over prepared running step cs n c e h =
    let at : nat_eq c.spawned_at step ≡ true = subst (λ (o : Option SeenStream). IsTrue (has_spawned o)) (stream_at step cs n c e) h in
    subst (λ b. (if prepared then 1 else 0) + (if running && not b then 1 else 0) ≤ 1) (sym at) (little prepared running)
  where
    little : (p r : Bool) → (if p then 1 else 0) + (if r && not true then 1 else 0) ≤ 1
    little true true = omega arith
    little true false = omega arith
    little false true = omega arith
    little false false = omega arith

-- a stream with one more instance

module _ (running prepared : Bool) (step offset : ℕ) (c y : Crowd) (time : ℕ) (p : Params)
    (born : y ≡ record c { slots = c.slots ++ newborn c.layout.kept c.windows time p ∷ []; capacity = y.capacity; spares = y.spares }) where
  pub restored_right : CrowdRight running prepared step offset c → owed prepared running step c.spawned_at ≤ 1 → length c.slots < 65536 → length y.slots + 1 ≤ y.capacity → 1 ≤ y.spares → AreRight running step offset y
      → CrowdRight running prepared step offset y
  restored_right h o few room spares right =
      let n : length y.slots ≡ length c.slots + 1 = ap (λ (z : Crowd). length z.slots) born ∙ length-append c.slots (newborn c.layout.kept c.windows time p ∷ []) in
      let same = ap (λ (z : Crowd). owed prepared running step z.spawned_at) born in
      record {
        bad_le = omega (arith, h.bad_le, ap (λ (z : Crowd). z.bad_at) born);
        spawned_le = omega (arith, h.spawned_le, ap (λ (z : Crowd). z.spawned_at) born);
        kept = omega (arith, h.kept, ap (λ (z : Crowd). z.layout.kept) born);
        few = omega (arith, n, few);
        each = right;
        room = λ e. omega (arith, room, same, o);
        spares = λ e. omega (arith, spares, same, o);
      }

  pub restored_seen : 1 ≤ step → crowd_seen step y ≡ record (crowd_seen step c) { instances = map (slot_seen step) c.slots ++ newborn_seen time p ∷ [] }
  restored_seen l =
      let b = ap (λ (z : Crowd). z.bad_at) born in
      let s = ap (λ (z : Crowd). z.spawned_at) born in
      let m : map (slot_seen step) y.slots ≡ map (slot_seen step) c.slots ++ newborn_seen time p ∷ [] =
      ap (λ (z : Crowd). map (slot_seen step) z.slots) born
      ∙ (map-append (slot_seen step) c.slots (newborn c.layout.kept c.windows time p ∷ []) ∙ ap (λ x. map (slot_seen step) c.slots ++ x ∷ []) (newborn_shows c.layout.kept step c.windows time p l)) in
      λ j. record { bad = nat_eq (b j) step; spawned = nat_eq (s j) step; instances = m j }

  module _ (cs : List Crowd) (n : ℕ) (e : slice_get cs n ≡ Some c) where
    pub all_restored_seen : 1 ≤ step → map (crowd_seen step) (slice_set cs n y) ≡ changed_at (map (crowd_seen step) cs) n (λ x. record x { instances = x.instances ++ newborn_seen time p ∷ [] })
    all_restored_seen l = changed_set step cs n c y (λ (x : SeenStream). record x { instances = x.instances ++ newborn_seen time p ∷ [] }) e (restored_seen l)

    -- who lives is found where it was
    pub stays_at : (P : Option Holdings → Type 0) (m j : ℕ) → (P None → ⊥) → P (slot_at cs m j) → P (slot_at (slice_set cs n y) m j)
    stays_at P m j none h =
        past_set P cs n c y e m j
        (λ q. subst (λ (z : Crowd). P (slice_get z.slots j)) (sym born) (past_append P c.slots (newborn c.layout.kept c.windows time p) j none q)) h

    -- and the new one behind them
    pub stands_last : (k : ℕ) → k ≡ length c.slots → slot_at (slice_set cs n y) n k ≡ Some (newborn c.layout.kept c.windows time p)
    stands_last k q =
        ap (λ o. slice_get (slots_in o) k) (same_set cs n c y e)
        ∙ (ap (λ (z : Crowd). slice_get z.slots k) born ∙ (ap (slice_get (c.slots ++ newborn c.layout.kept c.windows time p ∷ [])) q ∙ got_last c.slots (newborn c.layout.kept c.windows time p)))

    pub new_is : (k : ℕ) → k ≡ length c.slots → slot_at (slice_set cs n y) n k ≡ newborn_of (slice_get cs n) time p
    new_is k q = stands_last k q ∙ sym (ap (λ o. newborn_of o time p) e)

-- whether there was memory or not

abbrev pub Born : Crowd → Crowd → ℕ → Params → Type 0
Born c y time p = y ≡ record c { slots = c.slots ++ newborn c.layout.kept c.windows time p ∷ []; capacity = y.capacity; spares = y.spares }

abbrev pub Stays : Crowd → Crowd → Type 0
Stays c y = y ≡ record c { capacity = y.capacity; spares = y.spares }

module _ {T E : Type 0} (c y : Crowd) (time : ℕ) (p : Params) where
  pub restore_layout : (r : Result T E) → OnOk r (Born c y time p) → OnErr r (Stays c y) → y.layout ≡ c.layout
  restore_layout (Ok x) ok err = ap (λ (z : Crowd). z.layout) ok
  restore_layout (Err x) ok err = ap (λ (z : Crowd). z.layout) err

  pub restore_windows : (r : Result T E) → OnOk r (Born c y time p) → OnErr r (Stays c y) → y.windows ≡ c.windows
  restore_windows (Ok x) ok err = ap (λ (z : Crowd). z.windows) ok
  restore_windows (Err x) ok err = ap (λ (z : Crowd). z.windows) err

  pub restore_right : (running prepared : Bool) (step offset : ℕ) (r : Result T E) → CrowdRight running prepared step offset c → owed prepared running step c.spawned_at ≤ 1 → length c.slots < 65536
      → OnOk r (Born c y time p) → OnErr r (Stays c y) → OnOk r (length y.slots + 1 ≤ y.capacity) → OnOk r (1 ≤ y.spares) → c.capacity ≤ y.capacity → OnErr r (c.spares ≤ y.spares) → AreRight running step offset y
      → CrowdRight running prepared step offset y
  restore_right running prepared step offset (Ok x) h o few ok err room spare capacity more right = restored_right running prepared step offset c y time p ok h o few room spare right
  restore_right running prepared step offset (Err x) h o few ok err room spare capacity more right = kept_right running prepared step offset c y (record { rest = err; capacity = capacity; spares = more }) h

-- an instance that is restored shows what it did
pub same_seen : (step : ℕ) (cs : List Crowd) (n : ℕ) (c y : Crowd) → slice_get cs n ≡ Some c → y ≡ record c { slots = y.slots } → map (slot_seen step) y.slots ≡ map (slot_seen step) c.slots
    → map (crowd_seen step) (slice_set cs n y) ≡ map (crowd_seen step) cs
same_seen step cs n c y e rest seen =
    let b = ap (λ (z : Crowd). z.bad_at) rest in
    let s = ap (λ (z : Crowd). z.spawned_at) rest in
    map_set (crowd_seen step) cs n c y e (λ j. record { bad = nat_eq (b j) step; spawned = nat_eq (s j) step; instances = seen j })

-- one instance of one stream is another one

module _ (R : Holdings → Holdings → Type 0) (cs : List Crowd) (n i : ℕ) (c y : Crowd) (e : slice_get cs n ≡ Some c) (h : IsChangedAt R i c.slots y.slots) where
  pub was_slot : slot_at cs n i ≡ Some h.x
  was_slot = ap (λ o. slice_get (slots_in o) i) e ∙ h.at

  pub is_slot : slot_at (slice_set cs n y) n i ≡ Some h.y
  is_slot = ap (λ o. slice_get (slots_in o) i) (same_set cs n c y e) ∙ (ap (λ ss. slice_get ss i) h.set ∙ same_set c.slots i h.x h.y h.at)

  pub other_slots : (m j : ℕ) → (m ≡ n → j ≡ i → ⊥) → slot_at (slice_set cs n y) m j ≡ slot_at cs m j
  other_slots m j others =
      (elim (nat_eq m n) as (λ b. nat_eq m n ≡ b → slot_at (slice_set cs n y) m j ≡ slot_at cs m j) [
        | true ↦ λ q.
            let w : m ≡ n = eqb-true m n q in
            let old : slot_at cs m j ≡ slice_get c.slots j = ap (λ k. slot_at cs k j) w ∙ ap (λ o. slice_get (slots_in o) j) e in
            let new : slot_at (slice_set cs n y) m j ≡ slice_get y.slots j = ap (λ k. slot_at (slice_set cs n y) k j) w ∙ ap (λ o. slice_get (slots_in o) j) (same_set cs n c y e) in
            new ∙ (ap (λ ss. slice_get ss j) h.set ∙ (other_set c.slots i j h.y (others w) ∙ sym old))
        | false ↦ λ q. ap (λ o. slice_get (slots_in o) j) (other_set cs n m y (eqb-false m n q))
      ]) refl
