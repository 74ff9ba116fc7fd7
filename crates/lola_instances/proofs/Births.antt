-- An instance that is born.
use Rattle.std.proofs.Common.{◌≡◌, ℕ, zero, suc, ◌+◌, ◌≤◌, ◌<◌, List, [], ◌∷◌, ◌++◌, length, map, refl, ap, sym, ◌∙◌, subst, arith, Option, Some, None, slice_get, slice_set, nat_eq, if◌then◌else◌, Bool, true, false, not, IsTrue, eq-eqb, length-append}
use Rattle.std.proofs.lemmas.Bool.{ltb-true}
use Rattle.std.proofs.lemmas.List.{map-append}
use Rattle.lola_value.specs.declared.value.Params.{Params}
use Rattle.lola_model.specs.Spawning.{has_room}
use Rattle.lola_model.specs.Store.{SeenStream, StreamLayout, changed_at, has_spawned, newborn_seen, spawns_in}
use Rattle.lola_instances_one.specs.Holdings.{slot_seen}
use Rattle.lola_instances_stream.specs.Births.{newborn}
use Rattle.lola_instances_stream.specs.Crowds.{Crowd, crowd_seen}
use Rattle.lola_instances_stream.specs.Rights.{AreRight, CrowdRight}
use Rattle.lola_instances_stream.proofs.Newborns.{newborn_shows}
use Rattle.lola_instances.specs.Streams.{crowd_layout}
use Rattle.lola_instances.proofs.Asking.{layout_at, stream_at}
use Rattle.lola_instances.proofs.Changing.{changed_set}
use Rattle.lola_instances.proofs.Owed.{owed_fall}

no_both : (b : Bool) → b ≡ true → not b ≡ true → ⊥
no_both true e f = cc
no_both false e f = cc

pub spawns_at : (cs : List Crowd) (n : ℕ) (c : Crowd) → slice_get cs n ≡ Some c → IsTrue (spawns_in (slice_get (map crowd_layout cs) n)) → c.layout.spawns ≡ true
spawns_at cs n c e h = subst (λ (o : Option StreamLayout). IsTrue (spawns_in o)) (layout_at cs n c e) h

pub unspawned : (step : ℕ) (cs : List Crowd) (n : ℕ) (c : Crowd) → slice_get cs n ≡ Some c → IsTrue (not (has_spawned (slice_get (map (crowd_seen step) cs) n))) → c.spawned_at ≡ step → ⊥
unspawned step cs n c e h q = no_both (nat_eq c.spawned_at step) (eq-eqb c.spawned_at step q) (subst (λ (o : Option SeenStream). IsTrue (not (has_spawned o))) (stream_at step cs n c e) h)

room_few : (o : Option ℕ) (n : ℕ) → has_room o n ≡ true → n < 65536
room_few None n e = ltb-true n 65536 e
room_few (Some i) n e = cc

-- a stream with one more instance, or none

module _ (running prepared : Bool) (step offset : ℕ) (c y : Crowd) (time : ℕ) (p : Params) (b : Bool) (h : CrowdRight running prepared step offset c) where
  pub spawn_right : (o : Option ℕ) → b ≡ has_room o (length c.slots) → running ≡ true → (c.spawned_at ≡ step → ⊥) → (IsTrue (not b) → y ≡ c)
      → (IsTrue b → y ≡ record c { spawned_at = step; slots = c.slots ++ newborn c.layout.kept c.windows time p ∷ []; spares = y.spares }) → c.spares ≤ y.spares + 1 → AreRight running step offset y
      → CrowdRight running prepared step offset y
  spawn_right o q r u living born spares right = by_room b refl
    where
      by_room : (t : Bool) → b ≡ t → CrowdRight running prepared step offset y
      by_room false e = subst (CrowdRight running prepared step offset) (sym (living (ap not e))) h
      by_room true e =
          let g = born e in
          let l = room_few o (length c.slots) (sym q ∙ e) in
          let w = ap (λ (z : Crowd). z.layout.spawns) g in
          let at = ap (λ (z : Crowd). z.spawned_at) g in
          let n : length y.slots ≡ length c.slots + 1 = ap (λ (z : Crowd). length z.slots) g ∙ length-append c.slots (newborn c.layout.kept c.windows time p ∷ []) in
          let fall = owed_fall prepared running step c.spawned_at y.spawned_at r u at in
          record {
            bad_le = omega (arith, h.bad_le, ap (λ (z : Crowd). z.bad_at) g);
            spawned_le = omega (arith, at);
            kept = omega (arith, h.kept, ap (λ (z : Crowd). z.layout.kept) g);
            few = omega (arith, n, l);
            each = right;
            room = λ e. omega (arith, h.room (sym w ∙ e), fall, n, ap (λ (z : Crowd). z.capacity) g);
            spares = λ e. omega (arith, h.spares (sym w ∙ e), fall, spares);
          }

pub born_seen : (step : ℕ) (c y : Crowd) (time : ℕ) (p : Params) → 1 ≤ step → y ≡ record c { spawned_at = step; slots = c.slots ++ newborn c.layout.kept c.windows time p ∷ []; spares = y.spares }
    → crowd_seen step y ≡ record (crowd_seen step c) { spawned = true; instances = map (slot_seen step) c.slots ++ newborn_seen time p ∷ [] }
born_seen step c y time p l g =
    let b = ap (λ (z : Crowd). z.bad_at) g in
    let s : nat_eq y.spawned_at step ≡ true = eq-eqb y.spawned_at step (ap (λ (z : Crowd). z.spawned_at) g) in
    let m : map (slot_seen step) y.slots ≡ map (slot_seen step) c.slots ++ newborn_seen time p ∷ [] =
    ap (λ (z : Crowd). map (slot_seen step) z.slots) g
    ∙ (map-append (slot_seen step) c.slots (newborn c.layout.kept c.windows time p ∷ []) ∙ ap (λ x. map (slot_seen step) c.slots ++ x ∷ []) (newborn_shows c.layout.kept step c.windows time p l)) in
    λ j. record { bad = nat_eq (b j) step; spawned = s j; instances = m j }

module _ (step : ℕ) (c y : Crowd) (time : ℕ) (p : Params) (b : Bool) (living : IsTrue (not b) → y ≡ c)
    (born : IsTrue b → y ≡ record c { spawned_at = step; slots = c.slots ++ newborn c.layout.kept c.windows time p ∷ []; spares = y.spares }) where
  pub spawn_layout : y.layout ≡ c.layout
  spawn_layout = by_room b refl
    where
      by_room : (t : Bool) → b ≡ t → y.layout ≡ c.layout
      by_room false e = ap (λ (z : Crowd). z.layout) (living (ap not e))
      by_room true e = ap (λ (z : Crowd). z.layout) (born e)

  pub spawn_windows : y.windows ≡ c.windows
  spawn_windows = by_room b refl
    where
      by_room : (t : Bool) → b ≡ t → y.windows ≡ c.windows
      by_room false e = ap (λ (z : Crowd). z.windows) (living (ap not e))
      by_room true e = ap (λ (z : Crowd). z.windows) (born e)

same_again : (cs : List Crowd) (n : ℕ) (c y : Crowd) → slice_get cs n ≡ Some c → y ≡ c → slice_set cs n y ≡ cs
same_again [] n c y e q = refl
same_again (x ∷ cs) zero c y e q = let w : c ≡ x = cc in ap (λ z. z ∷ cs) (q ∙ w)
same_again (x ∷ cs) (suc n) c y e q = ap (λ zs. x ∷ zs) (same_again cs n c y e q)

pub spawn_seen : (step : ℕ) (cs : List Crowd) (n : ℕ) (c y : Crowd) (time : ℕ) (p : Params) (b : Bool) → slice_get cs n ≡ Some c → 1 ≤ step → (IsTrue (not b) → y ≡ c)
    → (IsTrue b → y ≡ record c { spawned_at = step; slots = c.slots ++ newborn c.layout.kept c.windows time p ∷ []; spares = y.spares })
    → map (crowd_seen step) (slice_set cs n y)
    ≡ (if b then changed_at (map (crowd_seen step) cs) n (λ x. record x { spawned = true; instances = x.instances ++ newborn_seen time p ∷ [] }) else map (crowd_seen step) cs)
spawn_seen step cs n c y time p true e l living born = changed_set step cs n c y (λ (x : SeenStream). record x { spawned = true; instances = x.instances ++ newborn_seen time p ∷ [] }) e (born_seen step c y time p l (born refl))
spawn_seen step cs n c y time p false e l living born = ap (map (crowd_seen step)) (same_again cs n c y e (living refl))
