-- One stream of a store is changed.
use Rattle.std.proofs.Common.{◌≡◌, ℕ, zero, suc, ◌+◌, ◌-◌, ◌≤◌, ◌<◌, List, [], ◌∷◌, length, map, refl, ap, sym, ◌∙◌, subst, arith, Option, Some, slice_get, slice_set, nat_eq, nat_le, if◌then◌else◌, Bool, true, false, ◌&&◌, IsTrue}
use Rattle.std.proofs.lemmas.Bool.{eqb-true, eqb-false, leb-true, leb-false}
use Rattle.lola_model.specs.Reading.{moved_up}
use Rattle.lola_model.specs.Store.{SeenStream, SeenInstance, changed_at, instances_of, is_silent, now_at, quiet, StreamLayout}
use Rattle.lola_model.specs.declared.plan.PaneSize.{PaneSize}
use Rattle.lola_model.specs.declared.spec.WindowSpec.{WindowSpec}
use Rattle.lola_instances_one.specs.declared.window.WindowPanes.{WindowPanes}
use Rattle.lola_instances_one.specs.Holdings.{Holdings, slot_seen}
use Rattle.lola_instances_stream.specs.Crowds.{Crowd, crowd_seen, shown_at}
use Rattle.lola_instances_stream.specs.Each.{Each}
use Rattle.lola_instances_stream.specs.Rights.{AreRight, CrowdRight, owed}
use Rattle.lola_instances_stream.proofs.Beginnings.{crowd_quiet}
use Rattle.lola_instances_stream.proofs.Finding.{seen_at}
use Rattle.lola_instances_stream.proofs.Lists.{same_set, other_set}
use Rattle.lola_instances.specs.Opening.{count_onto}
use Rattle.lola_instances.specs.Placed.{IsPaneOf, IsPlaced, ArePlaced, AreCovered}
use Rattle.lola_instances.specs.Spawning.{AreNumbered, is_among}
use Rattle.lola_instances.specs.Streams.{crowd_layout, slots_in, slot_at}
use Rattle.lola_instances.proofs.Asking.{stream_at}

pub silent_in : (step : ℕ) (cs : List Crowd) (n i : ℕ) (c : Crowd) → slice_get cs n ≡ Some c → IsTrue (is_silent (now_at (slice_get (instances_of (slice_get (map (crowd_seen step) cs) n)) i)))
    → IsTrue (is_silent (shown_at step (slice_get c.slots i)))
silent_in step cs n i c e h = subst (λ o. IsTrue (is_silent o)) (ap (λ o. now_at (slice_get (instances_of o) i)) (stream_at step cs n c e) ∙ seen_at step c.slots i) h

-- what is seen where one stream is another

pub layout_set : (cs : List Crowd) (n : ℕ) (c y : Crowd) → slice_get cs n ≡ Some c → y.layout ≡ c.layout → map crowd_layout (slice_set cs n y) ≡ map crowd_layout cs
layout_set [] n c y e q = refl
layout_set (x ∷ cs) zero c y e q = let w : c ≡ x = cc in ap (λ z. z ∷ map crowd_layout cs) (q ∙ ap crowd_layout w)
layout_set (x ∷ cs) (suc n) c y e q = ap (λ zs. x.layout ∷ zs) (layout_set cs n c y e q)

pub changed_set : (step : ℕ) (cs : List Crowd) (n : ℕ) (c y : Crowd) (g : SeenStream → SeenStream) → slice_get cs n ≡ Some c → crowd_seen step y ≡ g (crowd_seen step c)
    → map (crowd_seen step) (slice_set cs n y) ≡ changed_at (map (crowd_seen step) cs) n g
changed_set step [] n c y g e q = absurd (cc)
changed_set step (x ∷ cs) zero c y g e q = let w : c ≡ x = cc in ap (λ z. z ∷ map (crowd_seen step) cs) (q ∙ ap (λ z. g (crowd_seen step z)) w)
changed_set step (x ∷ cs) (suc n) c y g e q = ap (λ zs. crowd_seen step x ∷ zs) (changed_set step cs n c y g e q)

some_same : {X : Type 0} {x y : X} → Some x ≡ Some y → x ≡ y
some_same q = cc

pub placed_as : (w : WindowSpec) (size : PaneSize) (place : ℕ) (c y : Crowd) → y.layout ≡ c.layout → y.windows ≡ c.windows → IsPlaced w size place c → IsPlaced w size place y
placed_as w size place c y l q h =
    record {
      below = subst (λ (ws : List WindowPanes). place < length ws) (sym q) h.below;
      is = λ p e. subst (λ (z : StreamLayout). IsPaneOf z.kind w size p) (sym l) (h.is p (ap (λ (ws : List WindowPanes). slice_get ws place) (sym q) ∙ e));
    }

pub placed_set : (ws : List WindowSpec) (sizes : List PaneSize) (places : List ℕ) (cs : List Crowd) (n : ℕ) (c y : Crowd) → slice_get cs n ≡ Some c → y.layout ≡ c.layout → y.windows ≡ c.windows
    → ArePlaced ws sizes places cs → ArePlaced ws sizes places (slice_set cs n y)
placed_set ws sizes places cs n c y e l q h =
    record {
      size_count = h.size_count;
      place_count = h.place_count;
      each = λ i w p k x f g a at.
          (elim (nat_eq w.target n) as (λ b. nat_eq w.target n ≡ b → IsPlaced w p k x) [
            | true ↦ λ t.
                let m : w.target ≡ n = eqb-true w.target n t in
                let s : y ≡ x = some_same (sym (same_set cs n c y e) ∙ (sym (ap (λ (j : ℕ). slice_get (slice_set cs n y) j) m) ∙ at)) in
                subst (IsPlaced w p k) s (placed_as w p k c y l q (h.each i w p k c f g a (ap (λ (j : ℕ). slice_get cs j) m ∙ e)))
            | false ↦ λ t. h.each i w p k x f g a (sym (other_set cs n w.target y (eqb-false w.target n t)) ∙ at)
          ]) refl;
    }

-- it has as many places as before
pub covered_set : (ws : List WindowSpec) (cs : List Crowd) (n : ℕ) (c y : Crowd) → slice_get cs n ≡ Some c → y.windows ≡ c.windows → AreCovered ws cs → AreCovered ws (slice_set cs n y)
covered_set ws cs n c y e q h = λ m x at.
    (elim (nat_eq m n) as (λ b. nat_eq m n ≡ b → length x.windows ≡ count_onto m ws) [
      | true ↦ λ t.
          let k : m ≡ n = eqb-true m n t in
          let s : y ≡ x = some_same (sym (same_set cs n c y e) ∙ (sym (ap (λ (j : ℕ). slice_get (slice_set cs n y) j) k) ∙ at)) in
          ap (λ (z : Crowd). length z.windows) (sym s) ∙ (ap length q ∙ h m c (ap (λ (j : ℕ). slice_get cs j) k ∙ e))
      | false ↦ λ t. h m x (sym (other_set cs n m y (eqb-false m n t)) ∙ at)
    ]) refl

-- its number is listed as before
pub numbered_set : (cs : List Crowd) (ns : List ℕ) (n : ℕ) (c y : Crowd) → slice_get cs n ≡ Some c → y.layout ≡ c.layout → AreNumbered cs ns → AreNumbered (slice_set cs n y) ns
numbered_set cs ns n c y e l h = λ m x at spawns.
    (elim (nat_eq m n) as (λ b. nat_eq m n ≡ b → is_among m ns ≡ true) [
      | true ↦ λ t.
          let k : m ≡ n = eqb-true m n t in
          let s : y ≡ x = some_same (sym (same_set cs n c y e) ∙ (sym (ap (λ (j : ℕ). slice_get (slice_set cs n y) j) k) ∙ at)) in
          h m c (ap (λ (j : ℕ). slice_get cs j) k ∙ e) (sym (ap (λ (z : StreamLayout). z.spawns) l) ∙ (ap (λ (z : Crowd). z.layout.spawns) s ∙ spawns))
      | false ↦ λ t. h m x (sym (other_set cs n m y (eqb-false m n t)) ∙ at) spawns
    ]) refl

-- what is said of instances where one stream is another

module _ (P : Option Holdings → Type 0) (cs : List Crowd) (n : ℕ) (c y : Crowd) (e : slice_get cs n ≡ Some c) where
  pub past_set : (m j : ℕ) → (P (slice_get c.slots j) → P (slice_get y.slots j)) → P (slot_at cs m j) → P (slot_at (slice_set cs n y) m j)
  past_set m j f h =
      (elim (nat_eq m n) as (λ b. nat_eq m n ≡ b → P (slot_at (slice_set cs n y) m j)) [
        | true ↦ λ q.
            let w : m ≡ n = eqb-true m n q in
            let old : slot_at cs m j ≡ slice_get c.slots j = ap (λ k. slot_at cs k j) w ∙ ap (λ o. slice_get (slots_in o) j) e in
            let new : slot_at (slice_set cs n y) m j ≡ slice_get y.slots j = ap (λ k. slot_at (slice_set cs n y) k j) w ∙ ap (λ o. slice_get (slots_in o) j) (same_set cs n c y e) in
            subst P (sym new) (f (subst P old h))
        | false ↦ λ q. subst P (sym (ap (λ o. slice_get (slots_in o) j) (other_set cs n m y (eqb-false m n q)))) h
      ]) refl

  pub past_remove : (i m j : ℕ) → ((k : ℕ) → k < i → slice_get y.slots k ≡ slice_get c.slots k) → ((k : ℕ) → i ≤ k → slice_get y.slots k ≡ slice_get c.slots (k + 1))
      → P (slot_at cs m (moved_up n i m j)) → P (slot_at (slice_set cs n y) m j)
  past_remove i m j before after h =
      (elim (nat_eq m n) as (λ b. nat_eq m n ≡ b → P (slot_at cs m (if b && nat_le i j then j + 1 else j)) → P (slot_at (slice_set cs n y) m j)) [
        | true ↦ λ q g.
            let w : m ≡ n = eqb-true m n q in
            let old : (k : ℕ) → slot_at cs m k ≡ slice_get c.slots k = λ k. ap (λ m. slot_at cs m k) w ∙ ap (λ o. slice_get (slots_in o) k) e in
            let new : slot_at (slice_set cs n y) m j ≡ slice_get y.slots j = ap (λ k. slot_at (slice_set cs n y) k j) w ∙ ap (λ o. slice_get (slots_in o) j) (same_set cs n c y e) in
            (elim (nat_le i j) as (λ b. nat_le i j ≡ b → P (slot_at cs m (if b then j + 1 else j)) → P (slot_at (slice_set cs n y) m j)) [
              | true ↦ λ le g. subst P (sym (new ∙ after j (leb-true i j le))) (subst P (old (j + 1)) g)
              | false ↦ λ le g. subst P (sym (new ∙ before j (leb-false i j le))) (subst P (old j) g)
            ]) refl g
        | false ↦ λ q g. subst P (sym (ap (λ o. slice_get (slots_in o) j) (other_set cs n m y (eqb-false m n q)))) g
      ]) refl h

-- a stream whose instances alone have changed

module _ (running prepared : Bool) (step offset : ℕ) (c y : Crowd) (h : CrowdRight running prepared step offset c) (rest : y ≡ record c { slots = y.slots }) where
  pub slots_right : length y.slots ≤ length c.slots → AreRight running step offset y → CrowdRight running prepared step offset y
  slots_right count right =
      let b = ap (λ (z : Crowd). z.bad_at) rest in
      let s = ap (λ (z : Crowd). z.spawned_at) rest in
      let o = ap (owed prepared running step) s in
      let w = ap (λ (z : Crowd). z.layout.spawns) rest in
      record {
        bad_le = omega (arith, h.bad_le, b);
        spawned_le = omega (arith, h.spawned_le, s);
        kept = omega (arith, h.kept, ap (λ (z : Crowd). z.layout.kept) rest);
        few = omega (arith, h.few, count);
        each = right;
        room = λ e. omega (arith, h.room (sym w ∙ e), o, count, ap (λ (z : Crowd). z.capacity) rest);
        spares = λ e. omega (arith, h.spares (sym w ∙ e), o, ap (λ (z : Crowd). z.spares) rest);
      }

pub slots_seen : (step : ℕ) (c y : Crowd) (f : List SeenInstance → List SeenInstance) → y ≡ record c { slots = y.slots } → map (slot_seen step) y.slots ≡ f (map (slot_seen step) c.slots)
    → crowd_seen step y ≡ record (crowd_seen step c) { instances = f (map (slot_seen step) c.slots) }
slots_seen step c y f rest e =
    let b = ap (λ (z : Crowd). z.bad_at) rest in
    let s = ap (λ (z : Crowd). z.spawned_at) rest in
    λ j. record { bad = nat_eq (b j) step; spawned = nat_eq (s j) step; instances = e j }

-- a step begins

pub all_quiet : (running prepared : Bool) (step offset : ℕ) (cs : List Crowd) → Each (CrowdRight running prepared step offset) cs → map (crowd_seen (step + 1)) cs ≡ map quiet (map (crowd_seen step) cs)
all_quiet running prepared step offset [] h = refl
all_quiet running prepared step offset (c ∷ cs) h =
    let q = crowd_quiet running prepared step offset c (h 0 c refl) in
    let r = all_quiet running prepared step offset cs (λ i y e. h (suc i) y e) in
    λ i. q i ∷ r i
