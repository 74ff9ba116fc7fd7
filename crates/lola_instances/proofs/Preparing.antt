-- Room is made, and all else stays.
use Rattle.std.proofs.Common.{◌≡◌, ℕ, zero, suc, ◌+◌, ◌≤◌, List, [], ◌∷◌, length, map, refl, ap, sym, ◌∙◌, subst, arith, Option, Some, slice_get, slice_set, nat_eq, Bool, true, false, not, ◌&&◌, ◌||◌, ◌⊎◌, IsTrue, inl, inr}
use Rattle.std.proofs.lemmas.Bool.{eqb-true, not-true}
use Rattle.lola_model.specs.Store.{never_spawns}
use Rattle.lola_model.specs.declared.plan.PaneSize.{PaneSize}
use Rattle.lola_model.specs.declared.spec.WindowSpec.{WindowSpec}
use Rattle.lola_instances_one.specs.Holdings.{Holdings}
use Rattle.lola_instances_stream.specs.Crowds.{Crowd, crowd_seen}
use Rattle.lola_instances_stream.specs.Rights.{CrowdRight}
use Rattle.lola_instances_stream.proofs.Beginnings.{owed_two}
use Rattle.lola_instances.specs.Placed.{ArePlaced, AreCovered}
use Rattle.lola_instances.specs.Rooms.{IsKept, AreKept, AreReady, IsReady}
use Rattle.lola_instances.specs.Spawning.{AreNumbered, is_among}
use Rattle.lola_instances.specs.Streams.{crowd_layout, slot_at}
use Rattle.lola_instances.proofs.Changing.{placed_as}

pub some_same : {X : Type 0} {x y : X} → Some x ≡ Some y → x ≡ y
some_same q = cc

kept_refl : (c : Crowd) → IsKept c c
kept_refl c = record { rest = refl; capacity = omega arith; spares = omega arith }

pub kept_trans : (c d f : Crowd) → IsKept c d → IsKept d f → IsKept c f
kept_trans c d f h g =
    record {
      rest = g.rest ∙ ap (λ (q : Crowd). record q { capacity = f.capacity; spares = f.spares }) h.rest;
      capacity = omega (arith, h.capacity, g.capacity);
      spares = omega (arith, h.spares, g.spares);
    }

pub all_kept : (cs : List Crowd) → AreKept cs cs
all_kept [] = tt
all_kept (c ∷ cs) = (kept_refl c, all_kept cs)

pub all_kept_trans : (cs ds fs : List Crowd) → AreKept cs ds → AreKept ds fs → AreKept cs fs
all_kept_trans [] [] [] h g = tt
all_kept_trans [] [] (f ∷ fs) h g = absurd g
all_kept_trans [] (d ∷ ds) fs h g = absurd h
all_kept_trans (c ∷ cs) [] fs h g = absurd h
all_kept_trans (c ∷ cs) (d ∷ ds) [] h g = absurd g
all_kept_trans (c ∷ cs) (d ∷ ds) (f ∷ fs) h g = (kept_trans c d f h.0 g.0, all_kept_trans cs ds fs h.1 g.1)

pub kept_set : (cs ds : List Crowd) (i : ℕ) (d f : Crowd) → AreKept cs ds → slice_get ds i ≡ Some d → IsKept d f → AreKept cs (slice_set ds i f)
kept_set [] [] i d f h e r = absurd (cc)
kept_set [] (x ∷ ds) i d f h e r = absurd h
kept_set (c ∷ cs) [] i d f h e r = absurd h
kept_set (c ∷ cs) (x ∷ ds) zero d f h e r = let q : x ≡ d = cc in (kept_trans c d f (subst (IsKept c) q h.0) r, h.1)
kept_set (c ∷ cs) (x ∷ ds) (suc i) d f h e r = (h.0, kept_set cs ds i d f h.1 e r)

pub kept_at : (cs ds : List Crowd) (i : ℕ) (d : Crowd) → AreKept cs ds → slice_get ds i ≡ Some d → (c : Crowd) × (slice_get cs i ≡ Some c) × IsKept c d
kept_at [] [] i d h e = absurd (cc)
kept_at [] (x ∷ ds) i d h e = absurd h
kept_at (c ∷ cs) [] i d h e = absurd h
kept_at (c ∷ cs) (x ∷ ds) zero d h e = let q : x ≡ d = cc in (c, refl, subst (IsKept c) q h.0)
kept_at (c ∷ cs) (x ∷ ds) (suc i) d h e = kept_at cs ds i d h.1 e

module _ (running prepared : Bool) (step offset : ℕ) (c d : Crowd) (a : IsKept c d) (h : CrowdRight running prepared step offset c) where
  still : CrowdRight running prepared step offset (record c { capacity = d.capacity; spares = d.spares })
  still =
      let m = a.capacity in
      let s = a.spares in
      record {
        bad_le = h.bad_le;
        spawned_le = h.spawned_le;
        kept = h.kept;
        few = h.few;
        each = h.each;
        room = λ w. omega (arith, h.room w, m);
        spares = λ w. omega (arith, h.spares w, s);
      }

  pub kept_right : CrowdRight running prepared step offset d
  kept_right = subst (CrowdRight running prepared step offset) (sym a.rest) still

  pub ready_right : (d.layout.spawns ≡ true → IsReady d) → CrowdRight running true step offset d
  ready_right g =
      let w = ap (λ (z : Crowd). z.layout.spawns) a.rest in
      let n = ap (λ (z : Crowd). length z.slots) a.rest in
      let k : CrowdRight running true step offset (record c { capacity = d.capacity; spares = d.spares }) = record {
        bad_le = h.bad_le;
        spawned_le = h.spawned_le;
        kept = h.kept;
        few = h.few;
        each = h.each;
        room = λ e. omega (arith, (g (w ∙ e)).room (w ∙ e), n, owed_two true running step c.spawned_at);
        spares = λ e. omega (arith, (g (w ∙ e)).spares (w ∙ e), owed_two true running step c.spawned_at);
      } in
      subst (CrowdRight running true step offset) (sym a.rest) k

-- a stream that was prepared
pub prepared_ready : (c d : Crowd) → IsKept c d → (c.layout.spawns ≡ true → length c.slots + 2 ≤ d.capacity) → (c.layout.spawns ≡ true → 2 ≤ d.spares) → IsReady d
prepared_ready c d a room spares =
    let w = ap (λ (z : Crowd). z.layout.spawns) a.rest in
    let n = ap (λ (z : Crowd). length z.slots) a.rest in
    record {
      room = λ e. omega (arith, room (sym w ∙ e), n);
      spares = λ e. spares (sym w ∙ e);
    }

-- one that had room has it still
kept_ready : (c d : Crowd) → IsKept c d → IsReady c → IsReady d
kept_ready c d a h =
    let w = ap (λ (z : Crowd). z.layout.spawns) a.rest in
    let n = ap (λ (z : Crowd). length z.slots) a.rest in
    let m = a.capacity in
    let s = a.spares in
    record {
      room = λ e. omega (arith, h.room (sym w ∙ e), n, m);
      spares = λ e. omega (arith, h.spares (sym w ∙ e), s);
    }

-- of the streams of some numbers each has room, or its number is one of those that are left
abbrev pub ReadyOr : List Crowd → List ℕ → List ℕ → Type 0
ReadyOr cs ns left = (n : ℕ) (c : Crowd) → slice_get cs n ≡ Some c → is_among n ns ≡ true → IsReady c ⊎ (is_among n left ≡ true)

pub ready_none : (cs : List Crowd) (ns : List ℕ) → ReadyOr cs ns ns
ready_none cs ns = λ n c at among. inr among

-- one more
pub ready_more : (cs ds : List Crowd) (ns left rest : List ℕ) (x : ℕ) → ReadyOr cs ns left → left ≡ x ∷ rest → AreKept cs ds → ((d : Crowd) → slice_get ds x ≡ Some d → IsReady d) → ReadyOr ds ns rest
ready_more cs ds ns left rest x h e k ready = λ n d at among.
    let p = kept_at cs ds n d k at in
    elim (h n p.0 p.1 among) [
      | inl there ↦ inl (kept_ready p.0 d p.2 there)
      | inr one ↦ next n d at (sym (ap (is_among n) e) ∙ one)
    ]
  where
    next : (n : ℕ) (d : Crowd) → slice_get ds n ≡ Some d → is_among n (x ∷ rest) ≡ true → IsReady d ⊎ (is_among n rest ≡ true)
    next n d at one =
        (elim (nat_eq n x) as (λ b. nat_eq n x ≡ b → (b || is_among n rest) ≡ true → IsReady d ⊎ (is_among n rest ≡ true)) [
          | true ↦ λ q o. inl (ready d (sym (ap (slice_get ds) (eqb-true n x q)) ∙ at))
          | false ↦ λ q o. inr o
        ]) refl one

-- all of them
pub ready_all : (cs : List Crowd) (ns left : List ℕ) → ReadyOr cs ns left → left ≡ [] → AreReady cs ns
ready_all cs ns left h e = λ n c at among. elim (h n c at among) [ inl there ↦ there | inr one ↦ absurd (let k : is_among n [] ≡ true = sym (ap (is_among n) e) ∙ one in cc) ]

pub numbered_still : (cs ds : List Crowd) (ns : List ℕ) → AreKept cs ds → AreNumbered cs ns → AreNumbered ds ns
numbered_still cs ds ns k h = λ n d at spawns.
    let p = kept_at cs ds n d k at in
    h n p.0 p.1 (sym (ap (λ (z : Crowd). z.layout.spawns) p.2.rest) ∙ spawns)

pub covered_still : (ws : List WindowSpec) (cs ds : List Crowd) → AreKept cs ds → AreCovered ws cs → AreCovered ws ds
covered_still ws cs ds k h = λ n d at.
    let p = kept_at cs ds n d k at in
    ap (λ (z : Crowd). length z.windows) p.2.rest ∙ h n p.0 p.1

pub seen_still : (step : ℕ) (cs ds : List Crowd) → AreKept cs ds → map (crowd_seen step) ds ≡ map (crowd_seen step) cs
seen_still step [] [] h = refl
seen_still step [] (d ∷ ds) h = absurd h
seen_still step (c ∷ cs) [] h = absurd h
seen_still step (c ∷ cs) (d ∷ ds) h = let e = ap (crowd_seen step) h.0.rest in λ i. e i ∷ seen_still step cs ds h.1 i

pub layout_still : (cs ds : List Crowd) → AreKept cs ds → map crowd_layout ds ≡ map crowd_layout cs
layout_still [] [] h = refl
layout_still [] (d ∷ ds) h = absurd h
layout_still (c ∷ cs) [] h = absurd h
layout_still (c ∷ cs) (d ∷ ds) h = let e = ap crowd_layout h.0.rest in λ i. e i ∷ layout_still cs ds h.1 i

pub slots_still : (P : Option Holdings → Type 0) (cs ds : List Crowd) (n i : ℕ) → AreKept cs ds → P (slot_at cs n i) → P (slot_at ds n i)
slots_still P [] [] n i h p = p
slots_still P [] (d ∷ ds) n i h p = absurd h
slots_still P (c ∷ cs) [] n i h p = absurd h
slots_still P (c ∷ cs) (d ∷ ds) zero i h p = subst (λ (z : Crowd). P (slice_get z.slots i)) (sym h.0.rest) p
slots_still P (c ∷ cs) (d ∷ ds) (suc n) i h p = slots_still P cs ds n i h.1 p

pub placed_still : (ws : List WindowSpec) (sizes : List PaneSize) (places : List ℕ) (cs ds : List Crowd) → AreKept cs ds → ArePlaced ws sizes places cs → ArePlaced ws sizes places ds
placed_still ws sizes places cs ds h g =
    record {
      size_count = g.size_count;
      place_count = g.place_count;
      each = λ i w p k d e f a at.
          let x = kept_at cs ds w.target d h at in
          placed_as w p k x.0 d (ap (λ (z : Crowd). z.layout) x.2.rest) (ap (λ (z : Crowd). z.windows) x.2.rest) (g.each i w p k x.0 e f a x.1);
    }

-- where no stream spawns, none of these does

first_of : (a b : Bool) → (a && b) ≡ true → a ≡ true
first_of true b e = refl
first_of false b e = cc

second_of : (a b : Bool) → (a && b) ≡ true → b ≡ true
second_of true b e = e
second_of false b e = cc

pub plain_at : (cs : List Crowd) (i : ℕ) (c : Crowd) → IsTrue (never_spawns (map crowd_layout cs)) → slice_get cs i ≡ Some c → c.layout.spawns ≡ false
plain_at [] i c h e = absurd (cc)
plain_at (x ∷ cs) zero c h e = let q : x ≡ c = cc in subst (λ (z : Crowd). z.layout.spawns ≡ false) q (not-true x.layout.spawns (first_of (not x.layout.spawns) (never_spawns (map crowd_layout cs)) h))
plain_at (x ∷ cs) (suc i) c h e = plain_at cs i c (second_of (not x.layout.spawns) (never_spawns (map crowd_layout cs)) h) e
