-- A new store that goes on where a run had come.
use Rattle.std.proofs.Common.{◌≡◌, ℕ, zero, suc, ◌+◌, ◌-◌, ◌≤◌, ◌<◌, List, [], ◌∷◌, ◌++◌, length, map, refl, ap, sym, ◌∙◌, subst, arith, Option, Some, None, slice_get, slice_set, nat_eq, if◌then◌else◌, Bool, true, false, not, ◌&&◌, eq-eqb}
use Rattle.std.proofs.lemmas.Bool.{eqb-false, ne_eqb}
use Rattle.circular_buffer.specs.Buffer.{keep_last}
use Rattle.lola_value.specs.declared.text.Field.{Field}
use Rattle.lola_value.specs.declared.value.Outcome.TheVariants as outcome
use Rattle.lola_value.specs.Naming.{Naming, read_outcome, IsHeldIn}
use Rattle.lola_model.specs.Accesses.{one_more}
use Rattle.lola_model.specs.Store.{SeenStream, StreamLayout, opened}
use Rattle.lola_model.specs.declared.plan.PaneSize.{PaneSize}
use Rattle.lola_model.specs.declared.spec.WindowSpec.{WindowSpec}
use Rattle.lola_instances_one.specs.declared.window.WindowPanes.{WindowPanes}
use Rattle.lola_instances_one.specs.Holdings.{Holdings, slot_seen}
use Rattle.lola_instances_one.specs.Memories.{AllSince, AllStandFor, Remembers, life_values, shifted}
use Rattle.lola_instances_stream.specs.Crowds.{Crowd, crowd_seen, RemembersAt}
use Rattle.lola_instances_stream.specs.Each.{Each}
use Rattle.lola_instances_stream.specs.Rights.{CrowdRight, IsUntold, SlotRight, owed}
use Rattle.lola_instances_stream.proofs.Beginnings.{started_at}
use Rattle.lola_instances_stream.proofs.Outcomes.{given_more, not_shown}
use Rattle.lola_instances.specs.Placed.{ArePlaced, AreCovered}
use Rattle.lola_instances.specs.Restoring.{FollowsStart, all_spawned, phase_at, resumed, spawned_in, store_phase_at, steps_at}
use Rattle.lola_instances.specs.Spawning.{AreNumbered}
use Rattle.lola_instances.specs.Phases.{is_on, phase_in, start_in, time_in}
use Rattle.lola_instances.specs.Streams.{crowd_layout, slot_at}
use Rattle.lola_instances.proofs.Changing.{placed_as}

-- one stream after another

abbrev pub up_to : ℕ → ℕ → List Crowd → List Crowd
up_to step i [] = []
up_to step zero (c ∷ cs) = c ∷ cs
up_to step (suc i) (c ∷ cs) = spawned_in step c ∷ up_to step i cs

pub up_to_none : (step : ℕ) (cs : List Crowd) → cs ≡ up_to step 0 cs
up_to_none step [] = refl
up_to_none step (c ∷ cs) = refl

pub up_to_more : (step i : ℕ) (cs : List Crowd) (c : Crowd) → slice_get (up_to step i cs) i ≡ Some c → slice_set (up_to step i cs) i (spawned_in step c) ≡ up_to step (suc i) cs
up_to_more step zero [] c e = absurd (cc)
up_to_more step (suc i) [] c e = absurd (cc)
up_to_more step zero (x ∷ cs) c e = let q : c ≡ x = cc in λ j. spawned_in step (q j) ∷ up_to_none step cs j
up_to_more step (suc i) (x ∷ cs) c e = ap (λ xs. spawned_in step x ∷ xs) (up_to_more step i cs c e)

pub up_to_length : (step i : ℕ) (cs : List Crowd) → length (up_to step i cs) ≡ length cs
up_to_length step i [] = refl
up_to_length step zero (c ∷ cs) = refl
up_to_length step (suc i) (c ∷ cs) = ap suc (up_to_length step i cs)

pub up_to_all : (step : ℕ) (cs : List Crowd) → up_to step (length cs) cs ≡ map (spawned_in step) cs
up_to_all step [] = refl
up_to_all step (c ∷ cs) = ap (λ xs. spawned_in step c ∷ xs) (up_to_all step cs)

-- what stays

pub resumed_layouts : (last : Option ℕ) (step : ℕ) (cs : List Crowd) → map crowd_layout (resumed last step cs) ≡ map crowd_layout cs
resumed_layouts None step cs = refl
resumed_layouts (Some last) step [] = refl
resumed_layouts (Some last) step (c ∷ cs) = ap (λ xs. c.layout ∷ xs) (resumed_layouts (Some last) step cs)

pub resumed_slots : (last : Option ℕ) (step : ℕ) (cs : List Crowd) (n i : ℕ) → slot_at (resumed last step cs) n i ≡ slot_at cs n i
resumed_slots None step cs n i = refl
resumed_slots (Some last) step [] zero i = refl
resumed_slots (Some last) step [] (suc n) i = refl
resumed_slots (Some last) step (c ∷ cs) zero i = refl
resumed_slots (Some last) step (c ∷ cs) (suc n) i = resumed_slots (Some last) step cs n i

-- a stream as it was before, with the step in which its spawn clause ran last
abbrev pub Was : Option ℕ → ℕ → Crowd → Crowd → Type 0
Was None step c d = d ≡ c
Was (Some last) step c d = d ≡ spawned_in step c

some_same : {X : Type 0} {x y : X} → Some x ≡ Some y → x ≡ y
some_same q = cc

pub resumed_was : (last : Option ℕ) (step : ℕ) (cs : List Crowd) (n : ℕ) (d : Crowd) → slice_get (resumed last step cs) n ≡ Some d → (c : Crowd) × (slice_get cs n ≡ Some c) × Was last step c d
resumed_was None step cs n d e = (d, e, refl)
resumed_was (Some last) step [] zero d e = absurd (cc)
resumed_was (Some last) step [] (suc n) d e = absurd (cc)
resumed_was (Some last) step (c ∷ cs) zero d e = (c, refl, some_same (sym e))
resumed_was (Some last) step (c ∷ cs) (suc n) d e = resumed_was (Some last) step cs n d e

was_layout : (last : Option ℕ) (step : ℕ) (c d : Crowd) → Was last step c d → d.layout ≡ c.layout
was_layout None step c d w = ap (λ (z : Crowd). z.layout) w
was_layout (Some last) step c d w = ap (λ (z : Crowd). z.layout) w

was_windows : (last : Option ℕ) (step : ℕ) (c d : Crowd) → Was last step c d → d.windows ≡ c.windows
was_windows None step c d w = ap (λ (z : Crowd). z.windows) w
was_windows (Some last) step c d w = ap (λ (z : Crowd). z.windows) w

pub resumed_placed : (last : Option ℕ) (step : ℕ) (ws : List WindowSpec) (sizes : List PaneSize) (places : List ℕ) (cs : List Crowd) → ArePlaced ws sizes places cs → ArePlaced ws sizes places (resumed last step cs)
resumed_placed last step ws sizes places cs h =
    record {
      size_count = h.size_count;
      place_count = h.place_count;
      each = λ i w p k d e f a at.
          let x = resumed_was last step cs w.target d at in
          placed_as w p k x.0 d (was_layout last step x.0 d x.2) (was_windows last step x.0 d x.2) (h.each i w p k x.0 e f a x.1);
    }

pub resumed_covered : (last : Option ℕ) (step : ℕ) (ws : List WindowSpec) (cs : List Crowd) → AreCovered ws cs → AreCovered ws (resumed last step cs)
resumed_covered last step ws cs h = λ n d at.
    let x = resumed_was last step cs n d at in
    ap length (was_windows last step x.0 d x.2) ∙ h n x.0 x.1

pub resumed_numbered : (last : Option ℕ) (step : ℕ) (cs : List Crowd) (ns : List ℕ) → AreNumbered cs ns → AreNumbered (resumed last step cs) ns
resumed_numbered last step cs ns h = λ n d at spawns.
    let x = resumed_was last step cs n d at in
    h n x.0 x.1 (sym (ap (λ (z : StreamLayout). z.spawns) (was_layout last step x.0 d x.2)) ∙ spawns)

-- a stream of a new store

head_same : {X : Type 0} {x y : X} {xs ys : List X} → x ∷ xs ≡ y ∷ ys → x ≡ y
head_same q = cc

tail_same : {X : Type 0} {x y : X} {xs ys : List X} → x ∷ xs ≡ y ∷ ys → xs ≡ ys
tail_same q = cc

pub opened_seen : (step : ℕ) (cs : List Crowd) (n : ℕ) (c : Crowd) → map (crowd_seen step) cs ≡ map opened (map crowd_layout cs) → slice_get cs n ≡ Some c → crowd_seen step c ≡ opened c.layout
opened_seen step [] zero c h e = absurd (cc)
opened_seen step [] (suc n) c h e = absurd (cc)
opened_seen step (x ∷ cs) zero c h e = let q : x ≡ c = cc in subst (λ (z : Crowd). crowd_seen step z ≡ opened z.layout) q (head_same h)
opened_seen step (x ∷ cs) (suc n) c h e = opened_seen step cs n c (tail_same h) e

-- it was never poisoned, its spawn clause never ran, and its instances were told nothing
pub record IsFresh (c : Crowd) : Type 0 where
  pub bad : c.bad_at ≡ 0
  pub spawned : c.spawned_at ≡ 0
  pub untold : Each (IsUntold 1) c.slots

pub fresh : (prepared : Bool) (step offset : ℕ) (c : Crowd) → step ≡ 1 → CrowdRight false prepared step offset c → crowd_seen step c ≡ opened c.layout → IsFresh c
fresh prepared step offset c one h e =
    let bad = eqb-false c.bad_at step (ap (λ (z : SeenStream). z.bad) e) in
    let spawned = eqb-false c.spawned_at step (ap (λ (z : SeenStream). z.spawned) e) in
    record {
      bad = omega (arith, bad, h.bad_le, one);
      spawned = omega (arith, spawned, h.spawned_le, one);
      untold = λ i x at. subst (λ (n : ℕ). IsUntold n x) one ((h.each i x at).untold refl);
    }

unstamped : (s : Holdings) (step : ℕ) → IsUntold 1 s → 1 ≤ step → s.stamp < step
unstamped s step u l = omega (arith, u.stamp_lt, l)

slots_unshown : (step : ℕ) (ss : List Holdings) → 1 ≤ step → Each (IsUntold 1) ss → map (slot_seen step) ss ≡ map (slot_seen 1) ss
slots_unshown step [] l h = refl
slots_unshown step (s ∷ ss) l h =
    let u = h 0 s refl in
    let e = not_shown step s (unstamped s step u l) ∙ sym (not_shown 1 s u.stamp_lt) in
    let r = slots_unshown step ss l (λ i y q. h (suc i) y q) in
    λ i. record { params = s.params; born = s.born; outcome = e i } ∷ r i

zero_not : (n step : ℕ) → n ≡ 0 → 1 ≤ step → nat_eq n step ≡ false
zero_not n step e l = ne_eqb n step (λ q. omega (arith, e, q, l))

stays_seen : (step : ℕ) (c : Crowd) → 1 ≤ step → IsFresh c → crowd_seen step c ≡ crowd_seen 1 c
stays_seen step c l f =
    let bad = zero_not c.bad_at step f.bad l ∙ sym (zero_not c.bad_at 1 f.bad (omega arith)) in
    let spawned = zero_not c.spawned_at step f.spawned l ∙ sym (zero_not c.spawned_at 1 f.spawned (omega arith)) in
    let slots = slots_unshown step c.slots l f.untold in
    λ i. record { bad = bad i; spawned = spawned i; instances = slots i }

spawned_seen : (step : ℕ) (c : Crowd) → 1 ≤ step → IsFresh c → crowd_seen step (spawned_in step c) ≡ record (crowd_seen 1 c) { spawned = true }
spawned_seen step c l f =
    let bad = zero_not c.bad_at step f.bad l ∙ sym (zero_not c.bad_at 1 f.bad (omega arith)) in
    let slots = slots_unshown step c.slots l f.untold in
    λ i. record { bad = bad i; spawned = eq-eqb step step refl i; instances = slots i }

pub resumed_seen : (last : Option ℕ) (step : ℕ) (cs : List Crowd) → 1 ≤ step → Each IsFresh cs → map (crowd_seen step) (resumed last step cs) ≡ all_spawned last (map (crowd_seen 1) cs)
resumed_seen None step [] l h = refl
resumed_seen None step (c ∷ cs) l h =
    let e = stays_seen step c l (h 0 c refl) in
    let r = resumed_seen None step cs l (λ i y q. h (suc i) y q) in
    λ i. e i ∷ r i
resumed_seen (Some last) step [] l h = refl
resumed_seen (Some last) step (c ∷ cs) l h =
    let e = spawned_seen step c l (h 0 c refl) in
    let r = resumed_seen (Some last) step cs l (λ i y q. h (suc i) y q) in
    λ i. e i ∷ r i

-- what is right in a new store is right in one that goes on

module _ (layout : StreamLayout) (windows : List WindowPanes) (running : Bool) (step offset : ℕ) (s : Holdings) (l : 1 ≤ step) (u : IsUntold 1 s) where
  pub slot_resumed : SlotRight layout windows false 1 0 s → SlotRight layout windows running step offset s
  slot_resumed h =
      let low = u.stamp_lt in
      record {
        steady = h.steady;
        timely = record {
          stamp_le = omega arith;
          told = λ e. absurd (omega arith);
          given = given_more 0 offset (s.stamp - 1) (s.stamp - 1) layout.kind s.panes h.timely.given (omega arith) (omega arith);
        };
        untold = λ e. record { stamp_lt = omega arith; values = u.values };
      }

module _ (step offset : ℕ) (c : Crowd) (l : 1 ≤ step) (f : IsFresh c) (h : CrowdRight false false 1 0 c) where
  still_right : CrowdRight false false step offset c
  still_right =
      let bad = f.bad in
      let spawned = f.spawned in
      record {
        bad_le = omega arith;
        spawned_le = omega arith;
        kept = h.kept;
        few = h.few;
        each = λ i x at. slot_resumed c.layout c.windows false step offset x l (f.untold i x at) (h.each i x at);
        room = h.room;
        spares = h.spares;
      }

  owed_none : owed false true step step ≡ 0
  owed_none = ap (λ b. (if false then 1 else 0) + (if true && not b then 1 else 0)) (eq-eqb step step refl)

  over_right : CrowdRight true false step offset (spawned_in step c)
  over_right =
      let bad = f.bad in
      record {
        bad_le = omega arith;
        spawned_le = omega arith;
        kept = h.kept;
        few = h.few;
        each = λ i x at. slot_resumed c.layout c.windows true step offset x l (f.untold i x at) (h.each i x at);
        room = λ e. omega (arith, h.room e, owed_none);
        spares = λ e. omega (arith, owed_none);
      }

pub resumed_right : (start last : Option ℕ) (step offset : ℕ) (c d : Crowd) → 1 ≤ step → FollowsStart start last → IsFresh c → CrowdRight false false 1 0 c → Was last step c d
    → CrowdRight (is_on (store_phase_at start last)) false step offset d
resumed_right None None step offset c d l o f h w = subst (CrowdRight false false step offset) (sym w) (still_right step offset c l f h)
resumed_right None (Some last) step offset c d l o f h w = absurd o
resumed_right (Some start) None step offset c d l o f h w = subst (CrowdRight false false step offset) (sym w) (still_right step offset c l f h)
resumed_right (Some start) (Some last) step offset c d l o f h w = subst (CrowdRight true false step offset) (sym w) (over_right step offset c l f h)

pub phase_order : (start last : Option ℕ) → FollowsStart start last → start_in (store_phase_at start last) ≤ time_in (store_phase_at start last)
phase_order None None o = omega arith
phase_order None (Some last) o = absurd o
phase_order (Some start) None o = omega arith
phase_order (Some start) (Some last) o = o

pub phase_is_seen : (start last : Option ℕ) → phase_in (store_phase_at start last) ≡ phase_at start last
phase_is_seen None last = refl
phase_is_seen (Some start) None = refl
phase_is_seen (Some start) (Some last) = refl

pub phase_begun : (start last : Option ℕ) (steps : ℕ) → is_on (store_phase_at start last) ≡ true → 2 ≤ steps_at last steps + 1
phase_begun None last steps e = cc
phase_begun (Some start) None steps e = cc
phase_begun (Some start) (Some last) steps e = omega arith

pub steps_few : (last : Option ℕ) (steps : ℕ) → steps_at last steps ≤ steps + 1
steps_few None steps = omega arith
steps_few (Some last) steps = omega arith

-- an instance that was told nothing remembers no values, in whatever step

unshown_later : (start time later step other : ℕ) (names : Naming) (s : Holdings) (values : List (ℕ × Field)) → s.stamp < step → s.stamp < other → Remembers start time step names s values → Remembers start later other names s values
unshown_later start time later step other names s values a b h =
    let none = not_shown step s a in
    let still = not_shown other s b in
    let e : life_values later other names s values ≡ life_values time step names s values =
    ap (λ o. values ++ one_more later (read_outcome names o)) still ∙ sym (ap (λ o. values ++ one_more time (read_outcome names o)) none) in
    record {
      ring = h.ring ∙ ap (λ vs. keep_last s.ring.capacity (map (λ (v : ℕ × Field). v.1) vs)) (sym e);
      panes = subst (λ vs. AllStandFor s.panes (map (shifted start) vs)) (sym e) h.panes;
      since = subst (AllSince start) (sym e) h.since;
      held = h.held;
      now_held = subst (IsHeldIn names) (sym still) tt;
    }

pub resumed_remembers : (start time from later step : ℕ) (names : Naming) (o : Option Holdings) (values : List (ℕ × Field)) → 1 ≤ step → ((s : Holdings) → o ≡ Some s → IsUntold 1 s × (1 ≤ s.ring.capacity))
    → RemembersAt start time 1 names o values → RemembersAt from later step names o values
resumed_remembers start time from later step names None values l r h = h
resumed_remembers start time from later step names (Some s) values l r h =
    let u = r s refl in
    unshown_later from from later 1 step names s values u.0.stamp_lt (unstamped s step u.0 l) (started_at start time from 1 names (Some s) values r h)
