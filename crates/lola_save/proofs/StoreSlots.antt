-- The instances of a bounded store, by their streams and places.
use Rattle.std.proofs.Common.{◌≡◌, ℕ, zero, suc, ◌-◌, ◌<◌, ◌≤◌, List, [], ◌∷◌, length, map, drop, refl, subst, ap, sym, ◌∙◌, arith, Option, Some, None, slice_get}
use Rattle.std.specs.Option.{option_map}
use Rattle.std.proofs.lemmas.Option.{slice_get-map, slice_get_within}
use Rattle.circular_buffer.specs.Buffer.{keep_last}
use Rattle.lola_value.specs.Naming.{Naming}
use Rattle.lola_value.specs.declared.text.Field.{Field}
use Rattle.lola_model.specs.Store.{New, Phase, Running, SeenInstance, Started, instances_of, instances_seen, kept_in, kind_in, target_of}
use Rattle.lola_model.specs.declared.plan.PaneSize.{PaneSize}
use Rattle.lola_model.specs.declared.spec.WindowSpec.{WindowSpec}
use Rattle.lola_panes.specs.Standing.{Partials}
use Rattle.lola_instances_one.specs.Holdings.{Holdings, slot_seen}
use Rattle.lola_instances_one.specs.Unborn.{AllPanesOf, ArePanesOf}
use Rattle.lola_instances_one.specs.declared.window.WindowPanes.{WindowPanes}
use Rattle.lola_instances_stream.proofs.Outcomes.{item_at}
use Rattle.lola_instances_stream.specs.Crowds.{Crowd, RemembersAt, crowd_seen}
use Rattle.lola_instances.proofs.Phases.{phase_start, phase_time}
use Rattle.lola_instances.specs.Placed.{IsPaneOf}
use Rattle.lola_instances.specs.Saved.{instance_at, panes_at, partials_of, places_in}
use Rattle.lola_instances.specs.Phases.{start_in, time_in}
use Rattle.lola_instances.specs.Stores.{bounded_remembers, bounded_seen}
use Rattle.lola_instances.specs.Streams.{crowd_layout, slots_in}
use Rattle.lola_instances.specs.declared.store.BoundedStore.{BoundedStore}

pub some-is : {X : Type 0} {x y : X} → Some x ≡ Some y → x ≡ y
some-is q = cc

pub nothing-at : {X : Type 0} (i : ℕ) (x : X) → slice_get {X = X} [] i ≡ Some x → ⊥
nothing-at zero x e = absurd (cc)
nothing-at (suc i) x e = absurd (cc)

-- what is shown of an instance is of one that is there

slots-shown : (step : ℕ) (cs : List Crowd) (n : ℕ) → instances_of (slice_get (map (crowd_seen step) cs) n) ≡ map (slot_seen step) (slots_in (slice_get cs n))
slots-shown step cs n = ap instances_of (slice_get-map (crowd_seen step) cs n) ∙ of_stream (slice_get cs n)
  where
    of_stream : (o : Option Crowd) → instances_of (option_map (crowd_seen step) o) ≡ map (slot_seen step) (slots_in o)
    of_stream None = refl
    of_stream (Some c) = refl

pub record IsShownBy (s : BoundedStore) (n i : ℕ) (x : SeenInstance) : Type 0 where
  pub y : Holdings
  pub at : instance_at s n i ≡ Some y
  pub is : x ≡ slot_seen s.step y

pub shown-by : (s : BoundedStore) (n i : ℕ) (x : SeenInstance) → slice_get (instances_seen (bounded_seen s) n) i ≡ Some x → IsShownBy s n i x
shown-by s n i x e = by (instance_at s n i) refl (sym (slice_get-map (slot_seen s.step) (slots_in (slice_get s.streams.items n)) i) ∙ sym (ap (λ l. slice_get l i) (slots-shown s.step s.streams.items n)) ∙ e)
  where
    by : (o : Option Holdings) → instance_at s n i ≡ o → option_map (slot_seen s.step) o ≡ Some x → IsShownBy s n i x
    by None at q = absurd (cc)
    by (Some y) at q = record { y = y; at = at; is = sym (some-is q) }

-- what a store remembers of an instance lies in what it shows of times and in the instance

start_at : Phase → ℕ
start_at p = elim p [ New ↦ 0 | Started a ↦ a | Running a t ↦ a ]

time_at : Phase → ℕ
time_at p = elim p [ New ↦ 0 | Started a ↦ a | Running a t ↦ t ]

pub remembers-same : (old new : BoundedStore) (n i : ℕ) → (bounded_seen new).phase ≡ (bounded_seen old).phase → (bounded_seen new).steps ≡ (bounded_seen old).steps → instance_at new n i ≡ instance_at old n i
    → (names : Naming) (values : List (ℕ × Field)) → bounded_remembers old names n i values → bounded_remembers new names n i values
unfolding start_at time_at
remembers-same old new n i phase steps same names values h =
    let start : start_in old.phase ≡ start_in new.phase = sym (phase_start old.phase) ∙ ap start_at (sym phase) ∙ phase_start new.phase in
    let time : time_in old.phase ≡ time_in new.phase = sym (phase_time old.phase) ∙ ap time_at (sym phase) ∙ phase_time new.phase in
    let step : old.step ≡ new.step = omega (arith, steps, old.step_ge, new.step_ge) in
    subst (λ t. t) (λ j. RemembersAt (start j) (time j) (step j) names (sym same j) values) h

-- the stream of an instance

pub record IsOwner (s : BoundedStore) (n i : ℕ) (y : Holdings) : Type 0 where
  pub c : Crowd
  pub at : slice_get s.streams.items n ≡ Some c
  pub here : slice_get c.slots i ≡ Some y

pub owner : (s : BoundedStore) (n i : ℕ) (y : Holdings) → instance_at s n i ≡ Some y → IsOwner s n i y
owner s n i y e = by (slice_get s.streams.items n) refl e
  where
    by : (o : Option Crowd) → slice_get s.streams.items n ≡ o → slice_get (slots_in o) i ≡ Some y → IsOwner s n i y
    by None at q = absurd (nothing-at i y q)
    by (Some c) at q = record { c = c; at = at; here = q }

layout-at : (cs : List Crowd) (n : ℕ) (c : Crowd) → slice_get cs n ≡ Some c → slice_get (map crowd_layout cs) n ≡ Some c.layout
layout-at cs n c e = slice_get-map crowd_layout cs n ∙ ap (option_map crowd_layout) e

pub capacity-is : (s : BoundedStore) (n i : ℕ) (y : Holdings) → instance_at s n i ≡ Some y → y.ring.capacity ≡ kept_in (slice_get (bounded_seen s).layout.streams n)
capacity-is s n i y e = let o = owner s n i y e in ((s.right n o.c o.at).each i y o.here).steady.capacity ∙ sym (ap kept_in (layout-at s.streams.items n o.c o.at))

pub kept-all : {X : Type 0} (n : ℕ) (xs : List X) → length xs ≤ n → keep_last n xs ≡ xs
kept-all n xs le = let none : length xs - n ≡ 0 = omega arith in ap (λ (k : ℕ). drop k xs) none

-- the panes of a window

pub panes-by : (s : BoundedStore) (w : ℕ) (v : WindowSpec) (n i : ℕ) → slice_get s.windows w ≡ Some v → v.target ≡ n → panes_at s w i ≡ partials_of (instance_at s n i) (slice_get (places_in s) w)
panes-by s w v n i e t =
    ap (λ (o : Option WindowSpec). partials_of (instance_at s (target_of o) i) (slice_get (places_in s) w)) e ∙ ap (λ (m : ℕ). partials_of (instance_at s m i) (slice_get (places_in s) w)) t

record IsOfWindow (q : WindowPanes) (ps : List Partials) (k : ℕ) : Type 0 where
  pub p : Partials
  pub at : slice_get ps k ≡ Some p
  pub of : ArePanesOf q p

of-window : (ws : List WindowPanes) (ps : List Partials) (k : ℕ) (q : WindowPanes) → AllPanesOf ws ps → slice_get ws k ≡ Some q → IsOfWindow q ps k
of-window [] [] k q h e = absurd (nothing-at k q e)
of-window [] (p ∷ ps) k q h e = absurd h
of-window (w ∷ ws) [] k q h e = absurd h
of-window (w ∷ ws) (p ∷ ps) zero q h e = record { p = p; at = refl; of = subst (λ (x : WindowPanes). ArePanesOf x p) (some-is e) h.0 }
of-window (w ∷ ws) (p ∷ ps) (suc k) q h e = let r = of-window ws ps k q h.1 e in record { p = r.p; at = r.at; of = r.of }

pub record HasPanesAt (s : BoundedStore) (n i w : ℕ) (v : WindowSpec) (y : Holdings) : Type 0 where
  pub size : PaneSize
  pub sized : slice_get s.sizes w ≡ Some size
  pub place : ℕ
  pub placed : slice_get (places_in s) w ≡ Some place
  pub p : Partials
  pub here : slice_get y.panes place ≡ Some p
  pub at : panes_at s w i ≡ Some p
  pub aggregation : p.aggregation ≡ v.using
  pub kind : p.kind ≡ kind_in (slice_get (bounded_seen s).layout.streams n)
  pub pane : p.pane ≡ size.pane
  pub count : p.count ≡ size.count

-- from the panes that its stream has for the window
panes-of : (s : BoundedStore) (n i w : ℕ) (v : WindowSpec) (y : Holdings) (c : Crowd) (q : WindowPanes) (size : PaneSize) (place : ℕ) (p : Partials) → instance_at s n i ≡ Some y → slice_get s.windows w ≡ Some v → v.target ≡ n
    → slice_get s.streams.items n ≡ Some c → slice_get s.sizes w ≡ Some size → slice_get (places_in s) w ≡ Some place → slice_get y.panes place ≡ Some p → IsPaneOf c.layout.kind v size q → ArePanesOf q p → HasPanesAt s n i w v y
panes-of s n i w v y c q size place p e f t at sized placed here is of = record {
  size = size;
  sized = sized;
  place = place;
  placed = placed;
  p = p;
  here = here;
  at = panes-by s w v n i f t ∙ (λ j. partials_of (e j) (placed j)) ∙ here;
  aggregation = of.aggregation ∙ is.aggregation;
  kind = of.kind ∙ is.kind_is ∙ sym (ap kind_in (layout-at s.streams.items n c at));
  pane = of.pane ∙ is.pane;
  count = of.count ∙ is.count;
}

pub has-panes : (s : BoundedStore) (n i w : ℕ) (v : WindowSpec) (y : Holdings) → instance_at s n i ≡ Some y → slice_get s.windows w ≡ Some v → v.target ≡ n → HasPanesAt s n i w v y
has-panes s n i w v y e f t =
    let within : w < length s.windows = slice_get_within s.windows w v f in
    let z = item_at s.sizes w (let l = s.placed.size_count in omega (arith, l, within)) in
    let k = item_at (places_in s) w (let l = s.placed.place_count in omega (arith, l, within)) in
    let o = owner s n i y e in
    let there : slice_get s.streams.items v.target ≡ Some o.c = ap (slice_get s.streams.items) t ∙ o.at in
    let placed = s.placed.each w v z.0 k.0 o.c f z.1 k.1 there in
    let q = item_at o.c.windows k.0 placed.below in
    let r = of-window o.c.windows y.panes k.0 q.0 ((s.right n o.c o.at).each i y o.here).steady.panes q.1 in
    panes-of s n i w v y o.c q.0 z.0 k.0 r.p e f t o.at z.1 k.1 r.at (placed.is q.0 q.1) r.of
