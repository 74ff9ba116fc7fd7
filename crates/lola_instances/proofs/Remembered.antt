-- What is kept of an instance, and the values that it remembers.
use Rattle.std.proofs.Common.{◌≡◌, ◌∙◌, ℕ, zero, suc, List, [], ◌∷◌, ◌++◌, Option, Some, None, ap, sym, subst, refl, map, slice_get}
use Rattle.circular_buffer.specs.Buffer.{keep_last}
use Rattle.lola_value.specs.declared.text.Field.{Field}
use Rattle.lola_value.specs.Naming.{Naming, read, read_outcome}
use Rattle.lola_model.specs.Accesses.{one_more}
use Rattle.lola_model.specs.Store.{kept_in, now_seen, start_seen, target_of}
use Rattle.lola_model.specs.declared.plan.PaneSize.{PaneSize}
use Rattle.lola_model.specs.declared.spec.WindowSpec.{WindowSpec}
use Rattle.lola_panes.specs.Standing.{Partials, StandFor}
use Rattle.lola_instances_one.specs.declared.window.WindowPanes.{WindowPanes}
use Rattle.lola_instances_one.specs.Holdings.{Holdings, shown}
use Rattle.lola_instances_one.specs.Memories.{AllStandFor, life_values, shifted}
use Rattle.lola_instances_one.specs.Unborn.{AllPanesOf, ArePanesOf}
use Rattle.lola_instances_stream.specs.Crowds.{RemembersAt, shown_at}
use Rattle.lola_instances_stream.proofs.Outcomes.{item_at}
use Rattle.lola_instances.specs.Saved.{partials_of, values_by_now}
use Rattle.lola_instances.specs.Phases.{start_in, time_in}
use Rattle.lola_instances.specs.Stores.{bounded_seen}
use Rattle.lola_instances.specs.Streams.{crowd_layout, slot_at, values_of}
use Rattle.lola_instances.specs.declared.store.BoundedStore.{BoundedStore}
use Rattle.lola_instances.proofs.Asking.{layout_at, owner, shows_at, slot_is}
use Rattle.lola_instances.proofs.Phases.{phase_start, phase_time}

module _ (s : BoundedStore) (n i : ℕ) (x : Holdings) (at : slot_at s.streams.items n i ≡ Some x) where
  -- this step's outcome is what is shown
  life_is : (names : Naming) (values : List (ℕ × Field)) → life_values (time_in s.phase) s.step names x values ≡ values_by_now s names n i values
  life_is names values =
      let e : now_seen (bounded_seen s) n i ≡ shown s.step x = shows_at s.step s.streams.items n i ∙ ap (shown_at s.step) at in
      λ j. values ++ one_more (sym (phase_time s.phase) j) (read_outcome names (sym e j))

  -- it keeps as many values as its stream
  pub kept_is : x.ring.capacity ≡ kept_in (slice_get (map crowd_layout s.streams.items) n)
  kept_is =
      let c = owner s.streams.items n i x at in
      let here : slice_get c.0.slots i ≡ Some x = sym (slot_is s.step s.streams.items n c.0 c.1 i) ∙ at in
      ((s.right n c.0 c.1).each i x here).steady.capacity ∙ sym (ap kept_in (layout_at s.streams.items n c.0 c.1))

pub kept_last : (s : BoundedStore) (names : Naming) (n i : ℕ) (values : List (ℕ × Field)) (o : Option Holdings) → slot_at s.streams.items n i ≡ o → RemembersAt (start_in s.phase) (time_in s.phase) s.step names o values
    → map (read names) (values_of o) ≡ keep_last (kept_in (slice_get (map crowd_layout s.streams.items) n)) (map (λ v. v.1) (values_by_now s names n i values))
kept_last s names n i values None at h = absurd h
kept_last s names n i values (Some x) at h = h.ring ∙ (λ j. keep_last (kept_is s n i x at j) (map (λ (v : ℕ × Field). v.1) (life_is s n i x at names values j)))

-- the panes of a window

stand_at : (ps : List Partials) (all : List (ℕ × Field)) (k : ℕ) (p : Partials) → AllStandFor ps all → slice_get ps k ≡ Some p → StandFor p all
stand_at [] all zero p h e = absurd (cc)
stand_at [] all (suc k) p h e = absurd (cc)
stand_at (q ∷ ps) all zero p h e = let w : q ≡ p = cc in subst (λ (r : Partials). StandFor r all) w h.0
stand_at (q ∷ ps) all (suc k) p h e = stand_at ps all k p h.1 e

pub panes_stand : (s : BoundedStore) (names : Naming) (n i : ℕ) (values : List (ℕ × Field)) (p : Partials) (o : Option Holdings) (k : Option ℕ) → slot_at s.streams.items n i ≡ o → partials_of o k ≡ Some p
    → RemembersAt (start_in s.phase) (time_in s.phase) s.step names o values → StandFor p (map (shifted (start_seen (bounded_seen s))) (values_by_now s names n i values))
panes_stand s names n i values p None k at e h = absurd h
panes_stand s names n i values p (Some x) None at e h = absurd (cc)
panes_stand s names n i values p (Some x) (Some k) at e h =
    subst (λ t. t) (λ j. StandFor p (map (shifted (sym (phase_start s.phase) j)) (life_is s n i x at names values j)))
    (stand_at x.panes (map (shifted (start_in s.phase)) (life_values (time_in s.phase) s.step names x values)) k p h.panes e)

-- and what they are

of_window_at : (ws : List WindowPanes) (ps : List Partials) (k : ℕ) (q : WindowPanes) (p : Partials) → AllPanesOf ws ps → slice_get ws k ≡ Some q → slice_get ps k ≡ Some p → ArePanesOf q p
of_window_at [] [] k q p h e f = absurd (cc)
of_window_at [] (r ∷ ps) k q p h e f = absurd h
of_window_at (w ∷ ws) [] k q p h e f = absurd h
of_window_at (w ∷ ws) (r ∷ ps) zero q p h e f =
    let a : w ≡ q = cc in
    let b : r ≡ p = cc in
    subst (λ t. t) (λ j. ArePanesOf (a j) (b j)) h.0
of_window_at (w ∷ ws) (r ∷ ps) (suc k) q p h e f = of_window_at ws ps k q p h.1 e f

-- they are those of the window
pub record AreOf (v : WindowSpec) (z : PaneSize) (p : Partials) : Type 0 where
  pub aggregation : p.aggregation ≡ v.using
  pub pane : p.pane ≡ z.pane
  pub count : p.count ≡ z.count

are_of : (s : BoundedStore) (w i : ℕ) (v : WindowSpec) (z : PaneSize) (p : Partials) (o : Option Holdings) (k : Option ℕ) → slice_get s.windows w ≡ Some v → slice_get s.sizes w ≡ Some z → slot_at s.streams.items v.target i ≡ o
    → slice_get s.places.items w ≡ k → partials_of o k ≡ Some p → AreOf v z p
are_of s w i v z p None k f g at there e = absurd (cc)
are_of s w i v z p (Some x) None f g at there e = absurd (cc)
are_of s w i v z p (Some x) (Some k) f g at there e =
    let c = owner s.streams.items v.target i x at in
    let here : slice_get c.0.slots i ≡ Some x = sym (slot_is s.step s.streams.items v.target c.0 c.1 i) ∙ at in
    let placed = s.placed.each w v z k c.0 f g there c.1 in
    let q = item_at c.0.windows k placed.below in
    let is = placed.is q.0 q.1 in
    let a = of_window_at c.0.windows x.panes k q.0 p ((s.right v.target c.0 c.1).each i x here).steady.panes q.1 e in
    record { aggregation = a.aggregation ∙ is.aggregation; pane = a.pane ∙ is.pane; count = a.count ∙ is.count }

pub panes_are_of : (s : BoundedStore) (w i : ℕ) (v : WindowSpec) (z : PaneSize) (p : Partials) → slice_get s.windows w ≡ Some v → slice_get s.sizes w ≡ Some z
    → partials_of (slot_at s.streams.items (target_of (slice_get s.windows w)) i) (slice_get s.places.items w) ≡ Some p → AreOf v z p
panes_are_of s w i v z p f g e =
    are_of s w i v z p (slot_at s.streams.items v.target i) (slice_get s.places.items w) f g refl refl
    (sym (ap (λ (o : Option WindowSpec). partials_of (slot_at s.streams.items (target_of o) i) (slice_get s.places.items w)) f) ∙ e)
