-- What is read of each window, and what an instance remembers by that.
use Rattle.std.proofs.Common.{◌≡◌, ◌∙◌, ℕ, suc, ◌<◌, List, [], ◌∷◌, MatchOption, Option, Some, None, ap, sym, subst, refl, arith, length, map, take, slice_get, IsTrue}
use Rattle.std.proofs.lemmas.Option.{slice_get_within}
use Rattle.circular_buffer.specs.Buffer.{keep_last}
use Rattle.lola_value.specs.declared.text.Field.{Field}
use Rattle.lola_value.specs.declared.value.Outcome.TheVariants as outcome
use Rattle.lola_value.specs.Naming.{Naming, AreHeld, read}
use Rattle.lola_model.specs.Store.{instances_seen, is_silent, now_seen, start_seen, target_of}
use Rattle.lola_model.specs.declared.spec.WindowSpec.{WindowSpec}
use Rattle.lola_panes.specs.Standing.{Partials, StandFor}
use Rattle.lola_instances_one.specs.declared.window.WindowPanes.{WindowPanes}
use Rattle.lola_instances_one.specs.Holdings.{Holdings, shown}
use Rattle.lola_instances_one.specs.Memories.{AllSince, AllStandFor, shifted}
use Rattle.lola_instances_one.specs.Saved.{MayHaveHad}
use Rattle.lola_instances_one.specs.Unborn.{AllPanesOf}
use Rattle.lola_instances_one.proofs.Silent.{silent-remembers}
use Rattle.lola_instances_stream.specs.Crowds.{RemembersAt, shown_at}
use Rattle.lola_instances_stream.proofs.Outcomes.{is_missing, item_at}
use Rattle.lola_instances.specs.Opening.{ArePlaces, count_onto}
use Rattle.lola_instances.specs.Saved.{MayHaveHadIn, partials_of}
use Rattle.lola_instances.specs.Phases.{start_in, time_in}
use Rattle.lola_instances.specs.Stores.{bounded_seen}
use Rattle.lola_instances.specs.Streams.{slot_at, slots_in, values_of}
use Rattle.lola_instances.specs.declared.store.BoundedStore.{BoundedStore}
use Rattle.lola_instances.proofs.Asking.{owner, shows_at, slot_is, slots_count}
use Rattle.lola_instances.proofs.Covering.{one_window, window_at}
use Rattle.lola_instances.proofs.Phases.{phase_start}
use Rattle.lola_instances.proofs.Remembered.{kept_is}

some_same : {X : Type 0} {x y : X} → Some x ≡ Some y → x ≡ y
some_same q = cc

-- the panes of two windows onto one target stand at two places
pub own_place : (ws : List WindowSpec) (places : List ℕ) (v w : ℕ) (a b : WindowSpec) → ArePlaces ws places → slice_get ws v ≡ Some a → slice_get ws w ≡ Some b → a.target ≡ b.target
    → slice_get places v ≡ slice_get places w → v ≡ w
own_place ws places v w a b h e f t q =
    let one = h.each v a e in
    let two = h.each w b f in
    let same : count_onto a.target (take v ws) ≡ count_onto b.target (take w ws) = some_same (sym one ∙ (q ∙ two)) in
    one_window b.target ws v w a b e f t refl (subst (λ (n : ℕ). count_onto n (take v ws) ≡ count_onto b.target (take w ws)) t same)

all_stand : (ps : List Partials) (all : List (ℕ × Field)) → ((k : ℕ) (p : Partials) → slice_get ps k ≡ Some p → StandFor p all) → AllStandFor ps all
all_stand [] all h = tt
all_stand (p ∷ ps) all h = (h 0 p refl, all_stand ps all (λ k q e. h (suc k) q e))

panes_count : (ws : List WindowPanes) (ps : List Partials) → AllPanesOf ws ps → length ps ≡ length ws
panes_count [] [] h = refl
panes_count [] (p ∷ ps) h = absurd h
panes_count (w ∷ ws) [] h = absurd h
panes_count (w ∷ ws) (p ∷ ps) h = ap suc (panes_count ws ps h.1)

module _ (s : BoundedStore) (n i : ℕ) (x : Holdings) (at : slot_at s.streams.items n i ≡ Some x) (all : List (ℕ × Field)) where
  -- where the panes of each window onto the stream stand for values, all of the instance's do
  pub windows_stand : ((w : ℕ) (v : WindowSpec) → slice_get s.windows w ≡ Some v → v.target ≡ n
      → MatchOption (partials_of (slot_at s.streams.items (target_of (slice_get s.windows w)) i) (slice_get s.places.items w)) ⊥ (λ p. StandFor p all))
      → AllStandFor x.panes all
  windows_stand h = all_stand x.panes all (λ k p e.
      let c = owner s.streams.items n i x at in
      let here : slice_get c.0.slots i ≡ Some x = sym (slot_is s.step s.streams.items n c.0 c.1 i) ∙ at in
      let count : length x.panes ≡ count_onto n s.windows = panes_count c.0.windows x.panes ((s.right n c.0 c.1).each i x here).steady.panes ∙ s.covered n c.0 c.1 in
      let below : k < length x.panes = slice_get_within x.panes k p e in
      let r = window_at n s.windows k (omega arith) in
      let place : slice_get s.places.items r.i ≡ Some k = s.at_places.each r.i r.w r.at ∙ ap Some (ap (λ (m : ℕ). count_onto m (take r.i s.windows)) r.target ∙ r.place) in
      let is : partials_of (slot_at s.streams.items (target_of (slice_get s.windows r.i)) i) (slice_get s.places.items r.i) ≡ Some p =
      ap (λ (o : Option WindowSpec). partials_of (slot_at s.streams.items (target_of o) i) (slice_get s.places.items r.i)) r.at
      ∙ (ap (λ (m : ℕ). partials_of (slot_at s.streams.items m i) (slice_get s.places.items r.i)) r.target
      ∙ (ap (λ (o : Option Holdings). partials_of o (slice_get s.places.items r.i)) at ∙ (ap (partials_of (Some x)) place ∙ e))) in
      subst (λ (o : Option Partials). MatchOption o ⊥ (λ (q : Partials). StandFor q all)) is (h r.i r.w r.at r.target))

none_lives : (s : BoundedStore) (n i : ℕ) → slot_at s.streams.items n i ≡ None → i < length (instances_seen (bounded_seen s) n) → ⊥
none_lives s n i at l =
    let count = slots_count s.step s.streams.items n in
    let low : i < length (slots_in (slice_get s.streams.items n)) = omega arith in
    let x = item_at (slots_in (slice_get s.streams.items n)) i low in
    let no : None ≡ Some x.0 = sym at ∙ x.1 in
    cc

pub silent_by_windows : (s : BoundedStore) (names : Naming) (n i : ℕ) (values : List (ℕ × Field)) (o : Option Holdings) → slot_at s.streams.items n i ≡ o → IsTrue (is_silent (now_seen (bounded_seen s) n i))
    → MayHaveHadIn s names n i values → RemembersAt (start_in s.phase) (time_in s.phase) s.step names (slot_at s.streams.items n i) values
silent_by_windows s names n i values None at silent h = absurd (none_lives s n i at h.lives)
silent_by_windows s names n i values (Some x) at silent h =
    let start = phase_start s.phase in
    let shows : now_seen (bounded_seen s) n i ≡ shown s.step x = shows_at s.step s.streams.items n i ∙ ap (shown_at s.step) at in
    let none : shown s.step x ≡ outcome.Missing = sym shows ∙ is_missing (now_seen (bounded_seen s) n i) silent in
    let kept : values_of (slot_at s.streams.items n i) ≡ x.ring.values = ap values_of at in
    let had : MayHaveHad (start_in s.phase) names x values = record {
      ring = ap (map (read names)) (sym kept) ∙ (h.last ∙ ap (λ (k : ℕ). keep_last k (map (λ (v : ℕ × Field). v.1) values)) (sym (kept_is s n i x at)));
      panes = subst (λ (k : ℕ). AllStandFor x.panes (map (shifted k) values)) start (windows_stand s n i x at (map (shifted (start_seen (bounded_seen s))) values) h.panes);
      since = subst (λ (k : ℕ). AllSince k values) start h.since;
      held = subst (AreHeld names) kept h.held;
    } in
    subst (λ (q : Option Holdings). RemembersAt (start_in s.phase) (time_in s.phase) s.step names q values) (sym at)
    (silent-remembers (start_in s.phase) (time_in s.phase) s.step names x values none had)
