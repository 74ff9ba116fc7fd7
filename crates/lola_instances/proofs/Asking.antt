-- What is asked of a stream of a store.
use Rattle.std.proofs.Common.{◌≡◌, ℕ, zero, suc, ◌+◌, ◌-◌, ◌*◌, ◌≤◌, ◌<◌, List, [], ◌∷◌, ◌++◌, length, map, refl, ap, sym, ◌∙◌, subst, arith, Option, Some, None, slice_get, nat_eq, nat_lt, if◌then◌else◌, Bool, ◌&&◌, MatchOption, get_or}
use Rattle.std.specs.Option.{option_map}
use Rattle.std.proofs.lemmas.List.{length-map}
use Rattle.std.proofs.lemmas.Option.{slice_get_read, slice_get-map}
use Rattle.lola_value.specs.declared.text.Field.{Field}
use Rattle.lola_value.specs.declared.value.Params.{Params}
use Rattle.lola_value.specs.declared.value.Outcome.{Outcome}
use Rattle.lola_value.specs.declared.value.Outcome.TheVariants as outcome
use Rattle.lola_value.specs.Answer.{Missing, Poisoned}
use Rattle.lola_value.specs.Naming.{Naming, read_outcome, IsHeldIn}
use Rattle.lola_model.specs.Accesses.{from_end, one_more}
use Rattle.lola_model.specs.Reading.{held_answer, spoiled, window_over, window_reading}
use Rattle.lola_model.specs.Store.{instances_of, is_bad_seen, now_at, now_at_place, now_of, place_among, place_of, kind_in, pane_of, target_of, start_seen, time_seen}
use Rattle.lola_model.specs.Windows.{aggregated, values_within}
use Rattle.lola_model.specs.declared.plan.PaneSize.{PaneSize}
use Rattle.lola_model.specs.declared.spec.WindowSpec.{WindowSpec}
use Rattle.lola_instances_one.specs.declared.window.WindowPanes.{WindowPanes}
use Rattle.lola_instances_one.specs.Holdings.{Holdings, slot_seen}
use Rattle.lola_instances_stream.specs.Crowds.{Crowd, crowd_seen, RemembersAt, now_in, place_in, shown_among, shown_at}
use Rattle.lola_instances_stream.specs.Each.{Each}
use Rattle.lola_instances_stream.specs.Rights.{CrowdRight, SlotRight}
use Rattle.lola_instances_stream.specs.Windowed.{windowed}
use Rattle.lola_instances_stream.proofs.Finding.{places, seen_at}
use Rattle.lola_instances_stream.proofs.Outcomes.{item_at}
use Rattle.lola_instances.specs.declared.store.BoundedStore.{BoundedStore}
use Rattle.lola_instances.specs.Placed.{IsPaneOf}
use Rattle.lola_instances.specs.Phases.{start_in, time_in}
use Rattle.lola_instances.specs.Stores.{bounded_seen, bounded_remembers}
use Rattle.lola_instances.specs.Streams.{crowd_layout, slots_in, slot_at}
use Rattle.lola_instances.proofs.Phases.{phase_start, phase_time}

-- a stream by its number

pub layout_at : (cs : List Crowd) (n : ℕ) (c : Crowd) → slice_get cs n ≡ Some c → slice_get (map crowd_layout cs) n ≡ Some c.layout
layout_at cs n c e = slice_get-map crowd_layout cs n ∙ ap (option_map crowd_layout) e

pub stream_at : (step : ℕ) (cs : List Crowd) (n : ℕ) (c : Crowd) → slice_get cs n ≡ Some c → slice_get (map (crowd_seen step) cs) n ≡ Some (crowd_seen step c)
stream_at step cs n c e = slice_get-map (crowd_seen step) cs n ∙ ap (option_map (crowd_seen step)) e

pub stream_read : (cs : List Crowd) (n : ℕ) (c : Crowd) → n < length (map crowd_layout cs) → c ≡ get_or cs n c → slice_get cs n ≡ Some c
stream_read cs n c h g = slice_get_read cs (length cs) n c refl (omega (arith, h, length-map cs crowd_layout)) g

pub slots_shown : (step : ℕ) (cs : List Crowd) (n : ℕ) → instances_of (slice_get (map (crowd_seen step) cs) n) ≡ map (slot_seen step) (slots_in (slice_get cs n))
slots_shown step cs n = ap instances_of (slice_get-map (crowd_seen step) cs n) ∙ of_stream (slice_get cs n)
  where
    of_stream : (o : Option Crowd) → instances_of (option_map (crowd_seen step) o) ≡ map (slot_seen step) (slots_in o)
    of_stream None = refl
    of_stream (Some c) = refl

pub slots_count : (step : ℕ) (cs : List Crowd) (n : ℕ) → length (instances_of (slice_get (map (crowd_seen step) cs) n)) ≡ length (slots_in (slice_get cs n))
slots_count step cs n = ap length (slots_shown step cs n) ∙ length-map (slots_in (slice_get cs n)) (slot_seen step)

-- where there is an instance, there is its stream
pub stream_of : (cs : List Crowd) (n i : ℕ) → i < length (slots_in (slice_get cs n)) → n < length cs
stream_of [] zero i h = absurd (omega arith)
stream_of [] (suc n) i h = absurd (omega arith)
stream_of (c ∷ cs) zero i h = omega arith
stream_of (c ∷ cs) (suc n) i h = let k = stream_of cs n i h in omega arith

pub stream_within : (step : ℕ) (cs : List Crowd) (n i : ℕ) → i < length (instances_of (slice_get (map (crowd_seen step) cs) n)) → n < length (map crowd_layout cs)
stream_within step cs n i h = omega (arith, stream_of cs n i (omega (arith, h, slots_count step cs n)), length-map cs crowd_layout)

pub found_stream : (step : ℕ) (cs : List Crowd) (n i : ℕ) (c : Crowd) → i < length (instances_of (slice_get (map (crowd_seen step) cs) n)) → c ≡ get_or cs n c → slice_get cs n ≡ Some c
found_stream step cs n i c h g = stream_read cs n c (stream_within step cs n i h) g

module _ (step : ℕ) (cs : List Crowd) (n : ℕ) (c : Crowd) (e : slice_get cs n ≡ Some c) where
  pub count_is : length (instances_of (slice_get (map (crowd_seen step) cs) n)) ≡ length c.slots
  count_is = slots_count step cs n ∙ ap (λ o. length (slots_in o)) e

  pub index_is : (i : ℕ) → i < length (instances_of (slice_get (map (crowd_seen step) cs) n)) → i < length c.slots
  index_is i h = omega (arith, h, count_is)

  pub slot_is : (i : ℕ) → slot_at cs n i ≡ slice_get c.slots i
  slot_is i = ap (λ o. slice_get (slots_in o) i) e

-- the outcome and the place of an instance, as others see them

module _ (s : BoundedStore) (n : ℕ) (c : Crowd) (p : Params) (e : slice_get s.streams.items n ≡ Some c) where
  pub place_is : place_of (bounded_seen s) n p ≡ place_in p c.slots 0
  place_is = ap (λ o. place_among p (instances_of o) 0) (stream_at s.step s.streams.items n c e) ∙ places s.step p c.slots 0

  at_place : (o : Option ℕ) → now_at_place (bounded_seen s) n o ≡ shown_among s.step c.slots o
  at_place None = refl
  at_place (Some i) = ap (λ o. now_at (slice_get (instances_of o) i)) (stream_at s.step s.streams.items n c e) ∙ seen_at s.step c.slots i

  pub now_is : now_of (bounded_seen s) n p ≡ now_in s.step c p
  now_is =
      ap (λ o. if is_bad_seen o then outcome.Poison else now_at_place (bounded_seen s) n (place_of (bounded_seen s) n p)) (stream_at s.step s.streams.items n c e)
      ∙ ap (λ x. if nat_eq c.bad_at s.step then outcome.Poison else x) (ap (now_at_place (bounded_seen s) n) place_is ∙ at_place (place_in p c.slots 0))

-- what one stream answers, the store answers

match_map : {X : Type 0} (o : Option X) (A B : Type 0) (P Q : X → Type 0) → (A → B) → ((x : X) → P x → Q x) → MatchOption o A P → MatchOption o B Q
match_map None A B P Q f g h = f h
match_map (Some x) A B P Q f g h = g x h

module _ (s : BoundedStore) (n : ℕ) (c : Crowd) (p : Params) (r : Outcome) (e : slice_get s.streams.items n ≡ Some c) where
  pub newest_told : MatchOption (place_in p c.slots 0) (r ≡ now_in s.step c p)
      (λ i. (start time : ℕ) (names : Naming) (values : List (ℕ × Field)) → RemembersAt start time s.step names (slice_get c.slots i) values
      → (read_outcome names r ≡ held_answer (read_outcome names (now_in s.step c p)) values) × IsHeldIn names r)
      → MatchOption (place_of (bounded_seen s) n p) (r ≡ now_of (bounded_seen s) n p)
      (λ i. (names : Naming) (values : List (ℕ × Field)) → bounded_remembers s names n i values
      → IsHeldIn names (now_of (bounded_seen s) n p)
      → (read_outcome names r ≡ held_answer (read_outcome names (now_of (bounded_seen s) n p)) values) × IsHeldIn names r)
  newest_told h =
      let w = now_is s n c p e in
      let B = r ≡ now_of (bounded_seen s) n p in
      let Q = λ (i : ℕ). (names : Naming) (values : List (ℕ × Field)) → bounded_remembers s names n i values
      → IsHeldIn names (now_of (bounded_seen s) n p)
      → (read_outcome names r ≡ held_answer (read_outcome names (now_of (bounded_seen s) n p)) values) × IsHeldIn names r in
      let P = λ (i : ℕ). (start time : ℕ) (names : Naming) (values : List (ℕ × Field)) → RemembersAt start time s.step names (slice_get c.slots i) values
      → (read_outcome names r ≡ held_answer (read_outcome names (now_in s.step c p)) values) × IsHeldIn names r in
      subst (λ (o : Option ℕ). MatchOption o B Q) (sym (place_is s n c p e))
      (match_map (place_in p c.slots 0) (r ≡ now_in s.step c p) B P Q (λ q. q ∙ sym w)
      (λ i f names values m held.
      let a = f (start_in s.phase) (time_in s.phase) names values (subst (λ (o : Option Holdings). RemembersAt (start_in s.phase) (time_in s.phase) s.step names o values) (slot_is s.step s.streams.items n c e i) m) in
      (a.0 ∙ ap (λ o. held_answer (read_outcome names o) values) (sym w), a.1)) h)

  pub back_told : (k : ℕ) → MatchOption (place_in p c.slots 0) (r ≡ outcome.Missing)
      (λ i. (start time : ℕ) (names : Naming) (values : List (ℕ × Field)) → RemembersAt start time s.step names (slice_get c.slots i) values
      → (read_outcome names r ≡ from_end values k) × IsHeldIn names r)
      → MatchOption (place_of (bounded_seen s) n p) (r ≡ outcome.Missing)
      (λ i. (names : Naming) (values : List (ℕ × Field)) → bounded_remembers s names n i values
      → (read_outcome names r ≡ from_end values k) × IsHeldIn names r)
  back_told k h =
      let B = r ≡ outcome.Missing in
      let Q = λ (i : ℕ). (names : Naming) (values : List (ℕ × Field)) → bounded_remembers s names n i values → (read_outcome names r ≡ from_end values k) × IsHeldIn names r in
      let P = λ (i : ℕ). (start time : ℕ) (names : Naming) (values : List (ℕ × Field)) → RemembersAt start time s.step names (slice_get c.slots i) values
      → (read_outcome names r ≡ from_end values k) × IsHeldIn names r in
      subst (λ (o : Option ℕ). MatchOption o B Q) (sym (place_is s n c p e))
      (match_map (place_in p c.slots 0) B B P Q (λ q. q)
      (λ i f names values m.
      f (start_in s.phase) (time_in s.phase) names values (subst (λ (o : Option Holdings). RemembersAt (start_in s.phase) (time_in s.phase) s.step names o values) (slot_is s.step s.streams.items n c e i) m)) h)

-- windows

-- the definitions' window is that of the panes
reading_is : (s : BoundedStore) (w : WindowSpec) (size : PaneSize) (q : WindowPanes) (c : Crowd) (names : Naming) (now : Outcome) (values : List (ℕ × Field)) → IsPaneOf c.layout.kind w size q
    → slice_get s.streams.items w.target ≡ Some c
    → windowed (start_in s.phase) (time_in s.phase) q (read_outcome names now) values
    ≡ window_over (bounded_seen s) (Some w) (kind_in (slice_get (map crowd_layout s.streams.items) w.target)) (read_outcome names now) values
reading_is s w size q c names now values a e =
    let t = sym (phase_time s.phase) in
    let b = sym (phase_start s.phase) in
    let k = a.kind_is ∙ sym (ap kind_in (layout_at s.streams.items w.target c e)) in
    λ j. if spoiled (read_outcome names now) then Poisoned
    else if a.exact j && nat_lt (t j) (b j + a.over j) then Missing
    else aggregated (a.aggregation j) (k j) (values_within (a.over j) (t j) (values ++ one_more (t j) (read_outcome names now)))

abbrev pub OfStream : BoundedStore → Crowd → ℕ → Params → Outcome → WindowPanes → Type 0
OfStream s c offset p r q = MatchOption (place_in p c.slots 0)
    ((start time : ℕ) (names : Naming) → offset ≡ time - start → start ≤ time → read_outcome names r ≡ windowed start time q (read_outcome names (now_in s.step c p)) [])
    (λ i. (start time : ℕ) (names : Naming) (values : List (ℕ × Field)) → RemembersAt start time s.step names (slice_get c.slots i) values → offset ≡ time - start → start ≤ time
    → read_outcome names r ≡ windowed start time q (read_outcome names (now_in s.step c p)) values)

pub window_told : (s : BoundedStore) (window : ℕ) (w : WindowSpec) (size : PaneSize) (q : WindowPanes) (c : Crowd) (p : Params) (r : Outcome) → slice_get s.windows window ≡ Some w → IsPaneOf c.layout.kind w size q
    → slice_get s.streams.items w.target ≡ Some c → OfStream s c (time_in s.phase - start_in s.phase) p r q
    → MatchOption (place_of (bounded_seen s) (target_of (slice_get s.windows window)) p)
    ((names : Naming) → read_outcome names r ≡ window_reading (bounded_seen s) window names (now_of (bounded_seen s) (target_of (slice_get s.windows window)) p) [])
    (λ i. (names : Naming) (values : List (ℕ × Field)) → bounded_remembers s names (target_of (slice_get s.windows window)) i values
    → read_outcome names r ≡ window_reading (bounded_seen s) window names (now_of (bounded_seen s) (target_of (slice_get s.windows window)) p) values)
window_told s window w size q c p r f a e h =
    subst (λ (o : Option WindowSpec). MatchOption (place_of (bounded_seen s) (target_of o) p)
    ((names : Naming) → read_outcome names r ≡ window_over (bounded_seen s) o (kind_in (slice_get (map crowd_layout s.streams.items) (target_of o))) (read_outcome names (now_of (bounded_seen s) (target_of o) p)) [])
    (λ i. (names : Naming) (values : List (ℕ × Field)) → bounded_remembers s names (target_of o) i values
    → read_outcome names r ≡ window_over (bounded_seen s) o (kind_in (slice_get (map crowd_layout s.streams.items) (target_of o))) (read_outcome names (now_of (bounded_seen s) (target_of o) p)) values)) (sym f)
    (subst (λ (o : Option ℕ). MatchOption o B Q) (sym (place_is s w.target c p e))
    (match_map (place_in p c.slots 0) A B P Q
    (λ g names. g (start_in s.phase) (time_in s.phase) names refl s.time_ge ∙ answer names [])
    (λ i g names values m.
    g (start_in s.phase) (time_in s.phase) names values (subst (λ (o : Option Holdings). RemembersAt (start_in s.phase) (time_in s.phase) s.step names o values) (slot_is s.step s.streams.items w.target c e i) m) refl s.time_ge
    ∙ answer names values) h))
  where
    offset : ℕ
    offset = time_in s.phase - start_in s.phase

    A : Type 0
    A = (start time : ℕ) (names : Naming) → time_in s.phase - start_in s.phase ≡ time - start → start ≤ time → read_outcome names r ≡ windowed start time q (read_outcome names (now_in s.step c p)) []

    P : ℕ → Type 0
    P i = (start time : ℕ) (names : Naming) (values : List (ℕ × Field)) → RemembersAt start time s.step names (slice_get c.slots i) values → time_in s.phase - start_in s.phase ≡ time - start → start ≤ time
        → read_outcome names r ≡ windowed start time q (read_outcome names (now_in s.step c p)) values

    B : Type 0
    B = (names : Naming) → read_outcome names r ≡ window_over (bounded_seen s) (Some w) (kind_in (slice_get (map crowd_layout s.streams.items) w.target)) (read_outcome names (now_of (bounded_seen s) w.target p)) []

    Q : ℕ → Type 0
    Q i = (names : Naming) (values : List (ℕ × Field)) → bounded_remembers s names w.target i values
        → read_outcome names r ≡ window_over (bounded_seen s) (Some w) (kind_in (slice_get (map crowd_layout s.streams.items) w.target)) (read_outcome names (now_of (bounded_seen s) w.target p)) values

    answer : (names : Naming) (values : List (ℕ × Field)) → windowed (start_in s.phase) (time_in s.phase) q (read_outcome names (now_in s.step c p)) values
        ≡ window_over (bounded_seen s) (Some w) (kind_in (slice_get (map crowd_layout s.streams.items) w.target)) (read_outcome names (now_of (bounded_seen s) w.target p)) values
    answer names values =
        ap (λ o. windowed (start_in s.phase) (time_in s.phase) q (read_outcome names o) values) (sym (now_is s w.target c p e))
        ∙ reading_is s w size q c names (now_of (bounded_seen s) w.target p) values a e

-- an instance by its places, and what is true of it

pub owner : (cs : List Crowd) (n i : ℕ) (x : Holdings) → slot_at cs n i ≡ Some x → (c : Crowd) × (slice_get cs n ≡ Some c)
owner [] zero i x e = absurd (cc)
owner [] (suc n) i x e = absurd (cc)
owner (c ∷ cs) zero i x e = (c, refl)
owner (c ∷ cs) (suc n) i x e = owner cs n i x e

pub shows_at : (step : ℕ) (cs : List Crowd) (n i : ℕ) → now_at (slice_get (instances_of (slice_get (map (crowd_seen step) cs) n)) i) ≡ shown_at step (slot_at cs n i)
shows_at step cs n i = ap (λ xs. now_at (slice_get xs i)) (slots_shown step cs n) ∙ seen_at step (slots_in (slice_get cs n)) i

pub right_at : (running prepared : Bool) (step offset : ℕ) (cs : List Crowd) (n i : ℕ) (x : Holdings) → Each (CrowdRight running prepared step offset) cs → slot_at cs n i ≡ Some x
    → (c : Crowd) × SlotRight c.layout c.windows running step offset x × (1 ≤ c.layout.kept)
right_at running prepared step offset cs n i x h e =
    let c = owner cs n i x e in
    let r = h n c.0 c.1 in
    (c.0, r.each i x (sym (ap (λ o. slice_get (slots_in o) i) c.1) ∙ e), r.kept)

-- where the panes of a window are

pub record Found (s : BoundedStore) (window place : ℕ) (w : WindowSpec) (c : Crowd) : Type 0 where
  pub size : PaneSize
  pub sized : slice_get s.sizes window ≡ Some size
  pub below : place < length c.windows
  pub q : WindowPanes
  pub at : slice_get c.windows place ≡ Some q
  pub is : IsPaneOf c.layout.kind w size q

abbrev pub placed_window : (s : BoundedStore) (window place : ℕ) (w : WindowSpec) (c : Crowd) → slice_get s.windows window ≡ Some w → slice_get s.places.items window ≡ Some place
    → slice_get s.streams.items w.target ≡ Some c → window < length s.windows → Found s window place w c
placed_window s window place w c f g e l =
    let size = item_at s.sizes window (omega (arith, l, s.placed.size_count)) in
    let p = s.placed.each window w size.0 place c f size.1 g e in
    let q = item_at c.windows place p.below in
    record { size = size.0; sized = size.1; below = p.below; q = q.0; at = q.1; is = p.is q.0 q.1 }

pub whole_offset : (s : BoundedStore) (window place : ℕ) (w : WindowSpec) (c : Crowd) (f : Found s window place w c) → ((k : ℕ) × (time_seen (bounded_seen s) ≡ start_seen (bounded_seen s) + k * pane_of (slice_get s.sizes window)))
    → (k : ℕ) × (time_in s.phase - start_in s.phase ≡ k * f.q.pane)
whole_offset s window place w c f h =
    let t : time_in s.phase ≡ start_in s.phase + h.0 * f.q.pane =
    sym (phase_time s.phase) ∙ (h.1 ∙ (λ j. phase_start s.phase j + h.0 * (ap pane_of f.sized ∙ sym f.is.pane) j)) in
    (h.0, omega arith)
