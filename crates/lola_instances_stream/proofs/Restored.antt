-- An instance that is restored.
use Rattle.std.proofs.Common.{◌≡◌, ℕ, zero, suc, ◌+◌, ◌-◌, ◌≤◌, ◌<◌, List, [], ◌∷◌, ◌++◌, length, map, refl, ap, sym, ◌∙◌, subst, arith, Option, Some, slice_get, slice_set, true, IsTrue, MatchOption}
use Rattle.std.proofs.lemmas.List.{length_push}
use Rattle.lola_value.specs.declared.text.Field.{Field}
use Rattle.lola_value.specs.declared.value.Kind.{Kind}
use Rattle.lola_value.specs.declared.value.Params.{Params}
use Rattle.lola_value.specs.declared.value.Value.{Value}
use Rattle.lola_value.specs.declared.value.Outcome.{Outcome}
use Rattle.lola_value.specs.declared.value.Outcome.TheVariants as outcome
use Rattle.lola_value.specs.Kinds.{are_of_kinds, is_of_kind, is_outcome_of, is_well_formed}
use Rattle.lola_value.specs.Naming.{Naming, the_values}
use Rattle.lola_model.specs.Store.{StreamLayout, is_silent}
use Rattle.lola_buffer.specs.Kept.{Kept}
use Rattle.lola_panes.specs.declared.partial.Partial.{Partial}
use Rattle.lola_panes.specs.Restored.{first_offset}
use Rattle.lola_panes.specs.Standing.{Partials, SameWindow}
use Rattle.lola_instances_one.specs.declared.window.WindowPanes.{WindowPanes}
use Rattle.lola_instances_one.specs.Holdings.{Holdings, shown, slot_seen, AllOf}
use Rattle.lola_instances_one.specs.Texts.{KeepsOutcome}
use Rattle.lola_instances_one.specs.Telling.{AllGiven}
use Rattle.lola_instances_one.specs.Unborn.{AllOnto, AllPanesOf, ArePanesOf}
use Rattle.lola_instances_stream.specs.Births.{newborn}
use Rattle.lola_instances_stream.specs.Changes.{IsChangedAt}
use Rattle.lola_instances_stream.specs.Crowds.{Crowd, RemembersAt}
use Rattle.lola_instances_stream.specs.Restoring.{HasOneMore, HasPanesRestored, IsRested}
use Rattle.lola_instances_stream.specs.Rights.{AreRight, SlotRight}
use Rattle.lola_instances_stream.proofs.Lists.{each-append, got_last, map_set}
use Rattle.lola_instances_stream.proofs.Newborns.{newborn_remembers, newborn_right, past_append}
use Rattle.lola_instances_stream.proofs.Outcomes.{earlier, given_more, is_missing, kind_dropped, kind_more, not_shown}

-- an instance that is at rest shows what a silent one does
pub rested_seen : (R : Holdings → Holdings → Type 0) (step : ℕ) (x y : Holdings) → IsRested (step - 1) R x y → 1 ≤ step → y.params ≡ x.params → y.born ≡ x.born → IsTrue (is_silent (shown step x)) → slot_seen step y ≡ slot_seen step x
rested_seen R step x y t l p b s =
    let e = t.stamp in
    let none = not_shown step y (omega arith) ∙ sym (is_missing (shown step x) s) in
    λ i. record { params = p i; born = b i; outcome = none i }

-- it keeps no outcome
rested_newest : (R : Holdings → Holdings → Type 0) (step : ℕ) (x y : Holdings) → IsRested step R x y → KeepsOutcome y
rested_newest R step x y t v e = let m = t.outcome in cc

-- panes that became others

panes_set : (ws : List WindowPanes) (ps : List Partials) (i : ℕ) (p q : Partials) → AllPanesOf ws ps → slice_get ps i ≡ Some p → SameWindow q p → AllPanesOf ws (slice_set ps i q)
panes_set [] [] i p q a e w = absurd (cc)
panes_set [] (r ∷ ps) i p q a e w = absurd a
panes_set (v ∷ ws) [] i p q a e w = absurd a
panes_set (v ∷ ws) (r ∷ ps) zero p q a e w =
    let same : p ≡ r = cc in
    let b = subst (ArePanesOf v) (sym same) a.0 in
    (record { aggregation = w.aggregation ∙ b.aggregation; kind = w.kind ∙ b.kind; pane = w.pane ∙ b.pane; count = w.count ∙ b.count; exact = w.exact ∙ b.exact }, a.1)
panes_set (v ∷ ws) (r ∷ ps) (suc i) p q a e w = (a.0, panes_set ws ps i p q a.1 e w)

given_set : (offset most : ℕ) (kind : Kind) (ps : List Partials) (i : ℕ) (p q : Partials) → AllGiven offset most kind ps → slice_get ps i ≡ Some p → q.newest ≤ offset → q.added ≤ most → q.kind ≡ p.kind
    → AllGiven offset most kind (slice_set ps i q)
given_set offset most kind [] i p q g e n a k = absurd (cc)
given_set offset most kind (r ∷ ps) zero p q g e n a k =
    let same : p ≡ r = cc in
    ((n, a, k ∙ ap (λ (s : Partials). s.kind) same ∙ g.0.2), g.1)
given_set offset most kind (r ∷ ps) (suc i) p q g e n a k = (g.0, given_set offset most kind ps i p q g.1 e n a k)

-- what is said of the item at a place
pub said_of : {X : Type 0} (P : X → Type 0) (o : Option X) (x : X) → o ≡ Some x → MatchOption o ⊥ P → P x
said_of P o x e h = subst (λ r. MatchOption r ⊥ P) e h

pub said_within : {X : Type 0} (P : X → Type 0) (xs : List X) (i : ℕ) → MatchOption (slice_get xs i) ⊥ P → i < length xs
said_within P [] zero h = absurd h
said_within P [] (suc i) h = absurd h
said_within P (x ∷ xs) zero h = omega arith
said_within P (x ∷ xs) (suc i) h = let k = said_within P xs i h in omega arith

-- what is right stays so

pub one_more_right : (layout : StreamLayout) (windows : List WindowPanes) (step offset : ℕ) (v : Value) (x y : Holdings) → SlotRight layout windows true step offset x → IsRested (step - 1) (HasOneMore v) x y
    → IsTrue (is_silent (shown step x)) → IsTrue (is_of_kind layout.kind v) → 2 ≤ step → SlotRight layout windows true step offset y
one_more_right layout windows step offset v x y h t s k l =
    let b = earlier layout.kind step offset x h.timely s in
    let n = t.stamp in
    let r = t.related in
    record {
      steady = record {
        outcome = subst (λ (o : Outcome). IsTrue (is_outcome_of layout.kind o)) (sym t.outcome) refl;
        capacity = ap (λ (r : Kept). r.capacity) r.ring ∙ h.steady.capacity;
        values = subst (λ (r : Kept). AllOf layout.kind r.values) (sym r.ring)
            (kind_dropped layout.kind (length (x.ring.values ++ v ∷ []) - x.ring.capacity) (x.ring.values ++ v ∷ []) (kind_more layout.kind x.ring.values v h.steady.values k));
        newest = rested_newest (HasOneMore v) (step - 1) x y t;
        kinds = subst (λ p. IsTrue (are_of_kinds layout.parameters (the_values p))) (sym r.params) h.steady.kinds;
        formed = subst (λ p. IsTrue (is_well_formed p)) (sym r.params) h.steady.formed;
        panes = subst (AllPanesOf windows) (sym r.panes) h.steady.panes;
      };
      timely = record {
        stamp_le = omega arith;
        told = λ e. absurd (omega arith);
        given = subst (AllGiven offset (y.stamp - 1) layout.kind) (sym r.panes) (given_more offset offset (x.stamp - 1) (y.stamp - 1) layout.kind x.panes h.timely.given (omega arith) (omega arith));
      };
      untold = λ e. cc;
    }

pub panes_restored_right : (layout : StreamLayout) (windows : List WindowPanes) (step offset last : ℕ) (parts : List Partial) (place : ℕ) (x y : Holdings) → SlotRight layout windows true step offset x
    → IsRested (step - 1) (HasPanesRestored last parts (step - 2) place) x y → IsTrue (is_silent (shown step x)) → MatchOption (slice_get x.panes place) ⊥ (λ p. first_offset p.pane last ≤ offset) → 2 ≤ step
    → SlotRight layout windows true step offset y
panes_restored_right layout windows step offset last parts place x y h t s f l =
    let b = earlier layout.kind step offset x h.timely s in
    let n = t.stamp in
    let r = t.related in
    let c = r.panes in
    let w = c.related in
    let before = said_of (λ (p : Partials). first_offset p.pane last ≤ offset) (slice_get x.panes place) c.p c.at f in
    let newest = w.newest in
    let added = w.added in
    record {
      steady = record {
        outcome = subst (λ (o : Outcome). IsTrue (is_outcome_of layout.kind o)) (sym t.outcome) refl;
        capacity = ap (λ (r : Kept). r.capacity) r.ring ∙ h.steady.capacity;
        values = subst (λ (r : Kept). AllOf layout.kind r.values) (sym r.ring) h.steady.values;
        newest = rested_newest (HasPanesRestored last parts (step - 2) place) (step - 1) x y t;
        kinds = subst (λ p. IsTrue (are_of_kinds layout.parameters (the_values p))) (sym r.params) h.steady.kinds;
        formed = subst (λ p. IsTrue (is_well_formed p)) (sym r.params) h.steady.formed;
        panes = subst (AllPanesOf windows) (sym c.set) (panes_set windows x.panes place c.p c.q h.steady.panes c.at w.window);
      };
      timely = record {
        stamp_le = omega arith;
        told = λ e. absurd (omega arith);
        given = subst (AllGiven offset (y.stamp - 1) layout.kind) (sym c.set)
            (given_set offset (y.stamp - 1) layout.kind x.panes place c.p c.q (given_more offset offset (x.stamp - 1) (y.stamp - 1) layout.kind x.panes h.timely.given (omega arith) (omega arith)) c.at
            (omega arith) (omega arith) w.window.kind);
      };
      untold = λ e. cc;
    }

-- one instance of a list is restored

module _ (R : Holdings → Holdings → Type 0) (step i : ℕ) (xs ys : List Holdings) (h : IsChangedAt (IsRested step R) i xs ys) where
  pub restored_at : IsChangedAt R i xs ys
  restored_at = record { x = h.x; y = h.y; at = h.at; set = h.set; related = h.related.related }

pub changed_still : (R : Holdings → Holdings → Type 0) (i : ℕ) (xs ys : List Holdings) (h : IsChangedAt R i xs ys) (step : ℕ) → slot_seen step h.y ≡ slot_seen step h.x → map (slot_seen step) ys ≡ map (slot_seen step) xs
changed_still R i xs ys h step q = ap (map (slot_seen step)) h.set ∙ map_set (slot_seen step) xs i h.x h.y h.at q

-- one that is born in room that was made

module _ (time : ℕ) (p : Params) (k m n : Crowd) (at : ℕ) (made : m ≡ record k { capacity = m.capacity; spares = m.spares }) (last : at ≡ m.spawned_at)
    (born : n ≡ record m { spawned_at = at; slots = m.slots ++ newborn m.layout.kept m.windows time p ∷ []; spares = n.spares }) where
  pub born_is : n ≡ record k { slots = k.slots ++ newborn k.layout.kept k.windows time p ∷ []; capacity = n.capacity; spares = n.spares }
  born_is =
      let layout = ap (λ (c : Crowd). c.layout) born ∙ ap (λ (c : Crowd). c.layout) made in
      let windows = ap (λ (c : Crowd). c.windows) born ∙ ap (λ (c : Crowd). c.windows) made in
      let bad_at = ap (λ (c : Crowd). c.bad_at) born ∙ ap (λ (c : Crowd). c.bad_at) made in
      let spawned_at = ap (λ (c : Crowd). c.spawned_at) born ∙ last ∙ ap (λ (c : Crowd). c.spawned_at) made in
      let slots = ap (λ (c : Crowd). c.slots) born ∙ ap (λ (c : Crowd). c.slots ++ newborn c.layout.kept c.windows time p ∷ []) made in
      λ j. record { layout = layout j; windows = windows j; bad_at = bad_at j; spawned_at = spawned_at j; slots = slots j; capacity = n.capacity; spares = n.spares }

  pub born_right : AllOnto m.layout.kind m.windows → IsTrue (are_of_kinds k.layout.parameters (the_values p)) → IsTrue (is_well_formed p) → (step offset : ℕ) → 1 ≤ step → AreRight true step offset k → AreRight true step offset n
  born_right onto kinds formed step offset l right =
      subst (AreRight true step offset) (sym born_is)
      (each-append (SlotRight k.layout k.windows true step offset) k.slots (newborn k.layout.kept k.windows time p) right
      (newborn_right k.layout k.windows true step offset time p l (subst (λ (c : Crowd). AllOnto c.layout.kind c.windows) made onto) kinds formed))

  pub born_past : (start time step : ℕ) (names : Naming) (i : ℕ) (values : List (ℕ × Field)) → RemembersAt start time step names (slice_get k.slots i) values → RemembersAt start time step names (slice_get n.slots i) values
  born_past start now step names i values r =
      subst (λ (c : Crowd). RemembersAt start now step names (slice_get c.slots i) values) (sym born_is)
      (past_append (λ o. RemembersAt start now step names o values) k.slots (newborn k.layout.kept k.windows time p) i (λ z. z) r)

  pub born_new : 1 ≤ m.layout.kept → (start time step : ℕ) (names : Naming) → RemembersAt start time step names (slice_get n.slots (length k.slots)) []
  born_new kept start now step names =
      let x = newborn k.layout.kept k.windows time p in
      subst (λ (c : Crowd). RemembersAt start now step names (slice_get c.slots (length k.slots)) []) (sym born_is)
      (subst (λ (o : Option Holdings). RemembersAt start now step names o []) (sym (got_last k.slots x))
      (newborn_remembers k.layout.kept k.windows time p start now step names (subst (λ (c : Crowd). 1 ≤ c.layout.kept) made kept)))

  pub born_room : length m.slots + 2 ≤ m.capacity → length n.slots + 1 ≤ n.capacity
  born_room room =
      let c = ap (λ (c : Crowd). c.capacity) born in
      let l = ap (λ (c : Crowd). length c.slots) born ∙ length_push m.slots (newborn m.layout.kept m.windows time p) in
      omega arith
