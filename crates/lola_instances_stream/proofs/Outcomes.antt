-- An instance that is given an outcome.
use Rattle.std.proofs.Common.{◌≡◌, ℕ, zero, suc, ◌+◌, ◌-◌, ◌^◌, ◌≤◌, ◌<◌, List, [], ◌∷◌, ◌++◌, length, map, drop, refl, ap, sym, ◌∙◌, subst, arith, Option, Some, slice_get, slice_set, nat_eq, if◌then◌else◌, Bool, true, false, not, IsTrue, MatchOption, eq-eqb, length-set}
use Rattle.std.proofs.lemmas.Bool.{eqb-true, eqb-false, ne_eqb}
use Rattle.lola_value.specs.declared.value.Kind.{Kind}
use Rattle.lola_value.specs.declared.value.Value.{Value}
use Rattle.lola_value.specs.declared.value.Outcome.{Outcome}
use Rattle.lola_value.specs.declared.value.Outcome.TheVariants as outcome
use Rattle.lola_value.specs.Kinds.{are_of_kinds, is_of_kind, is_outcome_of, is_well_formed}
use Rattle.lola_value.specs.Naming.{the_values}
use Rattle.lola_model.specs.Store.{SeenInstance, StreamLayout, is_silent, told_at}
use Rattle.lola_buffer.specs.Kept.{Kept, before_newest}
use Rattle.lola_panes.specs.Standing.{Partials}
use Rattle.lola_instances_one.specs.declared.window.WindowPanes.{WindowPanes}
use Rattle.lola_instances_one.specs.Holdings.{Holdings, shown, slot_seen, AllOf}
use Rattle.lola_instances_one.specs.Telling.{AllGiven, AllReady}
use Rattle.lola_instances_one.specs.Texts.{KeepsOutcome}
use Rattle.lola_instances_one.proofs.Giving.{given_ready, given_told, panes_told}
use Rattle.lola_instances_one.proofs.Needing.{told_kept}
use Rattle.lola_instances_stream.specs.Changes.{HasTold, WasPoisoned, IsChangedAt}
use Rattle.lola_instances_stream.specs.Crowds.{shown_at}
use Rattle.lola_instances_stream.specs.Each.{Each}
use Rattle.lola_instances_stream.specs.Rights.{IsTimely, SlotRight}
use Rattle.lola_instances_stream.proofs.Lists.{each-set, same_set, other_set}

no_both : (b : Bool) → b ≡ true → not b ≡ true → ⊥
no_both true e f = cc
no_both false e f = cc

pub is_missing : (o : Outcome) → IsTrue (is_silent o) → o ≡ outcome.Missing
is_missing (outcome.Value v) h = cc
is_missing outcome.Missing h = refl
is_missing (outcome.Fault k) h = cc
is_missing outcome.Poison h = cc

pub shown_now : (step : ℕ) (y : Holdings) (o : Outcome) → y.stamp ≡ step → y.outcome ≡ o → shown step y ≡ o
shown_now step y o e q = ap (λ b. if b then y.outcome else outcome.Missing) (eq-eqb y.stamp step e) ∙ q

pub not_shown : (step : ℕ) (s : Holdings) → s.stamp < step → shown step s ≡ outcome.Missing
not_shown step s h = ap (λ b. if b then s.outcome else outcome.Missing) (ne_eqb s.stamp step (λ q. omega arith))

-- an instance that is silent in this step was given its outcome in an earlier one
pub earlier : (kind : Kind) (step offset : ℕ) (x : Holdings) → IsTimely kind step offset x → IsTrue (is_silent (shown step x)) → x.stamp < step
earlier kind step offset x h s =
    (elim (nat_eq x.stamp step) as (λ b. nat_eq x.stamp step ≡ b → x.stamp < step) [
      | true ↦ λ q.
          let e = eqb-true x.stamp step q in
          absurd (no_both (is_silent x.outcome) (subst (λ o. IsTrue (is_silent o)) (shown_now step x x.outcome e refl) s) (h.told e))
      | false ↦ λ q. let n = eqb-false x.stamp step q in let l = h.stamp_le in omega arith
    ]) refl

-- panes that were given values can be given more, and later
pub given_more : (offset later most more : ℕ) (kind : Kind) (ps : List Partials) → AllGiven offset most kind ps → offset ≤ later → most ≤ more → AllGiven later more kind ps
given_more offset later most more kind [] h l m = tt
given_more offset later most more kind (p ∷ ps) h l m =
    let a = h.0.0 in
    let b = h.0.1 in
    ((omega arith, omega arith, h.0.2), given_more offset later most more kind ps h.1 l m)

pub kind_more : (k : Kind) (vs : List Value) (v : Value) → AllOf k vs → IsTrue (is_of_kind k v) → AllOf k (vs ++ v ∷ [])
kind_more k [] v h g = (g, tt)
kind_more k (x ∷ vs) v h g = (h.0, kind_more k vs v h.1 g)

pub kind_dropped : (k : Kind) (d : ℕ) (vs : List Value) → AllOf k vs → AllOf k (drop d vs)
kind_dropped k zero vs h = h
kind_dropped k (suc d) [] h = tt
kind_dropped k (suc d) (x ∷ vs) h = kind_dropped k d vs h.1

-- panes are ready for a value of this step
pub ready : (layout : StreamLayout) (windows : List WindowPanes) (step offset : ℕ) (v : Value) (x : Holdings) → SlotRight layout windows true step offset x
    → IsTrue (is_silent (shown step x)) → IsTrue (is_of_kind layout.kind v) → step ≤ 2 ^ 63 + 1 → AllReady offset v x.panes
ready layout windows step offset v x h s k l =
    let e = earlier layout.kind step offset x h.timely s in
    given_ready offset offset (x.stamp - 1) layout.kind v x.panes h.timely.given (omega arith) (omega arith) k

-- a value that was told is the newest
told_newest : (kept step offset : ℕ) (v : Value) (x y : Holdings) → x.ring.capacity ≡ kept → 1 ≤ kept → HasTold step offset v x y → KeepsOutcome y
told_newest kept step offset v x y c l t w e =
    let same : outcome.Value v ≡ outcome.Value w = sym t.outcome ∙ e in
    let own : v ≡ w = cc in
    ap (λ (r : Kept). before_newest 0 r.values) t.ring ∙ (told_kept x.ring.capacity x.ring.values v (omega arith) ∙ ap Some own)

-- what is right stays so

pub told_right : (layout : StreamLayout) (windows : List WindowPanes) (step offset : ℕ) (v : Value) (x y : Holdings) → SlotRight layout windows true step offset x → HasTold step offset v x y
    → IsTrue (is_silent (shown step x)) → IsTrue (is_of_kind layout.kind v) → 2 ≤ step → 1 ≤ layout.kept → SlotRight layout windows true step offset y
told_right layout windows step offset v x y h t s k l m =
    let b = earlier layout.kind step offset x h.timely s in
    let n = t.stamp in
    record {
      steady = record {
        outcome = subst (λ (o : Outcome). IsTrue (is_outcome_of layout.kind o)) (sym t.outcome) k;
        capacity = ap (λ (r : Kept). r.capacity) t.ring ∙ h.steady.capacity;
        values = subst (λ (r : Kept). AllOf layout.kind r.values) (sym t.ring)
            (kind_dropped layout.kind (length (x.ring.values ++ v ∷ []) - x.ring.capacity) (x.ring.values ++ v ∷ []) (kind_more layout.kind x.ring.values v h.steady.values k));
        newest = told_newest layout.kept step offset v x y h.steady.capacity m t;
        kinds = subst (λ p. IsTrue (are_of_kinds layout.parameters (the_values p))) (sym t.params) h.steady.kinds;
        formed = subst (λ p. IsTrue (is_well_formed p)) (sym t.params) h.steady.formed;
        panes = panes_told offset v windows x.panes y.panes h.steady.panes t.panes;
      };
      timely = record {
        stamp_le = omega arith;
        told = λ e. subst (λ (o : Outcome). IsTrue (not (is_silent o))) (sym t.outcome) refl;
        given = given_more offset offset (x.stamp - 1 + 1) (y.stamp - 1) layout.kind y.panes (given_told offset offset (x.stamp - 1) layout.kind v x.panes y.panes h.timely.given t.panes) (omega arith) (omega arith);
      };
      untold = λ e. cc;
    }

poisoned_is : (layout : StreamLayout) (windows : List WindowPanes) (step offset : ℕ) (x : Holdings) → SlotRight layout windows true step offset x
    → SlotRight layout windows true step offset (record x { stamp = step; outcome = outcome.Poison })
poisoned_is layout windows step offset x h =
    let l = h.timely.stamp_le in
    record {
      steady = record {
        outcome = refl;
        capacity = h.steady.capacity;
        values = h.steady.values;
        newest = λ v e. cc;
        kinds = h.steady.kinds;
        formed = h.steady.formed;
        panes = h.steady.panes;
      };
      timely = record {
        stamp_le = omega arith;
        told = λ e. refl;
        given = given_more offset offset (x.stamp - 1) (step - 1) layout.kind x.panes h.timely.given (omega arith) (omega arith);
      };
      untold = λ e. cc;
    }

pub poisoned_right : (layout : StreamLayout) (windows : List WindowPanes) (step offset : ℕ) (x y : Holdings) → SlotRight layout windows true step offset x → WasPoisoned step x y
    → SlotRight layout windows true step offset y
poisoned_right layout windows step offset x y h t = subst (SlotRight layout windows true step offset) (sym t.slot) (poisoned_is layout windows step offset x h)

-- one instance of a list became another

told_set : (step : ℕ) (xs : List Holdings) (i : ℕ) (x y : Holdings) (o : Outcome) → slice_get xs i ≡ Some x → slot_seen step y ≡ record { params = x.params; born = x.born; outcome = o }
    → map (slot_seen step) (slice_set xs i y) ≡ told_at (map (slot_seen step) xs) i o
told_set step [] i x y o e q = absurd (cc)
told_set step (a ∷ xs) zero x y o e q =
    let w : x ≡ a = cc in
    ap (λ z. z ∷ map (slot_seen step) xs) (q ∙ (let f : Holdings → SeenInstance = λ z. record { params = z.params; born = z.born; outcome = o } in ap f w))
told_set step (a ∷ xs) (suc i) x y o e q = ap (λ zs. slot_seen step a ∷ zs) (told_set step xs i x y o e q)

past_set : (P : Option Holdings → Type 0) (xs : List Holdings) (i j : ℕ) (x y : Holdings) → slice_get xs i ≡ Some x → (P (Some x) → P (Some y)) → P (slice_get xs j) → P (slice_get (slice_set xs i y) j)
past_set P xs i j x y e f h =
    (elim (nat_eq j i) as (λ b. nat_eq j i ≡ b → P (slice_get (slice_set xs i y) j)) [
      | true ↦ λ q.
          let w : j ≡ i = eqb-true j i q in
          subst P (sym (ap (λ k. slice_get (slice_set xs i y) k) w ∙ same_set xs i x y e)) (f (subst P (ap (λ k. slice_get xs k) w ∙ e) h))
      | false ↦ λ q. subst P (sym (other_set xs i j y (eqb-false j i q))) h
    ]) refl

module _ (R : Holdings → Holdings → Type 0) (i : ℕ) (xs ys : List Holdings) (h : IsChangedAt R i xs ys) where
  pub changed_each : (P : Holdings → Type 0) → Each P xs → (P h.x → P h.y) → Each P ys
  changed_each P all f = subst (Each P) (sym h.set) (each-set P xs i h.y all (f (all i h.x h.at)))

  pub changed_count : length ys ≡ length xs
  changed_count = ap length h.set ∙ length-set xs i h.y

  pub changed_seen : (step : ℕ) (o : Outcome) → slot_seen step h.y ≡ record { params = h.x.params; born = h.x.born; outcome = o } → map (slot_seen step) ys ≡ told_at (map (slot_seen step) xs) i o
  changed_seen step o q = ap (map (slot_seen step)) h.set ∙ told_set step xs i h.x h.y o h.at q

  pub changed_past : (P : Option Holdings → Type 0) (j : ℕ) → (P (Some h.x) → P (Some h.y)) → P (slice_get xs j) → P (slice_get ys j)
  changed_past P j f p = subst (λ zs. P (slice_get zs j)) (sym h.set) (past_set P xs i j h.x h.y h.at f p)

  pub changed_silent : (step : ℕ) → IsTrue (is_silent (shown_at step (slice_get xs i))) → IsTrue (is_silent (shown step h.x))
  changed_silent step s = subst (λ o. IsTrue (is_silent (shown_at step o))) h.at s

pub told_seen : (step offset : ℕ) (v : Value) (x y : Holdings) → HasTold step offset v x y → slot_seen step y ≡ record { params = x.params; born = x.born; outcome = outcome.Value v }
told_seen step offset v x y t = let some = shown_now step y (outcome.Value v) t.stamp t.outcome in λ i. record { params = t.params i; born = t.born i; outcome = some i }

pub poisoned_seen : (step : ℕ) (x y : Holdings) → WasPoisoned step x y → slot_seen step y ≡ record { params = x.params; born = x.born; outcome = outcome.Poison }
poisoned_seen step x y t =
    let some = shown_now step y outcome.Poison (ap (λ (s : Holdings). s.stamp) t.slot) (ap (λ (s : Holdings). s.outcome) t.slot) in
    λ i. record { params = (t.slot i).params; born = (t.slot i).born; outcome = some i }

-- where there is a place, there is an item
pub item_at : {X : Type 0} (xs : List X) (i : ℕ) → i < length xs → (x : X) × (slice_get xs i ≡ Some x)
item_at [] i l = absurd (omega arith)
item_at (x ∷ xs) zero l = (x, refl)
item_at (x ∷ xs) (suc i) l = item_at xs i (omega arith)

pub ready_at : (layout : StreamLayout) (windows : List WindowPanes) (step offset : ℕ) (v : Value) (xs : List Holdings) (i : ℕ) → Each (SlotRight layout windows true step offset) xs → i < length xs
    → IsTrue (is_silent (shown_at step (slice_get xs i))) → IsTrue (is_of_kind layout.kind v) → step ≤ 2 ^ 63 + 1 → MatchOption (slice_get xs i) ⊥ (λ s. AllReady offset v s.panes)
ready_at layout windows step offset v xs i all l s k m =
    let p = item_at xs i l in
    subst (λ o. MatchOption o ⊥ (λ s. AllReady offset v s.panes)) (sym p.1)
    (ready layout windows step offset v p.0 (all i p.0 p.1) (subst (λ o. IsTrue (is_silent (shown_at step o))) p.1 s) k m)
