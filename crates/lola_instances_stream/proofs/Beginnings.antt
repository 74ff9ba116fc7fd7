-- A step that begins, and a run.
use Rattle.std.proofs.Common.{◌≡◌, ℕ, suc, ◌+◌, ◌-◌, ◌≤◌, List, [], ◌∷◌, ◌++◌, length, map, refl, ap, sym, ◌∙◌, subst, arith, Option, Some, None, nat_eq, if◌then◌else◌, Bool, true, false, not, ◌&&◌, length-drop}
use Rattle.std.proofs.lemmas.Bool.{ne_eqb}
use Rattle.std.proofs.lemmas.List.{append-nil}
use Rattle.circular_buffer.specs.Buffer.{keep_last}
use Rattle.lola_value.specs.declared.text.Field.{Field}
use Rattle.lola_value.specs.declared.value.Value.{Value}
use Rattle.lola_value.specs.Naming.{Naming, read, read_outcome}
use Rattle.lola_model.specs.Accesses.{one_more}
use Rattle.lola_model.specs.Reading.{IsHeldBy}
use Rattle.lola_model.specs.Store.{StreamLayout, quiet, silent}
use Rattle.lola_instances_one.specs.declared.window.WindowPanes.{WindowPanes}
use Rattle.lola_instances_one.specs.Holdings.{Holdings, slot_seen}
use Rattle.lola_instances_one.specs.Memories.{Remembers, life_values, shifted, AllSince, AllStandFor}
use Rattle.lola_instances_one.proofs.Remembering.{remembers-begun, remembers-renamed}
use Rattle.lola_instances_stream.specs.Crowds.{Crowd, crowd_seen, shown_at, RemembersAt}
use Rattle.lola_instances_stream.specs.Each.{Each}
use Rattle.lola_instances_stream.specs.Rights.{IsUntold, SlotRight, CrowdRight, owed}
use Rattle.lola_instances_stream.proofs.Outcomes.{given_more, not_shown}

-- how much room is owed

pub owed_one : (running : Bool) (step at : ℕ) → owed false running step at ≤ 1
owed_one running step at = elim (running && not (nat_eq at step)) as (λ b. 0 + (if b then 1 else 0) ≤ 1) [ true ↦ omega arith | false ↦ omega arith ]

pub owed_next : (running : Bool) (step at : ℕ) → 1 ≤ owed true running step at
owed_next running step at = elim (running && not (nat_eq at step)) as (λ b. 1 ≤ 1 + (if b then 1 else 0)) [ true ↦ omega arith | false ↦ omega arith ]

pub owed_two : (prepared running : Bool) (step at : ℕ) → owed prepared running step at ≤ 2
owed_two true running step at = elim (running && not (nat_eq at step)) as (λ b. 1 + (if b then 1 else 0) ≤ 2) [ true ↦ omega arith | false ↦ omega arith ]
owed_two false running step at = let k = owed_one running step at in omega arith

-- what is right stays so

pub slot_later : (layout : StreamLayout) (windows : List WindowPanes) (running : Bool) (step offset later : ℕ) (s : Holdings) → SlotRight layout windows running step offset s → offset ≤ later
    → SlotRight layout windows true (step + 1) later s
slot_later layout windows running step offset later s h l =
    let m = h.timely.stamp_le in
    record {
      steady = h.steady;
      timely = record {
        stamp_le = omega arith;
        told = λ e. absurd (omega arith);
        given = given_more offset later (s.stamp - 1) (s.stamp - 1) layout.kind s.panes h.timely.given l (omega arith);
      };
      untold = λ e. cc;
    }

pub crowd_later : (running : Bool) (step offset later : ℕ) (c : Crowd) → CrowdRight running true step offset c → offset ≤ later → CrowdRight true false (step + 1) later c
crowd_later running step offset later c h l =
    let b = h.bad_le in
    let s = h.spawned_le in
    record {
      bad_le = omega arith;
      spawned_le = omega arith;
      kept = h.kept;
      few = h.few;
      each = λ i x e. slot_later c.layout c.windows running step offset later x (h.each i x e) l;
      room = λ e. omega (arith, h.room e, owed_one true (step + 1) c.spawned_at, owed_next running step c.spawned_at);
      spares = λ e. omega (arith, h.spares e, owed_one true (step + 1) c.spawned_at, owed_next running step c.spawned_at);
    }

-- nothing is shown of an earlier step

slots_silent : (step : ℕ) (ss : List Holdings) → Each (λ s. s.stamp ≤ step) ss → map (slot_seen (step + 1)) ss ≡ map silent (map (slot_seen step) ss)
slots_silent step [] h = refl
slots_silent step (s ∷ ss) h =
    let m = h 0 s refl in
    let e = not_shown (step + 1) s (omega arith) in
    let r = slots_silent step ss (λ i y q. h (suc i) y q) in
    λ i. record { params = s.params; born = s.born; outcome = e i } ∷ r i

pub crowd_quiet : (running prepared : Bool) (step offset : ℕ) (c : Crowd) → CrowdRight running prepared step offset c → crowd_seen (step + 1) c ≡ quiet (crowd_seen step c)
crowd_quiet running prepared step offset c h =
    let b = h.bad_le in
    let s = h.spawned_le in
    let eb : nat_eq c.bad_at (step + 1) ≡ false = ne_eqb c.bad_at (step + 1) (λ q. omega arith) in
    let es : nat_eq c.spawned_at (step + 1) ≡ false = ne_eqb c.spawned_at (step + 1) (λ q. omega arith) in
    let ei = slots_silent step c.slots (λ i x e. (h.each i x e).timely.stamp_le) in
    λ i. record { bad = eb i; spawned = es i; instances = ei i }

-- this step's value is an earlier one
pub begun_at : (start time step later : ℕ) (names : Naming) (o : Option Holdings) (values : List (ℕ × Field)) → ((s : Holdings) → o ≡ Some s → s.stamp ≤ step) → RemembersAt start time step names o values
    → RemembersAt start later (step + 1) names o (values ++ one_more time (read_outcome names (shown_at step o)))
begun_at start time step later names None values r h = h
begun_at start time step later names (Some s) values r h =
    let l = r s refl in remembers-begun start time step later (step + 1) names s values h (omega arith)

-- wherever the run starts, an instance that was told nothing has no values

none_kept : {X : Type 0} (n : ℕ) (xs : List X) → 1 ≤ n → [] ≡ keep_last n xs → xs ≡ []
none_kept n [] h e = refl
none_kept n (x ∷ xs) h e = absurd (omega (arith, ap length e, length-drop (length (x ∷ xs) - n) (x ∷ xs)))

no_values_in : (vs : List Value) → length vs ≡ 0 → vs ≡ []
no_values_in [] e = refl
no_values_in (v ∷ vs) e = absurd (omega arith)

no_items : (vs : List (ℕ × Field)) → map (λ (v : ℕ × Field). v.1) vs ≡ [] → vs ≡ []
no_items [] e = refl
no_items (v ∷ vs) e = cc

untold_starts : (start time later step : ℕ) (names : Naming) (s : Holdings) (values : List (ℕ × Field)) → IsUntold step s → 1 ≤ s.ring.capacity → Remembers start time step names s values
    → Remembers later later step names s values
untold_starts start time later step names s values u c h =
    let none = not_shown step s u.stamp_lt in
    let before : life_values time step names s values ≡ values = ap (λ r. values ++ one_more time (read_outcome names r)) none ∙ append-nil values in
    let after : life_values later step names s values ≡ values = ap (λ r. values ++ one_more later (read_outcome names r)) none ∙ append-nil values in
    let ring : [] ≡ map (λ (v : ℕ × Field). v.1) (life_values time step names s values) → values ≡ [] = λ q. sym before ∙ no_items (life_values time step names s values) (sym q) in
    let empty : values ≡ [] = ring (sym (none_kept s.ring.capacity (map (λ (v : ℕ × Field). v.1) (life_values time step names s values)) c
    (ap (map (read names)) (sym (no_values_in s.ring.values u.values)) ∙ h.ring))) in
    let was : life_values time step names s values ≡ [] = before ∙ empty in
    let is : life_values later step names s values ≡ [] = after ∙ empty in
    let same : life_values later step names s values ≡ life_values time step names s values = is ∙ sym was in
    record {
      ring = h.ring ∙ ap (λ vs. keep_last s.ring.capacity (map (λ (v : ℕ × Field). v.1) vs)) (sym same);
      panes = subst (λ vs. AllStandFor s.panes (map (shifted later) vs)) (sym is) (subst (λ vs. AllStandFor s.panes (map (shifted start) vs)) was h.panes);
      since = subst (AllSince later) (sym is) tt;
      held = h.held;
      now_held = h.now_held;
    }

pub started_at : (start time later step : ℕ) (names : Naming) (o : Option Holdings) (values : List (ℕ × Field)) → ((s : Holdings) → o ≡ Some s → IsUntold step s × (1 ≤ s.ring.capacity))
    → RemembersAt start time step names o values → RemembersAt later later step names o values
started_at start time later step names None values r h = h
started_at start time later step names (Some s) values r h = let u = r s refl in untold_starts start time later step names s values u.0 u.1 h

-- a naming that has more texts serves as well
pub renamed_at : (names more : Naming) (start time step : ℕ) (o : Option Holdings) (values : List (ℕ × Field)) → IsHeldBy names more → RemembersAt start time step names o values → RemembersAt start time step more o values
renamed_at names more start time step None values k h = h
renamed_at names more start time step (Some s) values k h = remembers-renamed names more k start time step s values h
