-- Instances that were just born.
use Rattle.std.proofs.Common.{◌≡◌, ℕ, zero, suc, ◌≤◌, ◌<◌, List, [], ◌∷◌, ◌++◌, length, refl, sym, subst, arith, Option, Some, None, slice_get, Bool, true, false, IsTrue}
use Rattle.lola_value.specs.declared.value.Kind.{Kind}
use Rattle.lola_value.specs.declared.value.Params.{Params}
use Rattle.lola_value.specs.Kinds.{are_of_kinds, is_well_formed}
use Rattle.lola_value.specs.Naming.{Naming, the_values}
use Rattle.lola_model.specs.Store.{StreamLayout, newborn_seen, no_params}
use Rattle.lola_instances_one.specs.declared.window.WindowPanes.{WindowPanes}
use Rattle.lola_instances_one.specs.Holdings.{Holdings, slot_seen}
use Rattle.lola_instances_one.specs.Memories.{Remembers}
use Rattle.lola_instances_one.specs.Unborn.{AllOnto, unborn}
use Rattle.lola_instances_one.proofs.Births.{unborn-nothing, begun-nothing}
use Rattle.lola_instances_one.proofs.Giving.{given_none, panes_none}
use Rattle.lola_instances_stream.specs.Births.{firsts, newborn}
use Rattle.lola_instances_stream.specs.Crowds.{RemembersAt}
use Rattle.lola_instances_stream.specs.Each.{Each}
use Rattle.lola_instances_stream.specs.Rights.{SlotRight}
use Rattle.lola_instances_stream.proofs.Lists.{got_before}
use Rattle.lola_instances_stream.proofs.Outcomes.{given_more, not_shown}

pub newborn_right : (layout : StreamLayout) (windows : List WindowPanes) (running : Bool) (step offset time : ℕ) (p : Params) → 1 ≤ step → AllOnto layout.kind windows
    → IsTrue (are_of_kinds layout.parameters (the_values p)) → IsTrue (is_well_formed p) → SlotRight layout windows running step offset (newborn layout.kept windows time p)
newborn_right layout windows running step offset time p l o k f =
    record {
      steady = record { outcome = refl; capacity = refl; values = tt; newest = λ v e. cc; kinds = k; formed = f; panes = panes_none windows };
      timely = record {
        stamp_le = omega arith;
        told = λ e. absurd (omega arith);
        given = given_more 0 offset 0 0 layout.kind (newborn layout.kept windows time p).panes (given_none layout.kind windows o) (omega arith) (omega arith);
      };
      untold = λ e. record { stamp_lt = omega arith; values = refl };
    }

pub newborn_shows : (kept step : ℕ) (windows : List WindowPanes) (time : ℕ) (p : Params) → 1 ≤ step → slot_seen step (newborn kept windows time p) ≡ newborn_seen time p
newborn_shows kept step windows time p l = let none = not_shown step (newborn kept windows time p) (omega arith) in λ i. record { params = p; born = time; outcome = none i }

pub newborn_remembers : (kept : ℕ) (windows : List WindowPanes) (born : ℕ) (p : Params) (start time step : ℕ) (names : Naming) → 1 ≤ kept → Remembers start time step names (newborn kept windows born p) []
newborn_remembers kept windows born p start time step names l = (begun-nothing (unborn kept windows) p born (unborn-nothing kept windows l)).none start time step names

-- who lives already is found in its place
pub past_append : (P : Option Holdings → Type 0) (xs : List Holdings) (y : Holdings) (j : ℕ) → (P None → ⊥) → P (slice_get xs j) → P (slice_get (xs ++ y ∷ []) j)
past_append P xs y j f h =
    (elim (slice_get xs j) as (λ o. slice_get xs j ≡ o → P o → P (slice_get (xs ++ y ∷ []) j)) [
      | None ↦ λ e p. absurd (f p)
      | Some x ↦ λ e p. subst P (sym (got_before xs y j x e)) p
    ]) refl h

-- the first instances of a stream

pub firsts_right : (layout : StreamLayout) (windows : List WindowPanes) (spawns : Bool) → AllOnto layout.kind windows → (spawns ≡ false → layout.parameters ≡ [])
    → Each (SlotRight layout windows false 1 0) (firsts spawns layout.kept windows)
firsts_right layout windows true o f i x e = absurd (cc)
firsts_right layout windows false o f zero x e =
    let q : newborn layout.kept windows 0 no_params ≡ x = cc in
    subst (SlotRight layout windows false 1 0) q
    (newborn_right layout windows false 1 0 0 no_params (omega arith) o (subst (λ (ks : List Kind). IsTrue (are_of_kinds ks (the_values no_params))) (sym (f refl)) refl) refl)
firsts_right layout windows false o f (suc i) x e = absurd (cc)

pub firsts_count : (spawns : Bool) (kept : ℕ) (windows : List WindowPanes) → length (firsts spawns kept windows) ≤ 1
firsts_count true kept windows = omega arith
firsts_count false kept windows = omega arith

pub firsts_none : (spawns : Bool) (kept : ℕ) (windows : List WindowPanes) → spawns ≡ true → length (firsts spawns kept windows) ≡ 0
firsts_none true kept windows e = refl
firsts_none false kept windows e = cc

pub firsts_remember : (spawns : Bool) (kept : ℕ) (windows : List WindowPanes) (start time step : ℕ) (names : Naming) (i : ℕ) → 1 ≤ kept → i < length (firsts spawns kept windows)
    → RemembersAt start time step names (slice_get (firsts spawns kept windows) i) []
firsts_remember true kept windows start time step names i k l = absurd (omega arith)
firsts_remember false kept windows start time step names zero k l = newborn_remembers kept windows 0 no_params start time step names k
firsts_remember false kept windows start time step names (suc i) k l = absurd (omega arith)
