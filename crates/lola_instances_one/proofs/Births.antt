-- An instance that was given no value.
use Rattle.std.proofs.Common.{◌≡◌, ℕ, zero, suc, ◌-◌, ◌≤◌, ◌<◌, List, [], ◌∷◌, ◌++◌, length, map, drop, refl, ap, sym, ◌∙◌, subst, arith, slice_index_or, nat_eq, if◌then◌else◌, true, false, Bool, length-drop}
use Rattle.circular_buffer.specs.Buffer.{keep_last}
use Rattle.lola_value.specs.declared.text.Field.{Field}
use Rattle.lola_value.specs.declared.value.Params.{Params}
use Rattle.lola_value.specs.declared.value.Outcome.TheVariants as outcome
use Rattle.lola_value.specs.Naming.{Naming, read_outcome, IsHeldIn}
use Rattle.lola_model.specs.Accesses.{one_more}
use Rattle.lola_panes.proofs.Adding.{stands-none}
use Rattle.lola_instances_one.specs.declared.window.WindowPanes.{WindowPanes}
use Rattle.lola_instances_one.specs.Holdings.{Holdings, shown}
use Rattle.lola_instances_one.specs.Memories.{shifted, AllSince, AllStandFor, life_values, Remembers, RemembersNothing}
use Rattle.lola_instances_one.specs.Unborn.{IsSound, AllSound, empty_panes, unborn}

-- the last of no items, and a list of whose last items there are none

abbrev no_fields : List Field
no_fields = []

drop_none : (k : ℕ) → drop k no_fields ≡ []
drop_none zero = refl
drop_none (suc k) = refl

none_kept : {X : Type 0} (n : ℕ) (xs : List X) → 1 ≤ n → [] ≡ keep_last n xs → xs ≡ []
none_kept n [] h e = refl
none_kept n (x ∷ xs) h e = absurd (omega (arith, ap length e, length-drop (length (x ∷ xs) - n) (x ∷ xs)))

no_items : (vs : List (ℕ × Field)) → map (λ (v : ℕ × Field). v.1) vs ≡ [] → vs ≡ []
no_items [] e = refl
no_items (v ∷ vs) e = cc

no_front : (xs ys : List (ℕ × Field)) → xs ++ ys ≡ [] → xs ≡ []
no_front [] ys e = refl
no_front (x ∷ xs) ys e = cc

-- panes that were given no value

empty_stand : (ws : List WindowPanes) → AllStandFor (map empty_panes ws) []
empty_stand [] = tt
empty_stand (w ∷ ws) = (stands-none w.aggregation w.kind w.pane w.count w.exact, empty_stand ws)

-- an instance that was just made

silent_or_silent : (b : Bool) → (if b then outcome.Missing else outcome.Missing) ≡ outcome.Missing
silent_or_silent true = refl
silent_or_silent false = refl

unborn_silent : (step n : ℕ) (ws : List WindowPanes) → shown step (unborn n ws) ≡ outcome.Missing
unborn_silent step n ws = silent_or_silent (nat_eq 0 step)

pub unborn-nothing : (n : ℕ) (ws : List WindowPanes) → 1 ≤ n → RemembersNothing (unborn n ws)
unborn-nothing n ws h =
    record {
      none = λ start time step names.
          let q = unborn_silent step n ws in
          let e : life_values time step names (unborn n ws) [] ≡ [] = ap (λ o. one_more time (read_outcome names o)) q in
          record {
            ring = sym (ap (λ vs. keep_last n (map (λ (v : ℕ × Field). v.1) vs)) e ∙ drop_none (0 - n));
            panes = subst (λ vs. AllStandFor (map empty_panes ws) (map (shifted start) vs)) (sym e) (empty_stand ws);
            since = subst (AllSince start) (sym e) tt;
            held = tt;
            now_held = subst (IsHeldIn names) (sym q) tt;
          };
      only = λ start time step names values m.
          no_front values (one_more time (read_outcome names (shown step (unborn n ws))))
          (no_items (life_values time step names (unborn n ws) values) (none_kept n (map (λ (v : ℕ × Field). v.1) (life_values time step names (unborn n ws) values)) h m.ring));
    }

-- parameters and births are nothing that is remembered

pub remembers-params : (start time step : ℕ) (names : Naming) (s : Holdings) (p : Params) (t : ℕ) (values : List (ℕ × Field)) → Remembers start time step names s values → Remembers start time step names (record s { params = p; born = t }) values
remembers-params start time step names s p t values h = record { ring = h.ring; panes = h.panes; since = h.since; held = h.held; now_held = h.now_held }

params-remembered : (start time step : ℕ) (names : Naming) (s : Holdings) (p : Params) (t : ℕ) (values : List (ℕ × Field)) → Remembers start time step names (record s { params = p; born = t }) values → Remembers start time step names s values
params-remembered start time step names s p t values h = record { ring = h.ring; panes = h.panes; since = h.since; held = h.held; now_held = h.now_held }

pub begun-nothing : (s : Holdings) (p : Params) (t : ℕ) → RemembersNothing s → RemembersNothing (record s { params = p; born = t })
begun-nothing s p t h =
    record {
      none = λ start time step names. remembers-params start time step names s p t [] (h.none start time step names);
      only = λ start time step names values m. h.only start time step names values (params-remembered start time step names s p t values m);
    }

-- a window of those that are wanted
pub sound_within : (ws : List WindowPanes) (i : ℕ) (d : WindowPanes) → AllSound ws → i < length ws → IsSound (slice_index_or ws i d)
sound_within [] i d h l = absurd (omega arith)
sound_within (x ∷ ws) zero d h l = h.0
sound_within (x ∷ ws) (suc i) d h l = sound_within ws i d h.1 (omega arith)
