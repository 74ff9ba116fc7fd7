-- The state of a journal without an accepted row.
use Rattle.std.proofs.Common.{◌≡◌, ℕ, zero, suc, ◌+◌, ◌-◌, List, [], ◌∷◌, length, drop, map, refl, sym, ap, ◌∙◌, Bool, true, false, Option, Some, None, if◌then◌else◌, slice_get}
use Rattle.std.specs.Prelude.{unwrap_or}
use Rattle.lola_value.specs.declared.text.Field.{Field}
use Rattle.lola_model.specs.Journal.{accepted, known_start, last_accepted}
use Rattle.lola_model.specs.Model.{the_instance}
use Rattle.lola_model.specs.Runs.{life_after, run_start, settled_model, streams_after}
use Rattle.lola_model.specs.Store.{layouts_from}
use Rattle.lola_model.specs.Table.{Instance, TableRow}
use Rattle.lola_model.specs.declared.journal.Entry.{Entry}
use Rattle.lola_model.specs.declared.journal.Row.{Row}
use Rattle.lola_model.specs.declared.pacing.ClausePacings.{ClausePacings}
use Rattle.lola_model.specs.declared.plan.Plan.{Plan}
use Rattle.lola_model.specs.declared.spec.Clause.{Clause}
use Rattle.lola_model.specs.declared.spec.Stream.{Stream}
use Rattle.lola_save_text.specs.Forms.{form_with, forms_of, stream_forms}
use Rattle.lola_save_text.specs.declared.forms.StreamForm.{StreamForm}
use Rattle.lola_save_text.specs.declared.state.SavedInstance.{SavedInstance}
use Rattle.lola_save_text.specs.declared.state.SavedState.{SavedState}
use Rattle.lola_save_text.specs.JournalStates.{last_values, saved_life, saved_streams, state_of}
use Rattle.lola_save_text.specs.FirstStates.{first_instances, first_state, without_values}
use Rattle.lola_save_text.proofs.StatesSaved.{no-steps}

no-ring : (kept : ℕ) → last_values kept [] ≡ []
no-ring kept = none (0 - kept)
  where
    none : (n : ℕ) → map (λ (v : ℕ × Field). v.1) (drop n []) ≡ []
    none zero = refl
    none (suc n) = refl

module _ (start : ℕ) where
  -- by whether there is a spawn clause
  first-lives : (n : ℕ) (form : StreamForm) (o : Option Clause) → form.spawns ≡ elim o as (λ _. Bool) [ None ↦ false | Some k ↦ true ]
      → map (saved_life start form) (map (life_after [] n) (elim o as (λ _. List Instance) [ None ↦ the_instance ∷ [] | Some k ↦ [] ])) ≡ first_instances form
  first-lives n form None e =
      ap (λ (b : Bool). record { born = if b then Some 0 else None; params = []; ring = last_values form.kept []; panes = (without_values form).panes } ∷ []) e
      ∙ (ap (λ (r : List Field). record { born = None; params = []; ring = r; panes = (without_values form).panes } ∷ []) (no-ring form.kept)
      ∙ sym (ap (λ (b : Bool). if b then [] else without_values form ∷ []) e))
  first-lives n form (Some k) e = sym (ap (λ (b : Bool). if b then [] else without_values form ∷ []) e)

  first-streams : (plan : Plan) (n : ℕ) (ss : List Stream) (kept : List ℕ) (pacings : List ClausePacings)
      → saved_streams start (stream_forms plan n (layouts_from ss kept pacings)) (streams_after [] n ss) ≡ map first_instances (stream_forms plan n (layouts_from ss kept pacings))
  first-streams plan n [] kept pacings = refl
  first-streams plan n (s ∷ ss) kept pacings =
      let form : StreamForm = form_with plan n s (unwrap_or (slice_get kept 0) 1) in
      ap (λ (is : List SavedInstance). is ∷ saved_streams start (stream_forms plan (n + 1) (layouts_from ss (drop 1 kept) (drop 1 pacings))) (streams_after [] (n + 1) ss))
      (first-lives n form s.spawn refl)
      ∙ ap (λ (streams : List (List SavedInstance)). first_instances form ∷ streams) (first-streams plan (n + 1) ss (drop 1 kept) (drop 1 pacings))

-- the start is known by itself, where no row was accepted
known-alone : (start : Option ℕ) → known_start start [] ≡ start
known-alone None = refl
known-alone (Some t) = refl

pub first-state : (plan : Plan) (start : Option ℕ) (journal : List Entry) → accepted journal ≡ [] → state_of plan start journal ≡ first_state plan start
first-state plan start journal e =
    let made : Option ℕ → Option ℕ → List TableRow → SavedState = λ known last table. record {
      start = known;
      last = last;
      steps = length table;
      streams = saved_streams (run_start plan start journal) (forms_of plan) (streams_after table 0 plan.spec.streams);
    } in
    ap (λ (rows : List Row). made (known_start start rows) (last_accepted rows) (settled_model plan start journal)) e
    ∙ (ap (λ (known : Option ℕ). made known None (settled_model plan start journal)) (known-alone start)
    ∙ (ap (λ (table : List TableRow). made start None table) (no-steps plan start journal e)
    ∙ ap (λ (streams : List (List SavedInstance)). let s : SavedState = record { start = start; last = None; steps = 0; streams = streams } in s)
    (first-streams (run_start plan start journal) plan 0 plan.spec.streams plan.kept plan.pacings)))

-- no start is known where none was given and no row was accepted
nothing-known : (start : Option ℕ) (rows : List Row) → known_start start rows ≡ None → (start ≡ None) × (rows ≡ [])
nothing-known (Some t) rows e = absurd (cc)
nothing-known None [] e = (refl, refl)
nothing-known None (r ∷ rows) e = absurd (cc)

pub unknown-state : (plan : Plan) (start : Option ℕ) (journal : List Entry) → known_start start (accepted journal) ≡ None → state_of plan start journal ≡ first_state plan None
unknown-state plan start journal e =
    let none = nothing-known start (accepted journal) e in
    first-state plan start journal none.1 ∙ ap (λ (o : Option ℕ). first_state plan o) none.0
