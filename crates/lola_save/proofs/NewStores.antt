-- What is taken of a new store is what the state of no accepted row has.
use Rattle.std.proofs.Common.{◌≡◌, ℕ, suc, ◌+◌, ◌<◌, List, [], ◌∷◌, length, map, drop, refl, ap, sym, ◌∙◌, arith, true, false, Option, Some, None, slice_get, if◌then◌else◌}
use Rattle.std.specs.Option.{unwrap_or}
use Rattle.lola_value.specs.Naming.{Naming}
use Rattle.lola_model.specs.Model.{the_instance}
use Rattle.lola_model.specs.Runs.{life_after, streams_after}
use Rattle.lola_model.specs.Store.{Memories, Seen, instances_of, instances_seen, layout_of, layouts_from, new_seen, newborn_seen, no_params, opened}
use Rattle.lola_model.specs.declared.pacing.ClausePacings.{ClausePacings}
use Rattle.lola_model.specs.declared.plan.Plan.{Plan}
use Rattle.lola_model.specs.declared.spec.Clause.{Clause}
use Rattle.lola_model.specs.declared.spec.Stream.{Stream}
use Rattle.lola_save_text.specs.Forms.{forms_of, form_with, stream_forms}
use Rattle.lola_save_text.specs.declared.forms.StreamForm.{StreamForm}
use Rattle.lola_save_text.specs.declared.state.SavedInstance.{SavedInstance}
use Rattle.lola_save_text.specs.JournalStates.{saved_life, saved_streams}
use Rattle.lola_save.specs.Taken.{AreStreamsTaken, AreTaken}

module _ (plan : Plan) (remembers : Memories) (names : Naming) (fresh : (n i : ℕ) → i < length (instances_seen (new_seen (layout_of plan)) n) → remembers names n i []) where
  abbrev s : Seen
  s = new_seen (layout_of plan)

  -- the instances of a stream, with a spawn clause or without one
  first-taken : (form : StreamForm) (n : ℕ) (o : Option Clause) (ys : List SavedInstance)
      → (if (elim o [ None ↦ false | Some k ↦ true ]) then [] else newborn_seen 0 no_params ∷ []) ≡ instances_seen s n
      → AreTaken s remembers names form n 0 (if (elim o [ None ↦ false | Some k ↦ true ]) then [] else newborn_seen 0 no_params ∷ []) ys
      → ys ≡ map (saved_life 0 form) (map (life_after [] n) (elim o [ None ↦ the_instance ∷ [] | Some k ↦ [] ]))
  first-taken form n None [] e t = absurd t
  first-taken form n None (y ∷ []) e t =
      let one : 1 ≡ length (instances_seen s n) = ap length e in
      let first : y ≡ saved_life 0 form (life_after [] n the_instance) = t.0 [] (fresh n 0 (omega arith)) in
      ap (λ (x : SavedInstance). x ∷ []) first
  first-taken form n None (y ∷ z ∷ ys) e t = absurd t.1
  first-taken form n (Some k) [] e t = refl
  first-taken form n (Some k) (y ∷ ys) e t = absurd t

  streams-new : (n : ℕ) (ss : List Stream) (kept : List ℕ) (pacings : List ClausePacings) (yss : List (List SavedInstance))
      → ((j : ℕ) → slice_get s.streams (n + j) ≡ slice_get (map opened (layouts_from ss kept pacings)) j)
      → AreStreamsTaken s remembers names n (stream_forms plan n (layouts_from ss kept pacings)) (map opened (layouts_from ss kept pacings)) yss
      → yss ≡ saved_streams 0 (stream_forms plan n (layouts_from ss kept pacings)) (streams_after [] n ss)
  streams-new n [] kept pacings [] at t = refl
  streams-new n [] kept pacings (ys ∷ yss) at t = absurd t
  streams-new n (x ∷ ss) kept pacings [] at t = absurd t
  streams-new n (x ∷ ss) kept pacings (ys ∷ yss) at t =
      let e : n ≡ n + 0 = omega arith in
      let here : slice_get s.streams n ≡ slice_get (map opened (layouts_from (x ∷ ss) kept pacings)) 0 = ap (slice_get s.streams) e ∙ at 0 in
      let first = first-taken (form_with plan n x (unwrap_or (slice_get kept 0) 1)) n x.spawn ys (sym (ap instances_of here)) t.0 in
      let others = streams-new (n + 1) ss (drop 1 kept) (drop 1 pacings) yss (λ j. (let z : n + 1 + j ≡ n + suc j = omega arith in ap (slice_get s.streams) z) ∙ at (suc j)) t.1 in
      λ j. first j ∷ others j

  pub taken-new : (yss : List (List SavedInstance)) → AreStreamsTaken s remembers names 0 (forms_of plan) s.streams yss → yss ≡ saved_streams 0 (forms_of plan) (streams_after [] 0 plan.spec.streams)
  taken-new yss t = streams-new 0 plan.spec.streams plan.kept plan.pacings yss (λ j. let z : 0 + j ≡ j = omega arith in ap (slice_get s.streams) z) t
