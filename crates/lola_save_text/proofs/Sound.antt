-- What is true of the table of a run's settled steps: by induction over its rows.
use Rattle.std.proofs.Common.{◌≡◌, ℕ, zero, suc, ◌<◌, ◌≤◌, ◌^◌, List, [], ◌∷◌, ◌++◌, length, refl, sym, subst, arith, Bool, true, false, Option, Some, None, append_assoc, append-nil, length-append}
use Rattle.std.specs.List.{list_all}
use Rattle.std.specs.Str.{is_utf8}
use Rattle.lola_model.specs.Acceptance.{IsAccepted}
use Rattle.lola_model.specs.Model.{answered, has_fault, made, Next}
use Rattle.lola_model.specs.NextStep.{next_settled}
use Rattle.lola_model.specs.Table.{Step, TableRow}
use Rattle.lola_model.specs.declared.journal.Row.{Row}
use Rattle.lola_model.specs.declared.plan.Plan.{Plan}
use Rattle.lola_save_text.proofs.KindedRows.{IsTableOf, table-more}
use Rattle.lola_save_text.proofs.AnsweredKinds.{answered-is}
use Rattle.lola_save_text.proofs.Crowds.{IsCrowdTable, crowds-first, crowds-more}
use Rattle.lola_save_text.proofs.StepTimes.{HasRowsLeft, comes-next, answered-step}

-- what holds at first and is kept by each row that is made holds at the end
module _ (plan : Plan) (start : ℕ) (next : Next) (P : List TableRow → Type 0) (bound : ℕ) (kept : (rows : List TableRow) (step : Step) → P rows → length rows < bound → next rows ≡ Some step → P (rows ++ answered plan start rows step ∷ [])) where
  pub made-keeps : (most : ℕ) (rows : List TableRow) → P rows → length (rows ++ made plan start next most rows) ≤ bound → P (rows ++ made plan start next most rows)
  made-keeps zero rows h le = subst P (sym (append-nil rows)) h
  made-keeps (suc most) rows h le = by (next rows) refl le (λ row g m. made-keeps most (rows ++ row ∷ []) g m)
    where
      joined : (row : TableRow) (more : List TableRow) → (rows ++ row ∷ []) ++ more ≡ rows ++ row ∷ more
      joined row more = append_assoc rows (row ∷ []) more

      shorter : (row : TableRow) (more : List TableRow) → length (rows ++ row ∷ more) ≤ bound → length rows < bound
      shorter row more m = let a = length-append rows (row ∷ more) in omega (arith, a, m)

      by-fault : (step : Step) → next rows ≡ Some step → (b : Bool)
          → length (rows ++ elim b as (λ _. List TableRow) [ true ↦ answered plan start rows step ∷ [] | false ↦ answered plan start rows step ∷ made plan start next most (rows ++ answered plan start rows step ∷ []) ]) ≤ bound
          → ((row : TableRow) → P (rows ++ row ∷ []) → length ((rows ++ row ∷ []) ++ made plan start next most (rows ++ row ∷ [])) ≤ bound → P ((rows ++ row ∷ []) ++ made plan start next most (rows ++ row ∷ [])))
          → P (rows ++ elim b as (λ _. List TableRow) [ true ↦ answered plan start rows step ∷ [] | false ↦ answered plan start rows step ∷ made plan start next most (rows ++ answered plan start rows step ∷ []) ])
      by-fault step e true m on = kept rows step h (shorter (answered plan start rows step) [] m) e
      by-fault step e false m on =
          let row : TableRow = answered plan start rows step in
          let more : List TableRow = made plan start next most (rows ++ row ∷ []) in
          subst P (joined row more)
          (on row (kept rows step h (shorter row more m) e) (subst (λ (ts : List TableRow). length ts ≤ bound) (sym (joined row more)) m))

      by : (o : Option Step) → next rows ≡ o
          → length (rows ++ elim o as (λ _. List TableRow) [ None ↦ [] | Some step ↦ elim (has_fault (answered plan start rows step)) as (λ _. List TableRow) [ true ↦ answered plan start rows step ∷ [] | false ↦ answered plan start rows step ∷ made plan start next most (rows ++ answered plan start rows step ∷ []) ] ]) ≤ bound
          → ((row : TableRow) → P (rows ++ row ∷ []) → length ((rows ++ row ∷ []) ++ made plan start next most (rows ++ row ∷ [])) ≤ bound → P ((rows ++ row ∷ []) ++ made plan start next most (rows ++ row ∷ [])))
          → P (rows ++ elim o as (λ _. List TableRow) [ None ↦ [] | Some step ↦ elim (has_fault (answered plan start rows step)) as (λ _. List TableRow) [ true ↦ answered plan start rows step ∷ [] | false ↦ answered plan start rows step ∷ made plan start next most (rows ++ answered plan start rows step ∷ []) ] ])
      by None e m on = subst P (sym (append-nil rows)) h
      by (Some step) e m on = by-fault step e (has_fault (answered plan start rows step)) m on

-- the table of a run: its times, the kinds of its values, and who lives after it
pub record IsSound (plan : Plan) (start high : ℕ) (journal : List Row) (table : List TableRow) : Type 0 where
  pub way : HasRowsLeft plan start high journal table
  pub kinds : IsTableOf plan.spec.streams table
  pub crowds : IsCrowdTable plan.spec.streams table

module _ (plan : Plan) (accepted : IsAccepted plan) (texts : list_all is_utf8 plan.spec.texts ≡ true) (start high : ℕ) (journal : List Row) (bound : ℕ) (small : bound < 2 ^ 63) where
  sound-more : (rows : List TableRow) (step : Step) → IsSound plan start high journal rows → length rows < bound → next_settled plan start journal rows ≡ Some step
      → IsSound plan start high journal (rows ++ answered plan start rows step ∷ [])
  sound-more rows step h lt e =
      let row : TableRow = answered plan start rows step in
      let here = comes-next plan accepted start high journal rows h.way step e in
      record {
        way = here.way row (answered-step plan start rows step);
        kinds = table-more plan.spec.streams rows row h.kinds (answered-is plan accepted texts start rows step bound h.kinds (omega arith) small here.fields);
        crowds = crowds-more plan accepted start rows step h.crowds;
      }

  -- all rows that are made
  pub sound-made : (most : ℕ) → HasRowsLeft plan start high journal [] → length (made plan start (next_settled plan start journal) most []) ≤ bound
      → IsSound plan start high journal (made plan start (next_settled plan start journal) most [])
  sound-made most first le =
      made-keeps plan start (next_settled plan start journal) (IsSound plan start high journal) bound sound-more most []
      (record { way = first; kinds = tt; crowds = crowds-first plan.spec.streams }) le
