-- Each run has one whole model and one settled model; and where no clause is local, they are those over the lists of steps.
use Rattle.std.proofs.Common.{◌≡◌, refl, ap, ◌∙◌, sym, subst, ℕ, ◌-◌, ◌↔◌, List, [], ◌++◌, Option, false, arith, append-nil}
use Rattle.std.specs.Prelude.{is_some}
use Rattle.lola_model.specs.Table.{Step, TableRow}
use Rattle.lola_model.specs.Accepted.{IsAcyclic}
use Rattle.lola_model.specs.Journal.{accepted}
use Rattle.lola_model.specs.Steps.{rates_of, deadline_steps, steps_from, settled_steps, all_steps}
use Rattle.lola_model.specs.Model.{model, made, in_order, IsModel, HasOneModel}
use Rattle.lola_model.specs.NextStep.{after_last, next_below, most_steps, has_local, HasRates}
use Rattle.lola_model.specs.Runs.{run_start, settled_model, whole_model, IsWholeModel, IsSettledModel, HasModelsOfRuns, AreUpToFault, HasListedSteps}
use Rattle.lola_model.specs.declared.journal.Row.{Row}
use Rattle.lola_model.specs.declared.journal.Entry.{Entry}
use Rattle.lola_model.specs.declared.plan.Plan.{Plan}
use Rattle.lola_model.proofs.Deadlines.{passed_after}
use Rattle.lola_model.proofs.Ends.{steps_end}
use Rattle.lola_model.proofs.Growing.{ended_by_fault}
use Rattle.lola_model.proofs.Layers.{has_one_model}
use Rattle.lola_model.proofs.Listed.{rows_walk, last_walk, none_between, goes_in_order, up_to_fault, steps_of_rows, Walks}

module _ (plan : Plan) (one : HasOneModel plan) (has : HasRates plan.pacings) (start : Option ℕ) (journal : List Entry) where
  abbrev begin : ℕ
  begin = run_start plan start journal

  abbrev rows : List Row
  rows = accepted journal

  -- with any of the two limits one table solves the equations
  one_below : (limit : ℕ) (table : List TableRow)
      → IsModel plan begin (next_below plan begin rows limit) table ↔ (table ≡ made plan begin (next_below plan begin rows limit) (most_steps limit 0 rows) [])
  one_below limit table = one.by_rule begin (next_below plan begin rows limit) (most_steps limit 0 rows) (steps_end plan begin rows has limit) table

  pub one_whole : (table : List TableRow) → IsWholeModel plan start journal table ↔ (table ≡ whole_model plan start journal)
  unfolding whole_model
  one_whole table = one_below (after_last rows) table

  pub one_settled : (table : List TableRow) → IsSettledModel plan start journal table ↔ (table ≡ settled_model plan start journal)
  unfolding settled_model
  one_settled table = one_below 0 table

  pub whole_solves : IsWholeModel plan start journal (whole_model plan start journal)
  whole_solves = (one_whole (whole_model plan start journal)).1 refl

  pub settled_solves : IsSettledModel plan start journal (settled_model plan start journal)
  settled_solves = (one_settled (settled_model plan start journal)).1 refl

  module _ (none : has_local plan.pacings ≡ false) where
    abbrev tail : ℕ → List Step
    tail limit = deadline_steps (rates_of plan.pacings) begin (passed_after begin 0 rows) (limit - begin)

    -- a table that is lawful by the steps that come is so by their list
    listed : (limit : ℕ) (table : List TableRow) → IsModel plan begin (next_below plan begin rows limit) table
        → IsModel plan begin (in_order (steps_from (rates_of plan.pacings) begin 0 rows ++ tail limit)) table
    listed limit table g =
        let passed : 0 - begin - 1 ≡ 0 = omega arith in
        goes_in_order plan begin rows limit none table [] [] (steps_from (rates_of plan.pacings) begin 0 rows ++ tail limit) refl
        (subst (λ p. Walks (rates_of plan.pacings) begin limit 0 rows (steps_from (rates_of plan.pacings) begin p rows ++ deadline_steps (rates_of plan.pacings) begin (passed_after begin p rows) (limit - begin))) passed
        (rows_walk (rates_of plan.pacings) begin limit has.counted_from_start rows 0)) g

    whole_tail : steps_from (rates_of plan.pacings) begin 0 rows ++ tail (after_last rows) ≡ all_steps plan.pacings start rows
    whole_tail = ap (λ ss. steps_from (rates_of plan.pacings) begin 0 rows ++ ss) (last_walk (rates_of plan.pacings) begin 0 rows has.counted_from_start)

    settled_tail : steps_from (rates_of plan.pacings) begin 0 rows ++ tail 0 ≡ settled_steps plan.pacings start rows
    settled_tail =
        ap (λ ss. steps_from (rates_of plan.pacings) begin 0 rows ++ ss) (none_between (rates_of plan.pacings) begin (passed_after begin 0 rows) (0 - begin) (omega arith))
        ∙ append-nil (steps_from (rates_of plan.pacings) begin 0 rows)

    whole_listed : IsModel plan begin (in_order (all_steps plan.pacings start rows)) (whole_model plan start journal)
    whole_listed = subst (λ ss. IsModel plan begin (in_order ss) (whole_model plan start journal)) whole_tail (listed (after_last rows) (whole_model plan start journal) whole_solves)

    settled_listed : IsModel plan begin (in_order (settled_steps plan.pacings start rows)) (settled_model plan start journal)
    settled_listed = subst (λ ss. IsModel plan begin (in_order ss) (settled_model plan start journal)) settled_tail (listed 0 (settled_model plan start journal) settled_solves)

    pub whole_is_listed : whole_model plan start journal ≡ model plan begin (all_steps plan.pacings start rows)
    whole_is_listed = (one.over_steps begin (all_steps plan.pacings start rows) (whole_model plan start journal)).0 whole_listed

    pub settled_is_listed : settled_model plan start journal ≡ model plan begin (settled_steps plan.pacings start rows)
    settled_is_listed = (one.over_steps begin (settled_steps plan.pacings start rows) (settled_model plan start journal)).0 settled_listed

    are_up_to : (table : List TableRow) (steps : List Step) → IsModel plan begin (in_order steps) table → AreUpToFault table (steps_of_rows table) steps
    are_up_to table steps g =
        let w = up_to_fault plan begin table [] [] steps refl g in
        record { later = w.0; split = w.1; all = λ fine. w.2 (sym (ended_by_fault table) ∙ ap is_some fine) }

    pub whole_up_to : AreUpToFault (whole_model plan start journal) (steps_of_rows (whole_model plan start journal)) (all_steps plan.pacings start rows)
    whole_up_to = are_up_to (whole_model plan start journal) (all_steps plan.pacings start rows) whole_listed

    pub settled_up_to : AreUpToFault (settled_model plan start journal) (steps_of_rows (settled_model plan start journal)) (settled_steps plan.pacings start rows)
    settled_up_to = are_up_to (settled_model plan start journal) (settled_steps plan.pacings start rows) settled_listed

-- the law of one model
pub has_models_of_runs : (plan : Plan) → IsAcyclic plan.spec → HasRates plan.pacings → HasModelsOfRuns plan
has_models_of_runs plan a has = record {
  whole = λ start journal table. one_whole plan (has_one_model plan a) has start journal table;
  settled = λ start journal table. one_settled plan (has_one_model plan a) has start journal table;
}

-- the law of the steps that are listed
pub has_listed_steps : (plan : Plan) → IsAcyclic plan.spec → HasRates plan.pacings → has_local plan.pacings ≡ false → HasListedSteps plan
has_listed_steps plan a has none = record {
  whole = λ start journal. whole_is_listed plan (has_one_model plan a) has start journal none;
  settled = λ start journal. settled_is_listed plan (has_one_model plan a) has start journal none;
  all_are = λ start journal. whole_up_to plan (has_one_model plan a) has start journal none;
  settled_are = λ start journal. settled_up_to plan (has_one_model plan a) has start journal none;
}
