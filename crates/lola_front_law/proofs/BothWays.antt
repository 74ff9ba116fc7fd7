-- What is the same of a plan and its plain form is the same of two plans that are alike.
use Rattle.std.proofs.Common.{◌≡◌, sym, ap, ap₂, subst, ◌∙◌, ◌↔◌, List, [], map}
use Rattle.std.specs.List.{AllZip}
use Rattle.lola_value.specs.declared.value.Kind.{Kind}
use Rattle.lola_model.specs.Denotation.{den}
use Rattle.lola_model.specs.Model.{answered, IsModel, IsRow, model, Next}
use Rattle.lola_model.specs.NextStep.{due, next_settled, next_step}
use Rattle.lola_model.specs.Runs.{content_after, final_lines, first_fault, IsSettledModel, IsWholeModel, settled_fault, settled_lines, settled_model, whole_model}
use Rattle.lola_model.specs.Store.{layout_of}
use Rattle.lola_model.specs.Table.{TableRow}
use Rattle.lola_model.specs.Texts.{table_lines}
use Rattle.lola_model.specs.Trace.{input_kinds, IsFieldOf, IsTraceable}
use Rattle.lola_model.specs.declared.expr.Expr.{Expr}
use Rattle.lola_model.specs.declared.journal.Entry.{Entry}
use Rattle.lola_model.specs.declared.plan.Plan.{Plan}
use Rattle.lola_model.specs.declared.spec.Spec.{Spec}
use Rattle.lola_front_law.specs.Alike.{ArePlansAlike, AreSpecsAlike, plain_plan}
use Rattle.lola_front_law.specs.Meaning.{HaveSameEntries, HaveSameModels, HaveSameOutcomes, HaveSameStores, HaveSameVerdicts, without_clauses}
use Rattle.lola_front_law.proofs.PlainExpressions.{same_den}
use Rattle.lola_front_law.proofs.PlainLines.{same_fault, same_final_lines, same_heads, same_kinds, same_lines, same_settled_fault, same_settled_lines}
use Rattle.lola_front_law.proofs.PlainRows.{same_answered, same_row}
use Rattle.lola_front_law.proofs.PlainStores.{same_content, same_layout}
use Rattle.lola_front_law.proofs.PlainRuns.{same_due, same_goes, same_model, same_settled, same_settled_models, same_settled_step, same_step, same_whole, same_whole_models}

-- each of two equal facts follows from the other
either_way : (A B : Type 0) → A ≡ B → A ↔ B
either_way A B e = (λ a. subst (λ (X : Type 0). X) e a, λ b. subst (λ (X : Type 0). X) (sym e) b)

-- ---- expressions

pub same_outcomes : (s t : Spec) → AreSpecsAlike s t → HaveSameOutcomes s t
same_outcomes s t specs c params a b exprs =
    sym (same_den s c params a) ∙ (ap₂ (λ (spec : Spec) (e : Expr). den spec c params e) specs exprs ∙ same_den t c params b)

-- ---- plans

traceable : (p q : Plan) (e : Entry) → input_kinds p.spec.streams ≡ input_kinds q.spec.streams → IsTraceable p e → IsTraceable q e
traceable p q e kinds t = record {
  fields = subst (λ (ks : List Kind). AllZip IsFieldOf ks e.row.fields) kinds t.fields;
  source = t.source;
  number = t.number;
  stamp = t.stamp;
  mark = t.mark;
}

module _ (p q : Plan) (alike : ArePlansAlike p q) where
  -- what is the same of each plan and its plain form
  both {ℓ} : {A : Type ℓ} (f : Plan → A) → ((plan : Plan) → f (plain_plan plan) ≡ f plan) → f p ≡ f q
  both f same = sym (same p) ∙ (ap f alike ∙ same q)

  pub same_entries : HaveSameEntries p q
  same_entries =
      let kinds : input_kinds p.spec.streams ≡ input_kinds q.spec.streams = both (λ (plan : Plan). input_kinds plan.spec.streams) (λ plan. same_kinds plan.spec.streams) in
      record {
        streams = both (λ (plan : Plan). map without_clauses plan.spec.streams) (λ plan. same_heads plan.spec.streams);
        entries = λ e. (traceable p q e kinds, traceable q p e (sym kinds));
      }

  pub same_stores : HaveSameStores p q
  same_stores = record {
    layouts = both layout_of same_layout;
    contents = λ start table. both (λ (plan : Plan). content_after plan start table) (λ plan. same_content plan start table);
  }

  pub same_models : HaveSameModels p q
  same_models = record {
    rows = λ start table step. both (λ (plan : Plan). answered plan start table step) (λ plan. same_answered plan start table step);
    are_rows = λ start table step row. either_way _ _ (both (λ (plan : Plan). IsRow plan start table step row) (λ plan. ap (λ (r : TableRow). row ≡ r) (same_row plan start table step row)));
    by_rule = λ start next table. either_way _ _ (both (λ (plan : Plan). IsModel plan start next table) (λ plan. same_goes plan start next [] table));
    over_steps = λ start steps. both (λ (plan : Plan). model plan start steps) (λ plan. same_model plan start steps);
    dues = λ start table. both (λ (plan : Plan). due plan table start) (λ plan. same_due plan table start);
    steps = λ start rows table. both (λ (plan : Plan). next_step plan start rows table) (λ plan. ap (λ (next : Next). next table) (same_step plan start rows));
    settled_steps = λ start rows table. both (λ (plan : Plan). next_settled plan start rows table) (λ plan. ap (λ (next : Next). next table) (same_settled_step plan start rows));
    are_models = λ start journal table. either_way _ _ (both (λ (plan : Plan). IsWholeModel plan start journal table) (λ plan. same_whole_models plan start journal table));
    are_settled_models = λ start journal table. either_way _ _ (both (λ (plan : Plan). IsSettledModel plan start journal table) (λ plan. same_settled_models plan start journal table));
    models = λ start journal. both (λ (plan : Plan). whole_model plan start journal) (λ plan. same_whole plan start journal);
    settled_models = λ start journal. both (λ (plan : Plan). settled_model plan start journal) (λ plan. same_settled plan start journal);
  }

  pub same_verdicts : HaveSameVerdicts p q
  same_verdicts = record {
    of_table = λ show table. both (λ (plan : Plan). table_lines show plan.spec.streams table) (λ plan. same_lines show plan.spec.streams table);
    lines = λ start journal show. both (λ (plan : Plan). final_lines plan start journal show) (λ plan. same_final_lines plan start journal show);
    lines_so_far = λ start journal show. both (λ (plan : Plan). settled_lines plan start journal show) (λ plan. same_settled_lines plan start journal show);
    fault = λ start journal. both (λ (plan : Plan). first_fault plan start journal) (λ plan. same_fault plan start journal);
    fault_so_far = λ start journal. both (λ (plan : Plan). settled_fault plan start journal) (λ plan. same_settled_fault plan start journal);
  }
