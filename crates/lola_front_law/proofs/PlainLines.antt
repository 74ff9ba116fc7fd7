-- What is told of a table, and which entries a journal may have, whatever the addresses of boxes.
use Rattle.std.proofs.Common.{◌≡◌, refl, ap, ap₂, ◌∙◌, ℕ, List, [], ◌∷◌, ◌++◌, Option, true, false, map, if◌then◌else◌, unwrap_or}
use Rattle.lola_value.specs.Answer.{Answer, Given, Missing, Faulted, Poisoned}
use Rattle.lola_value.specs.declared.text.Field.{Field}
use Rattle.lola_value.specs.declared.text.Field.TheVariants as field
use Rattle.lola_value.specs.declared.value.Kind.{Kind}
use Rattle.lola_model.specs.Faults.{fault_of_last}
use Rattle.lola_model.specs.Model.{has_fault, is_input, last_row, filled_kind}
use Rattle.lola_model.specs.Runs.{final_lines, first_fault, settled_fault, settled_lines, settled_model, whole_model}
use Rattle.lola_model.specs.Table.{Living, StreamRow, TableRow}
use Rattle.lola_model.specs.Texts.{answer_lines, living_lines, output_lines, stream_lines, table_lines, trigger_lines, value_lines}
use Rattle.lola_model.specs.Trace.{input_kinds}
use Rattle.lola_model.specs.declared.journal.Entry.{Entry}
use Rattle.lola_model.specs.declared.journal.Show.{Show}
use Rattle.lola_model.specs.declared.journal.Show.TheVariants.{Triggers, Outputs}
use Rattle.lola_model.specs.declared.plan.Plan.{Plan}
use Rattle.lola_model.specs.declared.spec.Sort.TheVariants as sort
use Rattle.lola_model.specs.declared.spec.Stream.{Stream}
use Rattle.lola_front_law.specs.Alike.{plain_plan, plain_stream}
use Rattle.lola_front_law.specs.Meaning.{without_clauses}
use Rattle.lola_front_law.proofs.PlainRuns.{same_settled, same_whole}

-- ---- streams without their clauses

pub same_heads : (ss : List Stream) → map without_clauses (map plain_stream ss) ≡ map without_clauses ss
same_heads [] = refl
same_heads (s ∷ ss) = ap (λ (hs : List Stream). without_clauses s ∷ hs) (same_heads ss)

pub same_kinds : (ss : List Stream) → input_kinds (map plain_stream ss) ≡ input_kinds ss
same_kinds [] = refl
same_kinds (s ∷ ss) = ap (λ (ks : List Kind). if is_input s then filled_kind s ∷ ks else ks) (same_kinds ss)

-- ---- lines

same_trigger : (time : ℕ) (s : Stream) (v : Field) → trigger_lines time (plain_stream s) v ≡ trigger_lines time s v
same_trigger time s (field.Bool true) = refl
same_trigger time s (field.Bool false) = refl
same_trigger time s field.Absent = refl
same_trigger time s (field.Int z) = refl
same_trigger time s (field.Text t) = refl

same_output : (show : Show) (time : ℕ) (s : Stream) (p : List Field) (v : Field) → output_lines show time (plain_stream s) p v ≡ output_lines show time s p v
same_output Triggers time s p v = refl
same_output Outputs time s p v = refl

module _ (show : Show) (time : ℕ) where
  same_value : (s : Stream) (p : List Field) (v : Field) → value_lines show time (plain_stream s) p v ≡ value_lines show time s p v
  same_value s p v =
      ap₂ (λ (ls ks : List (List ℕ)). elim s.sort as (λ x. List (List ℕ)) [ sort.Input ↦ [] | sort.Output ↦ ls | sort.Trigger ↦ ks ])
      (same_output show time s p v) (same_trigger time s v)

  same_answer : (s : Stream) (p : List Field) (a : Answer) → answer_lines show time (plain_stream s) p a ≡ answer_lines show time s p a
  same_answer s p (Given v) = same_value s p v
  same_answer s p Missing = refl
  same_answer s p (Faulted k) = refl
  same_answer s p Poisoned = refl

  same_living : (s : Stream) (ls : List Living) → living_lines show time (plain_stream s) ls ≡ living_lines show time s ls
  same_living s [] = refl
  same_living s (l ∷ ls) = ap₂ (λ (xs ys : List (List ℕ)). xs ++ ys) (same_answer s l.instance.params l.outcome) (same_living s ls)

  same_stream_lines : (ss : List Stream) (rs : List StreamRow) → stream_lines show time (map plain_stream ss) rs ≡ stream_lines show time ss rs
  same_stream_lines [] rs = refl
  same_stream_lines (s ∷ ss) [] = refl
  same_stream_lines (s ∷ ss) (r ∷ rs) = ap₂ (λ (xs ys : List (List ℕ)). xs ++ ys) (same_living s r.living) (same_stream_lines ss rs)

module _ (show : Show) where
  pub same_lines : (ss : List Stream) (table : List TableRow) → table_lines show (map plain_stream ss) table ≡ table_lines show ss table
  same_lines ss [] = refl
  same_lines ss (row ∷ rows) =
      ap₂ (λ (ls ks : List (List ℕ)). (if has_fault row then [] else ls) ++ ks) (same_stream_lines show row.step.time ss row.streams) (same_lines ss rows)

-- ---- of a journal

module _ (plan : Plan) (start : Option ℕ) (journal : List Entry) where
  pub same_final_lines : (show : Show) → final_lines (plain_plan plan) start journal show ≡ final_lines plan start journal show
  unfolding final_lines
  same_final_lines show =
      same_lines show plan.spec.streams (whole_model (plain_plan plan) start journal) ∙ ap (table_lines show plan.spec.streams) (same_whole plan start journal)

  pub same_settled_lines : (show : Show) → settled_lines (plain_plan plan) start journal show ≡ settled_lines plan start journal show
  unfolding settled_lines
  same_settled_lines show =
      same_lines show plan.spec.streams (settled_model (plain_plan plan) start journal) ∙ ap (table_lines show plan.spec.streams) (same_settled plan start journal)

  pub same_fault : first_fault (plain_plan plan) start journal ≡ first_fault plan start journal
  unfolding first_fault
  same_fault = ap (λ (table : List TableRow). fault_of_last (last_row table)) (same_whole plan start journal)

  pub same_settled_fault : settled_fault (plain_plan plan) start journal ≡ settled_fault plan start journal
  unfolding settled_fault
  same_settled_fault = ap (λ (table : List TableRow). fault_of_last (last_row table)) (same_settled plan start journal)
