-- Each verdict line of streams whose names are words ends with its one LF.
use Rattle.std.proofs.Common.{◌≡◌, refl, subst, ℕ, zero, suc, List, [], ◌∷◌, Bool, true, false, not, Some, IsTrue, slice_get, nat_eq, eqb-true}
use Rattle.std.specs.List.{list_all, All}
use Rattle.std.proofs.lemmas.Bool.{and_from, and_parts, cond_both}
use Rattle.std.proofs.lemmas.List.Elements.{All-nil, All-cons, All-append}
use Rattle.lola_lexer.specs.Spelling.{in_name}
use Rattle.lola_value.specs.declared.text.Field.{Field}
use Rattle.lola_value.specs.declared.text.Field.TheVariants as field
use Rattle.lola_value.specs.Answer.{Answer, Given}
use Rattle.lola_model.specs.Table.{Living, StreamRow, TableRow}
use Rattle.lola_model.specs.Model.{has_fault}
use Rattle.lola_model.specs.Texts.{trigger_line, output_line, trigger_lines, output_lines, answer_lines, living_lines, stream_lines, row_lines, table_lines}
use Rattle.lola_model.specs.declared.journal.Show.{Show}
use Rattle.lola_model.specs.declared.journal.Show.TheVariants.{Triggers, Outputs}
use Rattle.lola_model.specs.declared.spec.Sort.{Sort}
use Rattle.lola_model.specs.declared.spec.Sort.TheVariants as sort
use Rattle.lola_model.specs.declared.spec.Stream.{Stream}
use Rattle.lola_report.specs.Lines.{IsLine, is_not_lf, has_no_lf, has_plain_name}
use Rattle.lola_report.proofs.LineForms.{verdict_line}
use Rattle.lola_front_law.specs.OneLine.{IsWordStream}
use Rattle.lola_front_law.proofs.NameTokens.{Word}
use Rattle.lola_front_law.proofs.DeclaredWords.{Each}

-- a byte of a name is no line feed
not_lf : (b : ℕ) (e : Bool) → nat_eq b 10 ≡ e → in_name b ≡ true → not e ≡ true
not_lf b false is h = refl
not_lf b true is h = let never : in_name 10 ≡ true = subst (λ (n : ℕ). in_name n ≡ true) (eqb-true b 10 is) h in absurd cc

pub word_plain : (t : List ℕ) → Word t → IsTrue (has_no_lf t)
word_plain [] h = refl
word_plain (b ∷ t) h =
    let parts = and_parts (in_name b) (list_all in_name t) h in
    and_from (is_not_lf b) (has_no_lf t) (not_lf b (nat_eq b 10) refl parts.0) (word_plain t parts.1)

module _ (time : ℕ) (s : Stream) (w : IsWordStream s) where
  trigger_is : IsLine (trigger_line time s)
  trigger_is = verdict_line (Some (record s { sort = sort.Trigger })) time [] (field.Bool true) refl (word_plain s.name w)

  output_is : (p : List Field) (v : Field) → IsLine (output_line time s p v)
  output_is p v = verdict_line (Some (record s { sort = sort.Output })) time p v tt (word_plain s.name w)

  trigger_all : (v : Field) → All IsLine (trigger_lines time s v)
  trigger_all field.Absent = All-nil IsLine
  trigger_all (field.Bool true) = All-cons IsLine (trigger_line time s) [] trigger_is (All-nil IsLine)
  trigger_all (field.Bool false) = All-nil IsLine
  trigger_all (field.Int z) = All-nil IsLine
  trigger_all (field.Text t) = All-nil IsLine

  output_all : (show : Show) (p : List Field) (v : Field) → All IsLine (output_lines show time s p v)
  output_all Triggers p v = All-nil IsLine
  output_all Outputs p v = All-cons IsLine (output_line time s p v) [] (output_is p v) (All-nil IsLine)

  sort_all : (k : Sort) (show : Show) (p : List Field) (v : Field)
      → All IsLine (elim k [ sort.Input ↦ [] | sort.Output ↦ output_lines show time s p v | sort.Trigger ↦ trigger_lines time s v ])
  sort_all sort.Input show p v = All-nil IsLine
  sort_all sort.Output show p v = output_all show p v
  sort_all sort.Trigger show p v = trigger_all v

  answer_all : (show : Show) (p : List Field) (a : Answer) → All IsLine (answer_lines show time s p a)
  answer_all show p (Given v) = sort_all s.sort show p v
  answer_all show p _ = All-nil IsLine

  living_all : (show : Show) (ls : List Living) → All IsLine (living_lines show time s ls)
  living_all show [] = All-nil IsLine
  living_all show (l ∷ ls) =
      All-append IsLine (answer_lines show time s l.instance.params l.outcome) (living_lines show time s ls) (answer_all show l.instance.params l.outcome) (living_all show ls)

streams_all : (show : Show) (time : ℕ) (ss : List Stream) (rs : List StreamRow) → Each IsWordStream ss → All IsLine (stream_lines show time ss rs)
streams_all show time [] rs h = All-nil IsLine
streams_all show time (s ∷ ss) [] h = All-nil IsLine
streams_all show time (s ∷ ss) (r ∷ rs) h =
    All-append IsLine (living_lines show time s r.living) (stream_lines show time ss rs) (living_all time s h.0 show r.living) (streams_all show time ss rs h.1)

row_all : (show : Show) (ss : List Stream) (row : TableRow) → Each IsWordStream ss → All IsLine (row_lines show ss row)
row_all show ss row h =
    cond_both (has_fault row) [] (stream_lines show row.step.time ss row.streams) (All IsLine) (λ _. All-nil IsLine) (λ _. streams_all show row.step.time ss row.streams h)

pub table_all : (show : Show) (ss : List Stream) (rows : List TableRow) → Each IsWordStream ss → All IsLine (table_lines show ss rows)
table_all show ss [] h = All-nil IsLine
table_all show ss (row ∷ rows) h = All-append IsLine (row_lines show ss row) (table_lines show ss rows) (row_all show ss row h) (table_all show ss rows h)

-- the name of each stream, where there is one
pub plain_name : (ss : List Stream) (i : ℕ) → Each IsWordStream ss → IsTrue (has_plain_name (slice_get ss i))
plain_name [] i h = refl
plain_name (s ∷ ss) zero h = word_plain s.name h.0
plain_name (s ∷ ss) (suc i) h = plain_name ss i h.1
