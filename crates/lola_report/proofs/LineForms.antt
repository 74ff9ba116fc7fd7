-- The lines of entries, of verdicts and of ends.
use Rattle.std.proofs.Common.{◌≡◌, ℕ, List, [], ◌∷◌, ◌++◌, Option, Some, None, codes, refl, ap}
use Rattle.std.specs.Prelude.{IsTrue}
use Rattle.std.specs.List.{list_all}
use Rattle.std.specs.Fmt.{decimal}
use Rattle.std.proofs.lemmas.List.Folds.{list_all-append}
use Rattle.csv.specs.Writing.{default_writer, is_blank, row_body}
use Rattle.lola_value.specs.declared.text.Field.{Field}
use Rattle.lola_value.specs.declared.front.Code.{Code}
use Rattle.lola_value.specs.declared.front.Code.TheVariants as code
use Rattle.lola_value.specs.declared.value.FaultKind.{FaultKind}
use Rattle.lola_value.specs.declared.value.FaultKind.TheVariants as fault
use Rattle.lola_value.specs.Times.{time_text}
use Rattle.lola_model.specs.declared.source.MalformedKind.{MalformedKind}
use Rattle.lola_model.specs.declared.source.MalformedKind.TheVariants as malformed
use Rattle.lola_model.specs.declared.journal.Entry.{Entry}
use Rattle.lola_model.specs.declared.spec.Sort.{Sort}
use Rattle.lola_model.specs.declared.spec.Sort.TheVariants as sort
use Rattle.lola_model.specs.declared.spec.Stream.{Stream}
use Rattle.lola_model.specs.Texts.{quoted, value_text, params_text, trigger_line, output_line, trigger_lines, output_lines}
use Rattle.lola_model.specs.declared.journal.Show.TheVariants.{Outputs}
use Rattle.lola_model.specs.Trace.{entry_fields, trace_line}
use Rattle.lola_report.specs.Names.{code_number, code_name, malformed_number, malformed_name, fault_number, fault_name}
use Rattle.lola_report.specs.Verdicts.{IsShown, HasVerdict, line_of_sort, verdict_text, shown_lines}
use Rattle.lola_report.specs.Ends.{end_text}
use Rattle.lola_report.specs.Lines.{IsLine, is_plain, has_plain_name, is_plain_end}
use Rattle.lola_report.specs.declared.end.EndLine.{EndLine}
use Rattle.lola_report.specs.declared.end.EndLine.TheVariants as end
use Rattle.lola_report.proofs.Plain.{Plain, both, decimal_plain, time_plain, quoted_plain, value_plain, params_plain, row_plain, entry_plain, ended, before, byte_before}

pub entry_line : (e : Entry) → IsTrue (list_all is_plain e.row.fields) → IsLine (trace_line e)
unfolding is_blank
entry_line e p = ended (row_body default_writer (entry_fields e)) (row_plain (entry_fields e) (entry_plain e p))

trigger_is_line : (time : ℕ) (s : Stream) → Plain s.name → IsLine (trigger_line time s)
trigger_is_line time s p =
    before (time_text time) _ (time_plain time)
    (byte_before 32 _ refl (before s.name _ p (byte_before 32 _ refl (ended (quoted s.message) (quoted_plain s.message)))))

output_is_line : (time : ℕ) (s : Stream) (ps : List Field) (v : Field) → Plain s.name → IsLine (output_line time s ps v)
output_is_line time s ps v p =
    before (time_text time) _ (time_plain time)
    (byte_before 32 _ refl
    (before s.name _ p
    (before (params_text ps) _ (params_plain ps)
    (before (codes " = ") _ refl (ended (value_text v) (value_plain v))))))

line_by_sort : (k : Sort) (time : ℕ) (s : Stream) (ps : List Field) (v : Field) → IsShown k v → Plain s.name → IsLine (line_of_sort k time s ps v)
line_by_sort sort.Input time s ps v h p = absurd h
line_by_sort sort.Output time s ps v h p = output_is_line time s ps v p
line_by_sort sort.Trigger time s ps v h p = trigger_is_line time s p

pub verdict_line : (o : Option Stream) (time : ℕ) (ps : List Field) (v : Field) → HasVerdict o v → IsTrue (has_plain_name o) → IsLine (verdict_text o time ps v)
verdict_line None time ps v h p = absurd h
verdict_line (Some s) time ps v h p = line_by_sort s.sort time s ps v h p

-- what is shown of a value, by the sort of its stream
alone_by_sort : (k : Sort) (time : ℕ) (s : Stream) (ps : List Field) (v : Field) → IsShown k v
    → (elim k [ sort.Input ↦ [] | sort.Output ↦ output_lines Outputs time s ps v | sort.Trigger ↦ trigger_lines time s v ]) ≡ line_of_sort k time s ps v ∷ []
alone_by_sort sort.Input time s ps v h = absurd h
alone_by_sort sort.Output time s ps v h = refl
alone_by_sort sort.Trigger time s ps v h = ap (trigger_lines time s) h

pub verdict_alone : (o : Option Stream) (time : ℕ) (ps : List Field) (v : Field) → HasVerdict o v → shown_lines o time ps v ≡ verdict_text o time ps v ∷ []
verdict_alone None time ps v h = absurd h
verdict_alone (Some s) time ps v h = alone_by_sort s.sort time s ps v h

code_plain : (k : Code) → Plain (code_name k)
code_plain code.TooLong = refl
code_plain _ = refl

malformed_plain : (k : MalformedKind) → Plain (malformed_name k)
malformed_plain malformed.BadHeading = refl
malformed_plain _ = refl

fault_plain : (k : FaultKind) → Plain (fault_name k)
fault_plain fault.Overflow = refl
fault_plain _ = refl

pub end_line : (line : EndLine) → IsTrue (is_plain_end line) → IsLine (end_text line)
end_line (end.Done accepted late steps lines) p =
    ended (codes "= done accepted " ++ decimal accepted ++ codes " late " ++ decimal late ++ codes " steps " ++ decimal steps ++ codes " lines " ++ decimal lines)
    (simp (list_all-append, decimal_plain))
end_line end.Usage p = ended (codes "= usage") refl
end_line (end.Refused r) p =
    ended (codes "= refused E" ++ decimal (code_number r.code) ++ codes " " ++ code_name r.code ++ codes " at " ++ decimal r.at)
    (simp (list_all-append, decimal_plain, code_plain))
end_line (end.Malformed source row kind) p =
    ended (codes "= malformed source " ++ decimal source ++ codes " row " ++ decimal row ++ codes " kind " ++ decimal (malformed_number kind) ++ codes " " ++ malformed_name kind)
    (simp (list_all-append, decimal_plain, malformed_plain))
end_line (end.Fault name kind time) p =
    let front = codes "= fault " ++ name ++ codes " " ++ decimal (fault_number kind) ++ codes " " ++ fault_name kind ++ codes " at " in
    let plain : Plain front = simp (list_all-append, decimal_plain, fault_plain, p) in
    ended (front ++ time_text time) (both front (time_text time) plain (time_plain time))
end_line end.UnreadableSpecification p = ended (codes "= unreadable specification") refl
end_line (end.UnreadableSource source) p = ended (codes "= unreadable source " ++ decimal source) (decimal_plain source)
end_line (end.Analysed streams windows) p =
    ended (codes "= done streams " ++ decimal streams ++ codes " windows " ++ decimal windows) (simp (list_all-append, decimal_plain))
