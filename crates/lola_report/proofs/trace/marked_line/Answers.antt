-- What stands where there is no memory for the mark, the fields or the line feed.
use Rattle.std.proofs.Common.{◌≡◌, ◌++◌, [], ◌∷◌, List, ap, subst, ◌∙◌}
use Rattle.lola_value.specs.declared.text.Field.{Field}
use Rattle.lola_value.specs.Appending.{AppendsPart}
use Rattle.lola_value.proofs.AppendingLemmas.{in_first, in_second, none_appended}
use Rattle.lola_model.specs.Trace.{mark_text}
use Rattle.lola_report.specs.Rows.{joined_fields}
use Rattle.lola_report.proofs.Sequences.{on_err, on_err_by}
use Rattle.lola_report.proofs.trace.marked_line.Goals as goal

pub returns-in_err-mark_text-clause-memory : goal.returns-in_err-mark_text-clause-memory
returns-in_err-mark_text-clause-memory c =
    on_err _ (in_first c.args.to.now c.mark_text.new.to (mark_text c.args.entry.now.mark) (joined_fields c.args.entry.now.row.fields ++ 10 ∷ []) c.in_err-mark_text.ensures.memory)

pub returns-in_err-joined_fields-clause-memory : goal.returns-in_err-joined_fields-clause-memory
returns-in_err-joined_fields-clause-memory c =
    let part = subst (λ (l : List Field). AppendsPart c.mark_text.new.to c.joined_fields.new.to (joined_fields l)) c.as_slice.ensures c.in_err-joined_fields.ensures.memory in
    on_err _ (in_second c.args.to.now c.mark_text.new.to c.joined_fields.new.to (mark_text c.args.entry.now.mark) (joined_fields c.args.entry.now.row.fields ++ 10 ∷ []) c.in_ok-mark_text.ensures.ok
    (in_first c.mark_text.new.to c.joined_fields.new.to (joined_fields c.args.entry.now.row.fields) (10 ∷ []) part))

pub returns-clause-memory : goal.returns-clause-memory
returns-clause-memory c =
    let fields = joined_fields c.args.entry.now.row.fields in
    let joined : c.joined_fields.new.to ≡ c.mark_text.new.to ++ fields = c.in_ok-joined_fields.ensures.ok ∙ ap (λ (l : List Field). c.mark_text.new.to ++ joined_fields l) c.as_slice.ensures in
    on_err_by c.append.result c.append.ensures.err (λ same.
    in_second c.args.to.now c.mark_text.new.to c.append.new.self (mark_text c.args.entry.now.mark) (fields ++ 10 ∷ []) c.in_ok-mark_text.ensures.ok
    (in_second c.mark_text.new.to c.joined_fields.new.to c.append.new.self fields (10 ∷ []) joined (none_appended c.joined_fields.new.to c.append.new.self (10 ∷ []) same)))
