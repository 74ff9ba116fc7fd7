use Rattle.std.proofs.Common.{arith, ◌≡◌, ◌<◌, ◌-◌, ℕ, List, length, false, get_or, take, drop}
use Rattle.std.proofs.lemmas.Bool.{ne_eqb}
use Rattle.lola_rows.specs.Line.{is_quote}
use Rattle.lola_rows.proofs.LineFacts.{plain-field}
use Rattle.lola_rows.proofs.line.read_field.Goals.{else-start-line-via-then-start-line+else-line-start-eq34, else-start-line-via-else-start-line}
use Rattle.lola_rows.proofs.line.read_field.Goals as goal

pub returns-clause-field : goal.returns-clause-field
returns-clause-field c =
    let plain : c.args.start < length c.args.line.now → is_quote (get_or c.args.line.now c.args.start 0) ≡ false =
    elim c.else-start-line.branch [
      | else-start-line-via-then-start-line+else-line-start-eq34 w ↦ λ lt. ne_eqb _ _ w.if-line-start-eq34.false
      | else-start-line-via-else-start-line w ↦ λ lt. absurd (omega arith)
    ] in
    let field : List ℕ = take (c.comma_from-end.result - c.args.start) (drop c.args.start c.args.line.now) in
    let whole = c.in_ok-push_field-2.ensures.fields in (
      field,
      rw c.requires.fresh at whole,
      plain-field c.args.line.now c.args.start c.comma_from-end.result c.comma_from-end.ensures.bounds.0 c.requires.within plain c.comma_from-end.ensures.run c.requires.one,
    )
