use Rattle.std.specs.Prelude.{◌||◌}
use Rattle.std.proofs.Common.{sym, ap, ◌∙◌}
use Rattle.std.specs.List.{list_any}
use Rattle.memchr.specs.Find.{is_byte2}
use Rattle.lola_report.proofs.Marks.{quoted-any}
use Rattle.lola_report.proofs.trace.calls_for_quotes.Goals as goal

pub returns-then-has_mark : goal.returns-then-has_mark
returns-then-has_mark c =
    let text = c.args.text.now in
    c.if-has_mark.true
    ∙ sym (quoted-any text ∙ ap (λ marked. marked || list_any (is_byte2 13 10) text) (sym c.has_mark.ensures ∙ c.if-has_mark.true))

pub returns-else-has_mark : goal.returns-else-has_mark
returns-else-has_mark c =
    let text = c.args.text.now in
    c.has_line_end.ensures
    ∙ sym (quoted-any text ∙ ap (λ marked. marked || list_any (is_byte2 13 10) text) (sym c.has_mark.ensures ∙ c.if-has_mark.false))
