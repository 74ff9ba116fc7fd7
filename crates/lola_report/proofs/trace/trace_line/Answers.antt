use Rattle.std.proofs.Common.{◌≡◌, ◌++◌, List, OnOk, OnErr, false, sym, ap, subst, ◌∙◌}
use Rattle.lola_value.specs.Appending.{AppendsPart}
use Rattle.lola_report.specs.Rows.{has_quoted}
use Rattle.lola_report.proofs.Joined.{joined_is}
use Rattle.lola_report.proofs.trace.trace_line.Goals as goal

pub returns-else-has_quoted-clause-ok : goal.returns-else-has_quoted-clause-ok
returns-else-has_quoted-clause-ok c =
    let none : has_quoted c.args.entry.now.row.fields ≡ false = ap has_quoted (sym c.as_slice.ensures) ∙ sym c.has_quoted.ensures ∙ c.if-has_quoted.false in
    subst (λ (l : List _). OnOk c.joined_line.result (c.joined_line.new.to ≡ c.args.to.now ++ l)) (joined_is c.args.entry.now none) c.joined_line.ensures.ok

pub returns-else-has_quoted-clause-memory : goal.returns-else-has_quoted-clause-memory
returns-else-has_quoted-clause-memory c =
    let none : has_quoted c.args.entry.now.row.fields ≡ false = ap has_quoted (sym c.as_slice.ensures) ∙ sym c.has_quoted.ensures ∙ c.if-has_quoted.false in
    subst (λ (l : List _). OnErr c.joined_line.result (AppendsPart c.args.to.now c.joined_line.new.to l)) (joined_is c.args.entry.now none) c.joined_line.ensures.memory
