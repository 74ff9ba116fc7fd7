use Rattle.std.proofs.Common.{◌∙◌, sym}
use Rattle.lola_report.proofs.Lines.{line-none, line-other, line-some}
use Rattle.lola_report.proofs.line.entry_of_line.Goals as goal

pub returns-in_default : goal.returns-in_default
returns-in_default c plan inputs = line-none plan c.args.kinds.now c.args.line.now c.args.body.now inputs c.requires (sym c.in_ok-entry.ensures ∙ c.in_default.is)

pub returns-then-branch : goal.returns-then-branch
returns-then-branch c plan inputs =
    line-some plan c.args.kinds.now c.args.line.now c.args.body.now inputs c.requires c.in-Some.entry (sym c.in_ok-entry.ensures ∙ c.in-Some.is)
    (c.in_ok-is_line_of.ensures.0 c.if-branch.true)

pub returns-else-branch : goal.returns-else-branch
returns-else-branch c plan inputs =
    line-other plan c.args.kinds.now c.args.line.now c.args.body.now inputs c.requires c.in-Some.entry (sym c.in_ok-entry.ensures ∙ c.in-Some.is)
    (λ e. cc (sym c.if-branch.false ∙ c.in_ok-is_line_of.ensures.1 e))
