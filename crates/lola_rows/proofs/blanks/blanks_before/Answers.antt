use Rattle.std.proofs.Common.{◌∙◌, sym}
use Rattle.lola_rows.proofs.BlankFacts.{blanks-all, blanks-step, blanks-stop}
use Rattle.lola_rows.proofs.blanks.blanks_before.Goals as goal

pub loop-at-preserved : goal.loop-at-preserved
loop-at-preserved c = c.loop-at.invariant ∙ blanks-step c.args.field.now c.loop-at.at c.loop-at-test.true (sym c.if-not-is_blank.ensures)

pub returns-then-not-is_blank-clause-value : goal.returns-then-not-is_blank-clause-value
returns-then-not-is_blank-clause-value c = sym (c.loop-at.invariant ∙ blanks-stop c.args.field.now c.loop-at.at c.loop-at-test.true (sym c.if-not-is_blank.ensures))

pub returns-clause-value : goal.returns-clause-value
returns-clause-value c = blanks-all c.args.field.now c.loop-at.at c.loop-at-test.false c.loop-at.invariant
