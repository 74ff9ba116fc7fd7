use Rattle.std.proofs.Common.{sym}
use Rattle.lola_rows.proofs.ValueFacts.{truth-none}
use Rattle.lola_rows.proofs.values.truth.Goals as goal

pub returns-else-eq-2 : goal.returns-else-eq-2
returns-else-eq-2 c = truth-none c.args.text.now c.as_slice.result.now c.as_slice-else-eq.result.now c.as_slice.ensures c.as_slice-else-eq.ensures (sym c.if-eq.ensures) (sym c.if-eq-2.ensures)
