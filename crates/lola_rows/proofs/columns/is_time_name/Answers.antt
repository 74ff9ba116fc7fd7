use Rattle.std.proofs.Common.{◌∙◌, sym}
use Rattle.lola_rows.proofs.Placing.{third-name}
use Rattle.lola_rows.proofs.columns.is_time_name.Goals as goal

pub returns : goal.returns
returns c =
    c.eq-3.ensures
    ∙ third-name c.args.title.now c.as_slice.result.now c.as_slice-2.result.now c.as_slice-3.result.now c.as_slice.ensures c.as_slice-2.ensures c.as_slice-3.ensures (sym c.if-eq.ensures) (sym c.if-eq-2.ensures)
