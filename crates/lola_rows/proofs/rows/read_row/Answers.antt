use Rattle.lola_rows.proofs.RowFacts.{one-line, unflawed}
use Rattle.lola_rows.proofs.rows.read_row.Goals as goal

pub read-requires : goal.read-requires
read-requires c = one-line c.args.text.now c.requires (unflawed c.args.size c.args.text.now c.check_line.result c.check_line.ensures c.in_default.not-Err)
