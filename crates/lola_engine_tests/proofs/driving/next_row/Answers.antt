use Rattle.std.proofs.Common.{subst, arith}
use Rattle.lola_rows.specs.Reading.{IsRowOf, Shape}
use Rattle.lola_engine_tests.proofs.driving.next_row.Goals as goal

pub returns-in-Row-clause-fits : goal.returns-in-Row-clause-fits
returns-in-Row-clause-fits c =
    let gave = c.in-Row.ensures.going c.requires.going in
    c.rows_fit.ensures c.args.plan.now 0 10000 c.args.reader.now.given c.in-Row.row (omega arith) (omega arith)
    (subst (λ (s : Shape). IsRowOf s c.args.reader.now.given c.in-Row.row) c.requires.shape gave.0.is_row)
