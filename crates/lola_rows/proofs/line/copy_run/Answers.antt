use Rattle.lola_rows.specs.Line.{is_quote}
use Rattle.lola_rows.proofs.Searches.{run-begun}
use Rattle.lola_rows.proofs.line.copy_run.Goals as goal

pub returns-clause-run : goal.returns-clause-run
returns-clause-run c =
    run-begun is_quote c.args.line.now c.args.start c.quote_from-end.result c.requires.within c.quote_from-end.ensures.bounds.0 c.requires.plain c.quote_from-end.ensures.run
