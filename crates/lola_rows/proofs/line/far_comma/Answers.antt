use Rattle.lola_rows.proofs.Searches.{run-found, run-to-end}
use Rattle.lola_rows.proofs.line.far_comma.Goals as goal

pub returns-in-Some-clause-run : goal.returns-in-Some-clause-run
returns-in-Some-clause-run c = run-found 44 c.args.line.now c.args.start c.in-Some.at c.memchr.result c.requires c.memchr.ensures c.in-Some.is

pub returns-in-None-clause-run : goal.returns-in-None-clause-run
returns-in-None-clause-run c = run-to-end 44 c.args.line.now c.args.start c.memchr.result c.memchr.ensures c.in-None.is
