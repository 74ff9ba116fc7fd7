use Rattle.std.proofs.Common.{◌∙◌, sym, ap}
use Rattle.lola_rows.specs.Reading.{Reading}
use Rattle.lola_rows.proofs.Readers.{over-ends}
use Rattle.lola_rows.proofs.reader.RowReader.advance.Goals as goal

pub returns-in-Over-clause-takes : goal.returns-in-Over-clause-takes
returns-in-Over-clause-takes g c = over-ends c.args.self.now (sym (ap (λ (x : Reading). x.stage) c.self.view_is) ∙ c.in-Over.is)
