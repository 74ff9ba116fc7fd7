use Rattle.lola_report.proofs.CsvRows.{records-alone, records-read}
use Rattle.lola_report.proofs.law.trace_is_csv.Goals as goal

pub returns-clause-read : goal.returns-clause-read
returns-clause-read c = records-read c.args._plan.now

pub returns-clause-alone : goal.returns-clause-alone
returns-clause-alone c = records-alone c.args._plan.now
