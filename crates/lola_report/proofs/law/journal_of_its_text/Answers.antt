use Rattle.lola_model.specs.Trace.{trace_text}
use Rattle.lola_report.proofs.Texts.{its-text, one-journal}
use Rattle.lola_report.proofs.law.journal_of_its_text.Goals as goal

pub returns-clause-spelled : goal.returns-clause-spelled
returns-clause-spelled c = its-text c.args._plan.now

pub returns-clause-alone : goal.returns-clause-alone
returns-clause-alone c = λ told journal all spelled. one-journal c.args._plan.now (trace_text told) journal told spelled (its-text c.args._plan.now told all)
