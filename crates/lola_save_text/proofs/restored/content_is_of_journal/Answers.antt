use Rattle.lola_save_text.proofs.LastTimes.{last-time}
use Rattle.lola_save_text.proofs.Restoring.{known-begins}
use Rattle.lola_save_text.proofs.restored.content_is_of_journal.Goals as goal

pub returns-clause-start : goal.returns-clause-start
returns-clause-start c start journal known e = known-begins c.args._plan.now start journal known e

pub returns-clause-time : goal.returns-clause-time
returns-clause-time c start journal fine = last-time c.args._plan.now c.requires start journal fine
