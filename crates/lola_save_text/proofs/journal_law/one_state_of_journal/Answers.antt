use Rattle.lola_save_text.proofs.StatesSaved.{one-state}
use Rattle.lola_save_text.proofs.journal_law.one_state_of_journal.Goals as goal

pub returns : goal.returns
returns c = one-state c.args._plan.now c.requires
