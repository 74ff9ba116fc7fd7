use Rattle.std.proofs.Common.{refl}
use Rattle.lola_save_text.specs.JournalStates.{state_of}
use Rattle.lola_save_text.proofs.StatesSaved.{state-is-saved}
use Rattle.lola_save_text.proofs.journal_law.state_of_journal_is_saved.Goals as goal

pub returns-clause-saved : goal.returns-clause-saved
returns-clause-saved c = state-is-saved c.args._plan.now c.requires.accepted c.requires.texts

pub returns-clause-text : goal.returns-clause-text
returns-clause-text c = λ spec start journal h. record {
  state = state_of c.args._plan.now start journal;
  saved = state-is-saved c.args._plan.now c.requires.accepted c.requires.texts start journal h;
  written = refl;
}
