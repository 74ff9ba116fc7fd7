use Rattle.lola_save_text.proofs.StartOptions.{start-serves}
use Rattle.lola_save_text.proofs.journal_law.start_serves_as_option.Goals as goal

pub returns : goal.returns
returns c = start-serves c.args._plan.now
