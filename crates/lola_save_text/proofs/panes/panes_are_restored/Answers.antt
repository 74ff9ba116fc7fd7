use Rattle.lola_save_text.proofs.SamePanes.{panes-restored}
use Rattle.lola_save_text.proofs.panes.panes_are_restored.Goals as goal

pub returns : goal.returns
returns c = panes-restored
