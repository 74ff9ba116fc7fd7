use Rattle.lola_save_text.proofs.SamePanes.{newest-same}
use Rattle.lola_save_text.proofs.panes.newest_panes_are_same.Goals as goal

pub returns : goal.returns
returns c = newest-same
