use Rattle.lola_save_text.proofs.SamePanes.{partial-same}
use Rattle.lola_save_text.proofs.panes.partials_are_same.Goals as goal

pub returns : goal.returns
returns c = partial-same
