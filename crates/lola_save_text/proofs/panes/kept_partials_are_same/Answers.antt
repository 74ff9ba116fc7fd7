use Rattle.lola_save_text.proofs.SamePanes.{kept-partials-same}
use Rattle.lola_save_text.proofs.panes.kept_partials_are_same.Goals as goal

pub returns : goal.returns
returns c = kept-partials-same
