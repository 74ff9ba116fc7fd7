use Rattle.lola_front_law.proofs.PacingDeciding.{has_one_pacing}
use Rattle.lola_front_law.proofs.law.pacings_are_one.Goals as goal

pub returns : goal.returns
returns c bytes = has_one_pacing bytes
