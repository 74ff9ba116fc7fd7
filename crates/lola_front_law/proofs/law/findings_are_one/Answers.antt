use Rattle.lola_front_law.proofs.PacingDeciding.{has_one_finding}
use Rattle.lola_front_law.proofs.law.findings_are_one.Goals as goal

pub returns : goal.returns
returns c full low = has_one_finding full low
