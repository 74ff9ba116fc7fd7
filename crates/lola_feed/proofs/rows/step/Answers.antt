use Rattle.std.proofs.Common.{refl}
use Rattle.lola_feed.specs.Drills.{stepped}
use Rattle.lola_feed.proofs.rows.step.Goals as goal

pub returns-clause-is : goal.returns-clause-is
unfolding stepped
returns-clause-is c = refl
