use Rattle.std.proofs.Common.{refl}
use Rattle.lola_feed.specs.Drills.{draw}
use Rattle.lola_feed.proofs.rows.draw.Goals as goal

pub returns-clause-is : goal.returns-clause-is
unfolding draw
returns-clause-is c = refl
