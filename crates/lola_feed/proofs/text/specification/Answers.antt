use Rattle.std.proofs.Common.{refl}
use Rattle.lola_feed.specs.Drills.{drill_text}
use Rattle.lola_feed.proofs.text.specification.Goals as goal

pub returns : goal.returns
unfolding drill_text
returns c = refl
