use Rattle.lola_front_law.proofs.KindDeciding.{kinds_decided}
use Rattle.lola_front_law.proofs.law.kinds_are_one.Goals as goal

pub returns : goal.returns
returns c bytes = kinds_decided bytes
