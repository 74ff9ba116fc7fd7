use Rattle.lola_names.proofs.Spelled.{spelled_closes}
use Rattle.lola_names.proofs.law.spelled_closes_are_spawned.Goals as goal

pub returns : goal.returns
returns c n ts ds s = spelled_closes n ts ds s
