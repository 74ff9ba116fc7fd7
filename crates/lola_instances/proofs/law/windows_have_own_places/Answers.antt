use Rattle.lola_instances.proofs.Windowed.{own_place}
use Rattle.lola_instances.proofs.law.windows_have_own_places.Goals as goal

pub returns : goal.returns
returns c = λ v w a b e f t q. let s = c.args._store.now in own_place s.windows s.places.items v w a b s.at_places e f t q
