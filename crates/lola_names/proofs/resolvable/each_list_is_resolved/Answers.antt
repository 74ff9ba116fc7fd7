-- The law.
use Rattle.lola_names.proofs.MadeWhole.{resolves_each}
use Rattle.lola_names.proofs.resolvable.each_list_is_resolved.Goals as goal

pub returns : goal.returns
returns c = resolves_each
