use Rattle.lola_names.proofs.WholeLemmas.{is_grown}
use Rattle.lola_names.proofs.resolving.streams_of.Goals as goal

pub returns-clause-grown : goal.returns-clause-grown
returns-clause-grown c = is_grown c.nothing-made.result c.streams.new.made c.in_ok-streams.streams c.nothing-made.ensures c.in_ok-streams.ensures.grown
