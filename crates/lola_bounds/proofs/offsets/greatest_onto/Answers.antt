use Rattle.lola_model.proofs.Passing.{any_streams}
use Rattle.lola_bounds.proofs.RaiseLemmas.{greatest_of_streams}
use Rattle.lola_bounds.proofs.offsets.greatest_onto.Goals as goal

pub visit_streams-requires-clause-parts : goal.visit_streams-requires-clause-parts
visit_streams-requires-clause-parts c = any_streams c.args.streams.now

pub returns : goal.returns
returns c = greatest_of_streams c.args.stream c.args.streams.now c.visit_streams.new.target c.in-Ok.ensures
