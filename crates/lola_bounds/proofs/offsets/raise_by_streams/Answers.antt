use Rattle.lola_model.proofs.Passing.{any_streams}
use Rattle.lola_bounds.proofs.RaiseLemmas.{raised_streams}
use Rattle.lola_bounds.proofs.offsets.raise_by_streams.Goals as goal

pub visit_streams-requires-clause-parts : goal.visit_streams-requires-clause-parts
visit_streams-requires-clause-parts c = any_streams c.args.streams.now

pub returns : goal.returns
returns c = raised_streams (λ v. v.items) c.args.streams.now c.args.greatest.now c.visit_streams.new.target c.in-Ok.ensures
