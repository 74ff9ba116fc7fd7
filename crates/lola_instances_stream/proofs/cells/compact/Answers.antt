use Rattle.std.proofs.Common.{is_some, rules}
use Rattle.std.proofs.lemmas.Fn.{filter_same}
use Rattle.lola_instances_stream.proofs.cells.compact.Goals as goal

pub returns-clause-cells : goal.returns-clause-cells
returns-clause-cells c = filter_same _ is_some _ (λ x b f' t. search rules) _ _ c.retain.ensures.filtered
