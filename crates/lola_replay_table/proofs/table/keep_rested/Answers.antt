use Rattle.std.proofs.Common.{rules}
use Rattle.std.proofs.lemmas.Fn.{filter_same}
use Rattle.lola_replay_table.specs.Resting.{is_at_rest}
use Rattle.lola_replay_table.proofs.table.keep_rested.Goals as goal

pub returns : goal.returns
returns c = filter_same _ is_at_rest _ (λ x b f' t. search rules) _ _ c.retain.ensures.filtered
