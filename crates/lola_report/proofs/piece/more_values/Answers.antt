use Rattle.std.proofs.Common.{◌∷◌, arith}
use Rattle.lola_model.specs.Texts.{value_text}
use Rattle.lola_report.proofs.Sequences.{on_err, part_within}
use Rattle.lola_report.proofs.piece.more_values.Goals as goal

pub returns-in_err-one_more_value-clause-memory : goal.returns-in_err-one_more_value-clause-memory
returns-in_err-one_more_value-clause-memory c =
    on_err _ (part_within (λ v. 44 ∷ value_text v) c.args.values.now c.loop-value.value-index _ _ c.args.to.now c.loop-value.to _ (omega arith) c.value-item.is c.loop-value.invariant c.in_err-one_more_value.ensures.memory)
