use Rattle.std.proofs.Common.{◌∷◌, arith}
use Rattle.lola_model.specs.Trace.{field_bytes}
use Rattle.lola_report.proofs.Sequences.{on_err, part_within}
use Rattle.lola_report.proofs.piece.joined_fields.Goals as goal

pub returns-in_err-one_more_field-clause-memory : goal.returns-in_err-one_more_field-clause-memory
returns-in_err-one_more_field-clause-memory c =
    on_err _ (part_within (λ f. 44 ∷ field_bytes f) c.args.fields.now c.loop-field.field-index _ _ c.args.to.now c.loop-field.to _ (omega arith) c.field-item.is c.loop-field.invariant c.in_err-one_more_field.ensures.memory)
