use Rattle.std.proofs.Common.{◌∷◌, refl, arith}
use Rattle.lola_save_text.specs.Lines.{partial_text}
use Rattle.lola_report.proofs.Sequences.{on_err, part_within}
use Rattle.lola_save.proofs.words.partials_text.Goals as goal

pub returns-in_err-one_more_partial-clause-memory : goal.returns-in_err-one_more_partial-clause-memory
returns-in_err-one_more_partial-clause-memory c =
    on_err _ (part_within (λ v. 32 ∷ partial_text v) c.args.partials.now c.loop-partial.partial-index _ _ c.args.to.now c.loop-partial.to _ (omega arith) refl c.loop-partial.invariant c.in_err-one_more_partial.ensures.memory)
