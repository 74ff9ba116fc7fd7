use Rattle.std.proofs.Common.{[], ◌∷◌, ◌++◌}
use Rattle.lola_value.proofs.AppendingLemmas.{in_first, in_second}
use Rattle.lola_report.proofs.Sequences.{on_err}
use Rattle.lola_save_text.specs.Lines.{time_or_dash, values_text}
use Rattle.lola_save.proofs.lines.inst_line.Goals as goal

pub returns-in_err-values_text-clause-memory : goal.returns-in_err-values_text-clause-memory
returns-in_err-values_text-clause-memory c =
    let i = c.args.instance.now in
    on_err _ (in_second c.args.to.now _ _ _ ((time_or_dash i.born ++ values_text i.params) ++ 10 ∷ []) c.in_ok-append.ensures.ok
    (in_first _ _ (time_or_dash i.born ++ values_text i.params) (10 ∷ [])
    (in_second _ _ _ (time_or_dash i.born) (values_text i.params) c.in_ok-time_or_dash.ensures.ok (rw c.as_slice.ensures at c.in_err-values_text.ensures.memory))))
