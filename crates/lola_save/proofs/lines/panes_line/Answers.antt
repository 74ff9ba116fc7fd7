use Rattle.std.proofs.Common.{[], ◌∷◌, ◌++◌, decimal}
use Rattle.lola_value.proofs.AppendingLemmas.{in_first, in_second}
use Rattle.lola_report.proofs.Sequences.{on_err}
use Rattle.lola_save_text.specs.Lines.{panes_text}
use Rattle.lola_save.proofs.lines.panes_line.Goals as goal

pub returns-in_err-panes_text-clause-memory : goal.returns-in_err-panes_text-clause-memory
returns-in_err-panes_text-clause-memory c =
    let w = c.args.window.now.number in
    let p = c.args.panes.now in
    on_err _ (in_second c.args.to.now _ _ _ ((decimal w ++ panes_text p) ++ 10 ∷ []) c.in_ok-append.ensures.ok
    (in_first _ _ (decimal w ++ panes_text p) (10 ∷ [])
    (in_second _ _ _ (decimal w) (panes_text p) c.in_ok-number_text.ensures.ok c.in_err-panes_text.ensures.memory)))
