use Rattle.std.proofs.Common.{[], ◌∷◌}
use Rattle.lola_value.proofs.AppendingLemmas.{in_first, in_second}
use Rattle.lola_report.proofs.Sequences.{on_err}
use Rattle.lola_save_text.specs.Lines.{LastLine, StartLine, StepsLine, line_text, lines_text}
use Rattle.lola_save.proofs.write.times_lines.Goals as goal

pub returns-in_err-start_line-clause-memory : goal.returns-in_err-start_line-clause-memory
returns-in_err-start_line-clause-memory c =
    let s = c.args.state.now in
    on_err _ (in_first c.args.to.now _ (line_text (StartLine s.start)) (lines_text (LastLine s.last ∷ StepsLine s.steps ∷ [])) c.in_err-start_line.ensures.memory)

pub returns-in_err-last_line-clause-memory : goal.returns-in_err-last_line-clause-memory
returns-in_err-last_line-clause-memory c =
    let s = c.args.state.now in
    on_err _ (in_second c.args.to.now _ _ (line_text (StartLine s.start)) (lines_text (LastLine s.last ∷ StepsLine s.steps ∷ [])) c.in_ok-start_line.ensures.ok
    (in_first _ _ (line_text (LastLine s.last)) (lines_text (StepsLine s.steps ∷ [])) c.in_err-last_line.ensures.memory))
