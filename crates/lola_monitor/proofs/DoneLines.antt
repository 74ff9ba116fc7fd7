-- The counts of the last line of a run that ends well.
use Rattle.std.proofs.Common.{◌≡◌, ℕ, ◌+◌, ◌-◌, List, ◌++◌, ap, ◌∙◌, length, arith}
use Rattle.lola_model.specs.Journal.{accepted}
use Rattle.lola_model.specs.Runs.{final_lines, settled_lines, settled_model, whole_model}
use Rattle.lola_model.specs.declared.journal.Entry.{Entry}
use Rattle.lola_report.specs.declared.end.EndLine.TheVariants.{Done}
use Rattle.lola_monitor_run.specs.Running.{Keeping}
use Rattle.lola_monitor_run.specs.Verdicts.{Setting, late_count}
use Rattle.lola_monitor.specs.Pasts.{done_line_behind}

-- what is left of a sum
left_of : (one other sum : ℕ) → one + other ≡ sum → other ≡ sum - one
left_of one other sum is = omega (arith, is)

-- it has counted its own rows, and its own steps and lines behind those that a front has settled
pub done_counts : (s : Setting) (front journal : List Entry) (kept : Keeping) → kept.accepted ≡ length (accepted journal) → kept.late ≡ late_count journal
    → length (settled_model s.plan s.start front) + kept.state.steps ≡ length (whole_model s.plan s.start (front ++ journal))
    → length (settled_lines s.plan s.start front s.show) + kept.state.lines ≡ length (final_lines s.plan s.start (front ++ journal) s.show)
    → Done kept.accepted kept.late kept.state.steps kept.state.lines ≡ done_line_behind s front journal
done_counts s front journal kept rows late steps lines =
    let own_steps = length (whole_model s.plan s.start (front ++ journal)) - length (settled_model s.plan s.start front) in
    ap (λ a. Done a kept.late kept.state.steps kept.state.lines) rows
    ∙ (ap (λ l. Done (length (accepted journal)) l kept.state.steps kept.state.lines) late
    ∙ (ap (λ n. Done (length (accepted journal)) (late_count journal) n kept.state.lines) (left_of (length (settled_model s.plan s.start front)) kept.state.steps (length (whole_model s.plan s.start (front ++ journal))) steps)
    ∙ ap (λ v. Done (length (accepted journal)) (late_count journal) own_steps v) (left_of (length (settled_lines s.plan s.start front s.show)) kept.state.lines (length (final_lines s.plan s.start (front ++ journal) s.show)) lines)))
