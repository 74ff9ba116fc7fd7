use Rattle.std.proofs.Common.{refl}
use Rattle.lola_report.proofs.Sequences.{on_err}
use Rattle.lola_save.proofs.LineRows.{panes-done, panes-more, panes-out, panes-part}
use Rattle.lola_save.proofs.write.panes_lines.Goals as goal

pub returns-in-None-clause-ok : goal.returns-in-None-clause-ok
returns-in-None-clause-ok c = panes-out c.args.to.now c.loop-window.to _ c.args.windows.now c.loop-window.window-index c.loop-window.others.now c.loop-window.invariant c.in-None.ensures

pub returns-in_err-panes_line-in-Some-clause-memory : goal.returns-in_err-panes_line-in-Some-clause-memory
returns-in_err-panes_line-in-Some-clause-memory c = on_err _ (panes-part c.args.to.now c.loop-window.to _ c.args.windows.now c.loop-window.window-index c.loop-window.others.now _ _ c.loop-window-test.true refl c.in-Some.first.now c.in-Some.rest.now c.in-Some.ensures c.loop-window.invariant _ c.in_err-panes_line-in-Some.ensures.memory)

pub loop-window-preserved : goal.loop-window-preserved
loop-window-preserved c = panes-more c.args.to.now c.loop-window.to _ c.args.windows.now c.loop-window.window-index c.loop-window.others.now _ _ c.loop-window-test.true refl c.in-Some.first.now c.in-Some.rest.now c.in-Some.ensures c.loop-window.invariant _ c.in_ok-panes_line-in-Some.ensures.ok

pub returns-clause-ok : goal.returns-clause-ok
returns-clause-ok c = panes-done c.args.to.now c.loop-window.to _ c.args.windows.now c.loop-window.window-index c.loop-window.others.now c.loop-window.invariant c.loop-window-test.false
