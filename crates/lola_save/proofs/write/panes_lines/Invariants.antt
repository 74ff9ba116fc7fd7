use Rattle.std.proofs.Common.{drop}
use Rattle.lola_save_text.specs.Lines.{lines_text, panes_lines}
use Rattle.lola_save.proofs.SoFar.{IsSoFar}
use Rattle.lola_save.proofs.write.panes_lines.Given as goal

abbrev pub invariant-loop-window : goal.invariant-loop-window
invariant-loop-window l = IsSoFar l.initial.to l.to (lines_text (panes_lines l.windows l.fn.panes)) (lines_text (panes_lines (drop l.window-index l.windows) l.others))
