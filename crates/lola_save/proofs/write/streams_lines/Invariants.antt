use Rattle.std.proofs.Common.{drop}
use Rattle.lola_save_text.specs.Lines.{lines_text, streams_lines}
use Rattle.lola_save.proofs.SoFar.{IsSoFar}
use Rattle.lola_save.proofs.write.streams_lines.Given as goal

abbrev pub invariant-loop-number : goal.invariant-loop-number
invariant-loop-number l = IsSoFar l.initial.to l.to (lines_text (streams_lines 0 l.forms l.fn.streams)) (lines_text (streams_lines l.number (drop l.number l.forms) l.others))
