use Rattle.std.proofs.Common.{◌≡◌, take, true}
use Rattle.lola_report.specs.Lines.{has_no_lf}
use Rattle.lola_save_read.proofs.cuts.cut_at_lf.Given as goal

abbrev pub invariant-loop-place : goal.invariant-loop-place
invariant-loop-place l = has_no_lf (take l.place l.bytes) ≡ true
