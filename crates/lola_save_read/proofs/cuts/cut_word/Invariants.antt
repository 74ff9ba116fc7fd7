use Rattle.std.proofs.Common.{◌≡◌, take, true}
use Rattle.std.specs.List.{list_all}
use Rattle.lola_save_read.specs.Words.{is_no_space}
use Rattle.lola_save_read.proofs.cuts.cut_word.Given as goal

abbrev pub invariant-loop-place : goal.invariant-loop-place
invariant-loop-place l = list_all is_no_space (take l.place l.bytes) ≡ true
