use Rattle.std.proofs.Common.{◌≡◌, [], take, false}
use Rattle.lola_save_text.specs.Fitting.{is_among}
use Rattle.lola_save_read.specs.Turns.{seen_after}
use Rattle.lola_save_read.proofs.seen.is_nowhere.Given as goal

abbrev pub invariant-loop-instance : goal.invariant-loop-instance
invariant-loop-instance l = is_among l.params (seen_after [] (take l.instance-index l.seen)) ≡ false
