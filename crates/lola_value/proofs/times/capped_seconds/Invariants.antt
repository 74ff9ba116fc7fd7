use Rattle.std.proofs.Common.{◌≡◌, ◌≤◌, min, drop}
use Rattle.lola_value.specs.Times.{number_after, number_of}
use Rattle.lola_value.proofs.times.capped_seconds.Given as goal

abbrev pub invariant-loop-digit : goal.invariant-loop-digit
invariant-loop-digit l = record {
  within : l.seconds ≤ 4000000001;
  value : min (number_after l.seconds (drop l.digit-index l.digits)) 4000000001 ≡ min (number_of l.digits) 4000000001;
}
