use Rattle.std.proofs.Common.{◌≡◌, ◌<◌, ◌^◌, ◌++◌, replicate, take, drop}
use Rattle.lola_value.specs.Times.{number_after, number_of}
use Rattle.lola_value.proofs.times.first_nine.Given as goal

abbrev pub invariant-loop-place : goal.invariant-loop-place
invariant-loop-place l = record {
  below : l.number < 10 ^ l.place;
  value : number_after l.number (drop l.place (take 9 (l.digits ++ replicate 9 48))) ≡ number_of (take 9 (l.digits ++ replicate 9 48));
}
