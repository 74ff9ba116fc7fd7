use Rattle.std.proofs.Common.{◌≡◌, length, vec_capacity}
use Rattle.std.specs.List.{AllZip}
use Rattle.lola_monitor_threads.specs.Seated.{WentOn}
use Rattle.lola_monitor_threads.proofs.here.look_all.Given as goal

abbrev pub invariant-loop-place : goal.invariant-loop-place
invariant-loop-place g l = record {
  many : length l.here.items ≡ length l.fn.here.items;
  went : AllZip WentOn l.fn.here.items l.here.items;
  room : vec_capacity l.here ≡ vec_capacity l.fn.here;
}
