use Rattle.std.proofs.Common.{◌≡◌, vec_capacity}
use Rattle.std.specs.List.{AllZip}
use Rattle.lola_monitor_threads.specs.Seated.{WentOn}
use Rattle.lola_monitor_threads.proofs.here.hand_in_many.Given as goal

abbrev pub invariant-loop : goal.invariant-loop
invariant-loop g l = record {
  went : AllZip WentOn l.fn.here.items l.here.items;
  room : vec_capacity l.here ≡ vec_capacity l.fn.here;
}
