use Rattle.std.proofs.Common.{drop}
use Rattle.lola_instances.specs.Rooms.{AreKept}
use Rattle.lola_instances.proofs.Preparing.{ReadyOr}
use Rattle.lola_instances.proofs.prepare.make_all_ready.Given as goal

-- all is as it was but for room, and each stream of the numbers that are passed has some
abbrev pub invariant-loop-number : goal.invariant-loop-number
invariant-loop-number l = record {
  kept : AreKept l.initial.streams.items l.streams.items;
  done : ReadyOr l.streams.items l.numbers (drop l.number-index l.numbers);
}
