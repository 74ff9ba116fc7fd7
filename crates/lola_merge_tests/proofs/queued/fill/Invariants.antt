use Rattle.lola_queue_intake.specs.Intakes.{IsSameSeat}
use Rattle.lola_merge_tests.proofs.queued.fill.Given as goal

abbrev pub invariant-loop-stamp : goal.invariant-loop-stamp
invariant-loop-stamp g l = IsSameSeat l.fn.seat l.seat
