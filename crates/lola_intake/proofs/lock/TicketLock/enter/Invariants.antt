use Rattle.lola_intake.specs.Turns.{HasDrawn}
use Rattle.lola_intake.proofs.lock.TicketLock.enter.Given as goal

abbrev pub invariant-loop : goal.invariant-loop
invariant-loop g l = HasDrawn l.ticket l.fn.seat l.seat
