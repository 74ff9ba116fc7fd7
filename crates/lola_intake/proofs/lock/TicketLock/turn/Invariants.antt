use Rattle.std.proofs.Common.{Some}
use Rattle.lola_intake.proofs.lock.TicketLock.turn.Given as goal

abbrev pub ghosts-leave : goal.ghosts-leave
ghosts-leave g a = record { event = Some (g.O.Act.event a._of.now.value a._and.now) }
