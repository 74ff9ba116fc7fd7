use Rattle.lola_clock.specs.Timers.{IsSetOne}
use Rattle.lola_clock.proofs.Passing.{IsSetUpTo}
use Rattle.lola_clock.proofs.timers.set_all.Given as goal

abbrev pub invariant-loop-timer : goal.invariant-loop-timer
invariant-loop-timer l = IsSetUpTo l.known l.start l.to l.initial.timers l.timers l.timer-index l.least × IsSetOne l.start l.to l.set
