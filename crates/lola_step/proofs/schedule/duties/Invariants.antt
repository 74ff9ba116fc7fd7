use Rattle.std.proofs.Common.{◌≡◌, ◌++◌, drop}
use Rattle.lola_step.specs.Schedules.{has_duty, numbers_of, duties_of}
use Rattle.lola_step.proofs.schedule.duties.Given as goal

-- those so far are listed
abbrev pub invariant-loop-n : goal.invariant-loop-n
invariant-loop-n l = l.numbers.items ++ numbers_of (has_duty l.plan l.duty) l.n (drop l.n l.plan.spec.streams) ≡ duties_of l.plan l.duty
