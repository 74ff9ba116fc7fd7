use Rattle.std.proofs.Common.{arith, get_or}
use Rattle.lola_clock.proofs.Passing.{none_set, next_usable, more_set, all_set}
use Rattle.lola_clock.proofs.Setting.{one_set}
use Rattle.lola_clock.proofs.timers.set_all.Goals as goal

pub loop-timer-init : goal.loop-timer-init
loop-timer-init c = (none_set c.args.known c.args.start c.args.to c.args.timers.now c.requires.usable, tt)

pub set_one-requires-clause-usable : goal.set_one-requires-clause-usable
set_one-requires-clause-usable c =
    next_usable c.args.known c.args.start c.args.to c.args.timers.now c.loop-timer.timers c.loop-timer.timer-index c.loop-timer.least c.timer-item.result c.loop-timer.invariant.0 (omega arith)

pub loop-timer-preserved : goal.loop-timer-preserved
loop-timer-preserved c =
    let more = more_set c.args.known c.args.start c.args.to c.args.timers.now c.loop-timer.timers c.loop-timer.timer-index c.loop-timer.least c.timer-item.result c.loop-timer.invariant.0
    c.set_one.new.timer (omega arith) c.set_one.ensures.rate c.set_one.ensures.set in
    (rw c.min-least.ensures more, one_set c.args.start c.args.to (get_or c.loop-timer.timers c.loop-timer.timer-index c.timer-item.result) c.set_one.new.timer c.set_one.ensures.rate c.set_one.ensures.set)

pub returns-clause-set : goal.returns-clause-set
returns-clause-set c =
    (all_set c.args.known c.args.start c.args.to c.args.timers.now c.loop-timer.timers c.loop-timer.timer-index c.loop-timer.least c.loop-timer.invariant.0 (omega arith)).0

pub returns-clause-rates : goal.returns-clause-rates
returns-clause-rates c =
    (all_set c.args.known c.args.start c.args.to c.args.timers.now c.loop-timer.timers c.loop-timer.timer-index c.loop-timer.least c.loop-timer.invariant.0 (omega arith)).1

pub returns-clause-least : goal.returns-clause-least
returns-clause-least c =
    (all_set c.args.known c.args.start c.args.to c.args.timers.now c.loop-timer.timers c.loop-timer.timer-index c.loop-timer.least c.loop-timer.invariant.0 (omega arith)).2
