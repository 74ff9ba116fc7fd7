use Rattle.lola_clock.proofs.Moments.{due_found, due_none, rest_found, rest_none}
use Rattle.lola_clock.proofs.timers.moment_after.Goals as goal

pub returns-in-Some-clause-due : goal.returns-in-Some-clause-due
returns-in-Some-clause-due c = due_found c.args.start c.args.passed c.args.rate.now c.in-Some.number c.in-Some.offset c.placed.result.due c.in-Some.ensures.value c.placed.ensures.due

pub returns-in-Some-clause-rest : goal.returns-in-Some-clause-rest
returns-in-Some-clause-rest c =
    rest_found c.args.start c.args.passed c.args.rate.now c.in-Some.number c.in-Some.offset c.placed.result.rest c.rest_after.result c.in-Some.ensures.value c.rest_after.ensures c.placed.ensures.rest

pub returns-in-None-clause-due : goal.returns-in-None-clause-due
returns-in-None-clause-due c = due_none c.args.start c.args.passed c.args.rate.now c.in-None.ensures.value

pub returns-in-None-clause-rest : goal.returns-in-None-clause-rest
returns-in-None-clause-rest c = rest_none c.args.start c.args.passed c.args.rate.now c.in-None.ensures.value
