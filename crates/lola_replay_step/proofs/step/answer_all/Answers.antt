use Rattle.lola_replay_table.specs.Moments.{the_step}
use Rattle.lola_replay_step.proofs.PassingLives.{answers-all}
use Rattle.lola_replay_step.proofs.step.answer_all.Goals as goal

pub returns : goal.returns
returns c =
    answers-all c.args.plan.now c.args.moment.now.start (the_step c.args.moment.now) c.args.known.now c.answer_spawns.new.known c.answer_outcomes.new.known c.in_ok-answer_spawns.ensures
    c.in_ok-answer_outcomes.ensures
