use Rattle.std.proofs.Common.{List, ap, arith, length}
use Rattle.lola_replay_table.specs.Moments.{the_step}
use Rattle.lola_replay_table.specs.declared.question.Question.TheVariants.{SpawnOf}
use Rattle.lola_replay_table.specs.declared.table.KnownStream.{KnownStream}
use Rattle.lola_replay_step.proofs.PassingLives.{all-streams, one-more-stream}
use Rattle.lola_replay_step.proofs.step.answer_outcomes.Goals as goal

pub answer_lives-requires-clause-spawned : goal.answer_lives-requires-clause-spawned
answer_lives-requires-clause-spawned c = λ n open-n. c.requires.spawned n (c.loop-number.invariant.0.stay (SpawnOf n) open-n)

pub loop-number-preserved : goal.loop-number-preserved
loop-number-preserved c = (
  one-more-stream c.args.plan.now c.args.moment.now.start (the_step c.args.moment.now) c.args.known.now c.loop-number.known c.answer_lives.new.known c.loop-number.number c.loop-number.invariant.0
      c.in_ok-answer_lives.ensures,
  c.loop-number.invariant.1,
)

pub returns : goal.returns
returns c =
    let long = ap (λ (ks : List KnownStream). length ks) c.as_slice.ensures in
    all-streams c.args.plan.now c.args.moment.now.start (the_step c.args.moment.now) c.args.known.now c.loop-number.known c.loop-number.number c.loop-number.invariant.0
    (omega (arith, long, c.loop-number-test.false))
