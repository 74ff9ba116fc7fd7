use Rattle.std.proofs.Common.{◌∙◌, List, ap, arith, slice_get}
use Rattle.lola_replay_table.specs.Moments.{the_step}
use Rattle.lola_replay_step.specs.AnsweringOf.{lives_at}
use Rattle.lola_replay_table.specs.declared.question.Question.TheVariants.{SpawnOf}
use Rattle.lola_replay_table.specs.declared.table.KnownStream.{KnownStream}
use Rattle.lola_replay_step.proofs.PassingLives.{all-lives, one-more-life}
use Rattle.lola_replay_step.proofs.step.answer_lives.Goals as goal

pub pass_outcome-requires-clause-spawned : goal.pass_outcome-requires-clause-spawned
pass_outcome-requires-clause-spawned c = λ n open-n. c.requires.spawned n (c.loop-place.invariant.0.stay (SpawnOf n) open-n)

pub loop-place-preserved : goal.loop-place-preserved
loop-place-preserved c = (
  one-more-life c.args.plan.now c.args.moment.now.start (the_step c.args.moment.now) c.args.number c.args.known.now c.loop-place.known c.pass_outcome.new.known c.loop-place.place
      c.loop-place.invariant.0 c.in_ok-pass_outcome.ensures,
  c.loop-place.invariant.1,
)

pub returns : goal.returns
returns c =
    let count = c.count-lives.ensures ∙ ap (λ (ks : List KnownStream). lives_at (slice_get ks c.args.number)) c.as_slice.ensures in
    all-lives c.args.plan.now c.args.moment.now.start (the_step c.args.moment.now) c.args.number c.args.known.now c.loop-place.known c.loop-place.place c.loop-place.invariant.0
    (omega (arith, count, c.loop-place-test.false))
