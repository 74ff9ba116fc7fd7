use Rattle.std.proofs.Common.{◌≡◌, ◌∙◌, ◌+◌, ◌<◌, Bool, List, ap, arith, filter, length}
use Rattle.lola_replay_table.specs.Open.{changed_at}
use Rattle.lola_replay_table.specs.Resting.{is_at_rest, marked_life, said_at}
use Rattle.lola_replay_table.specs.declared.table.KnownLife.{KnownLife}
use Rattle.lola_replay_table.proofs.Marking.{all-marked, at-rest, marked-long, one-more}
use Rattle.lola_replay_table.proofs.table.rest_lives.Goals as goal

pub loop-place-preserved : goal.loop-place-preserved
loop-place-preserved c =
    let time = c.args.time in
    let closed = c.args.closed.now in
    let lives = c.args.lives.now in
    let place = c.loop-place.place in
    let long = ap (λ (ls : List KnownLife). length ls) (c.as_slice.ensures ∙ c.loop-place.invariant) ∙ marked-long time closed lives place in
    let within : place < length lives = omega (arith, long, c.loop-place-test.true) in
    c.in_ok-mark.ensures
    ∙ ap (λ (b : Bool). changed_at place (marked_life time b) c.loop-place.lives) c.is_said.ensures
    ∙ ap (changed_at place (marked_life time (said_at closed place))) c.loop-place.invariant
    ∙ one-more time closed lives place within

pub returns : goal.returns
returns c =
    let time = c.args.time in
    let closed = c.args.closed.now in
    let lives = c.args.lives.now in
    let place = c.loop-place.place in
    let long = ap (λ (ls : List KnownLife). length ls) (c.as_slice.ensures ∙ c.loop-place.invariant) ∙ marked-long time closed lives place in
    let past : length lives < place + 1 = omega (arith, long, c.loop-place-test.false) in
    c.leave_rested.ensures ∙ ap (filter is_at_rest) (c.loop-place.invariant ∙ all-marked time closed lives place past) ∙ at-rest time closed lives
