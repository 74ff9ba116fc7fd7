-- What is told of the instances so far, and what is left.
use Rattle.std.proofs.Common.{◌≡◌, ◌++◌, drop}
use Rattle.lola_replay_step.specs.Closings.{closed_at}
use Rattle.lola_replay_step.proofs.closes.closed_lives.Given as goal

abbrev pub invariant-loop-life : goal.invariant-loop-life
invariant-loop-life l =
    l.closed.items ++ closed_at l.scene l.fn.number l.stream (drop l.life-index l.lives) ≡ l.initial.closed.items ++ closed_at l.scene l.fn.number l.stream l.lives
