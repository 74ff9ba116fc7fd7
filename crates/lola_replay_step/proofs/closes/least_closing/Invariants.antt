-- The least so far, and of what is left.
use Rattle.std.proofs.Common.{◌≡◌, None, drop}
use Rattle.lola_replay_step.specs.Closings.{least_closing_at}
use Rattle.lola_replay_step.proofs.closes.least_closing.Given as goal

abbrev pub invariant-loop-life : goal.invariant-loop-life
invariant-loop-life l = least_closing_at l.scene l.fn.number l.stream l.least (drop l.life-index l.lives) ≡ least_closing_at l.scene l.fn.number l.stream None l.lives
