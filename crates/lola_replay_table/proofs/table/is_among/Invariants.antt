-- None of those so far has these parameters.
use Rattle.std.proofs.Common.{◌≡◌, drop}
use Rattle.lola_replay_table.specs.Clauses.{is_known_among}
use Rattle.lola_replay_table.proofs.table.is_among.Given as goal

abbrev pub invariant-loop-life : goal.invariant-loop-life
invariant-loop-life l = is_known_among l.params (drop l.life-index l.lives) ≡ is_known_among l.params l.lives
