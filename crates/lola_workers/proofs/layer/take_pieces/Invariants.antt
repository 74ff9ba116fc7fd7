-- What the share has are outcomes of its tasks.
use Rattle.lola_workers.specs.Shares.{IsShare}
use Rattle.lola_workers.proofs.layer.take_pieces.Given as goal

abbrev pub invariant-loop : goal.invariant-loop
invariant-loop g l = IsShare (g.J.Job.gives l.job) l.share
