use Rattle.lola_replay.proofs.TrackingLemmas.{none-tallied, none-tracked}
use Rattle.lola_replay.proofs.tracking.untracked.Goals as goal

pub returns-clause-tracks : goal.returns-clause-tracks
returns-clause-tracks c = none-tracked c.args.start c.opening_time-merged.result c.opening_time-merged.ensures

pub returns-clause-tallied : goal.returns-clause-tallied
returns-clause-tallied c = none-tallied c.args.start c.opening_time-merged.result
