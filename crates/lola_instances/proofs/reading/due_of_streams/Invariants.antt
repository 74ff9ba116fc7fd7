-- The first so far, and that of the streams to come, make the first of all.
use Rattle.std.proofs.Common.{◌≡◌, drop}
use Rattle.lola_model.specs.NextStep.{earlier}
use Rattle.lola_instances_stream.specs.Dues.{in_time}
use Rattle.lola_instances.specs.Dues.{due_of_crowds}
use Rattle.lola_instances.proofs.reading.due_of_streams.Given as goal

abbrev pub invariant-loop-lives : goal.invariant-loop-lives
invariant-loop-lives l = earlier l.first (in_time (due_of_crowds l.from (drop l.lives-index l.streams))) ≡ in_time (due_of_crowds l.from l.streams)
