use Rattle.std.proofs.Common.{ℕ, ◌≡◌, drop, flat_map}
use Rattle.lola_model.specs.Wholes.{wholes_from}
use Rattle.lola_types.specs.Around.{setting}
use Rattle.lola_types.specs.Refused.{with_more, refusals_of_whole}
use Rattle.lola_types.proofs.wholes.judge_streams.Given as goal

abbrev pub invariant-loop-number : goal.invariant-loop-number
invariant-loop-number l =
    with_more l.initial.refusals (flat_map (refusals_of_whole (setting l.around)) (wholes_from 0 l.around.streams.now l.around.kinds.now))
    ≡ with_more l.refusals (flat_map (refusals_of_whole (setting l.around)) (wholes_from l.number (drop l.number l.around.streams.now) (drop l.number l.around.kinds.now)))
