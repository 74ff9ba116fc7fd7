use Rattle.std.proofs.Common.{◌≡◌, drop}
use Rattle.lola_types.specs.Refused.{with_more, range_refusals}
use Rattle.lola_types.proofs.wholes.note_ranges.Given as goal

abbrev pub invariant-loop-at : goal.invariant-loop-at
invariant-loop-at l = with_more l.initial.refusals (range_refusals l.places) ≡ with_more l.refusals (range_refusals (drop l.at-index l.places))
