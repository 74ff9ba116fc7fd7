use Rattle.std.proofs.Common.{◌≡◌, drop, flat_map}
use Rattle.lola_types.specs.Refused.{with_more, constant_refusals}
use Rattle.lola_types.proofs.wholes.judge_constants.Given as goal

abbrev pub invariant-loop-constant : goal.invariant-loop-constant
invariant-loop-constant l = with_more l.initial.refusals (flat_map constant_refusals l.constants) ≡ with_more l.refusals (flat_map constant_refusals (drop l.constant-index l.constants))
