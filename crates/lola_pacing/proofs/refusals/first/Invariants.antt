use Rattle.std.proofs.Common.{◌≡◌, drop}
use Rattle.lola_model.specs.Refusals.{earlier, first_of}
use Rattle.lola_pacing.proofs.refusals.first.Given as goal

abbrev pub invariant-loop-refusal : goal.invariant-loop-refusal
invariant-loop-refusal l = earlier l.found (first_of (drop l.refusal-index l.list)) ≡ first_of l.list
