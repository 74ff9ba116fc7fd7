use Rattle.std.proofs.Common.{ℕ, ◌<◌, ◌≤◌, ◌^◌, get_or}
use Rattle.lola_step.proofs.scratch.layer_count.Given as goal

abbrev pub invariant-loop-layer : goal.invariant-loop-layer
invariant-loop-layer l = (1 ≤ l.count) × (l.count ≤ 2 ^ 32) × ((k : ℕ) → k < l.layer-index → get_or l.layers k 0 < l.count)
