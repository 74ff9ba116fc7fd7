use Rattle.std.proofs.Common.{◌≡◌, take, replicate}
use Rattle.lola_step.specs.declared.spawn_result.SpawnResult.TheVariants as spawn_result
use Rattle.lola_step.proofs.scratch.forget_spawn_results.Given as goal

abbrev pub invariant-loop-spawn_result : goal.invariant-loop-spawn_result
invariant-loop-spawn_result l = take l.spawn_result-index l.spawn_results ≡ replicate l.spawn_result-index spawn_result.Fine
