use Rattle.std.proofs.Common.{◌≡◌, ◌<◌, ℕ, Some, slice_get}
use Rattle.lola_feed.specs.Feeding.{Working}
use Rattle.lola_feed.specs.declared.worker.SourceEnd.TheVariants.{Memory}
use Rattle.lola_monitor_threads.proofs.run.any_out_of_memory.Given as goal

abbrev pub invariant-loop-worker : goal.invariant-loop-worker
invariant-loop-worker g l = (k : ℕ) (w : Working) → k < l.worker-index → slice_get l.workers k ≡ Some w → w.end ≡ Some Memory → ⊥
