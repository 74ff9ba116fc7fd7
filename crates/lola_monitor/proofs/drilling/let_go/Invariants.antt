use Rattle.std.proofs.Common.{◌≡◌, All, vec_len}
use Rattle.lola_feed.specs.Feeding.{Working}
use Rattle.lola_monitor.proofs.drilling.let_go.Given as goal

abbrev pub invariant-loop-worker : goal.invariant-loop-worker
invariant-loop-worker l = All (λ (w : Working). w.reader.source.count ≡ 0) l.workers.items → All (λ (w : Working). w.reader.source.count ≡ 0) l.fn.workers.items

abbrev pub decreases-loop-worker : goal.decreases-loop-worker
decreases-loop-worker l = vec_len l.workers
