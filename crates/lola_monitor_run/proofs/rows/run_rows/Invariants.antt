use Rattle.std.proofs.Common.{◌≡◌, ℕ}
use Rattle.lola_monitor_run.specs.Running.{Received, keeping}
use Rattle.lola_monitor_run.specs.Feeds.{AreInPlace, IsIdle, supplies_of, world}
use Rattle.lola_monitor_run.specs.Turning.{SoFar, left_of}
use Rattle.lola_monitor_run.proofs.rows.run_rows.Given as goal

abbrev pub invariant-loop-stop : goal.invariant-loop-stop
invariant-loop-stop g l =
    let out = g.K.Sink.state in
    let trace = g.T.Sink.state in
    record {
      so_far : (round : ℕ) × SoFar (world (keeping l.fn.run) (supplies_of l.fn.feed) (out l.fn.out) (trace l.fn.trace)) round 0 (world (keeping l.run) (supplies_of l.feed) (out l.out) (trace l.trace));
      idle : IsIdle l.feed (keeping l.run);
      places : AreInPlace l.fn.feed.workers l.feed.workers;
      steps_before : (keeping l.run).state.behind ≡ (keeping l.fn.run).state.behind;
      received : Received (out l.fn.out) (out l.out);
      traced : Received (trace l.fn.trace) (trace l.trace);
    }

abbrev pub decreases-loop-stop : goal.decreases-loop-stop
decreases-loop-stop g l = left_of (supplies_of l.feed)
