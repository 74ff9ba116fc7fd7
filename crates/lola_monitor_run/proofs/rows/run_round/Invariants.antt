use Rattle.std.proofs.Common.{◌≡◌, length}
use Rattle.lola_monitor_run.specs.Running.{IsSetAs, Received, keeping}
use Rattle.lola_monitor_run.specs.Feeds.{AreInPlace, IsIdle, supplies_of, world}
use Rattle.lola_monitor_run.specs.Turning.{InRound}
use Rattle.lola_monitor_run.proofs.rows.run_round.Given as goal

abbrev pub invariant-loop-source : goal.invariant-loop-source
invariant-loop-source g l =
    let out = g.K.Sink.state in
    let trace = g.T.Sink.state in
    record {
      round : InRound l.source l.moved (world (keeping l.fn.run) (supplies_of l.fn.feed) (out l.fn.out) (trace l.fn.trace)) (world (keeping l.run) (supplies_of l.feed) (out l.out) (trace l.trace));
      count : l.count ≡ length l.fn.feed.workers;
      idle : IsIdle l.feed (keeping l.run);
      places : AreInPlace l.fn.feed.workers l.feed.workers;
      setting : IsSetAs (keeping l.fn.run) (keeping l.run);
      steps_before : (keeping l.run).state.behind ≡ (keeping l.fn.run).state.behind;
      received : Received (out l.fn.out) (out l.out);
      traced : Received (trace l.fn.trace) (trace l.trace);
    }
