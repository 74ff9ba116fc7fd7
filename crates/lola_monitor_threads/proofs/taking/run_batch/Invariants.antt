use Rattle.std.proofs.Common.{◌≡◌, length}
use Rattle.lola_model.specs.Trace.{input_kinds}
use Rattle.lola_monitor_run.specs.Running.{IsSetAs, keeping}
use Rattle.lola_monitor_threads.specs.Takings.{IsPartlyRun, place}
use Rattle.lola_monitor_threads.proofs.Entries.{RanSome}
use Rattle.lola_monitor_threads.proofs.taking.run_batch.Given as goal

abbrev pub invariant-loop-entry : goal.invariant-loop-entry
invariant-loop-entry g l =
    let out = g.K.Sink.state in
    let trace = g.T.Sink.state in
    record {
      kinds : l.inputs.kinds ≡ input_kinds (keeping l.run).state.plan.spec.streams;
      way : IsPartlyRun (place (keeping l.run) (out l.out) (trace l.trace)) l.batch;
      ran : RanSome l.inputs.count (place (keeping l.fn.run) (out l.fn.out) (trace l.fn.trace)) (place (keeping l.run) (out l.out) (trace l.trace)) l.fn.batch l.batch;
      setting : IsSetAs (keeping l.fn.run) (keeping l.run);
    }

abbrev pub decreases-loop-entry : goal.decreases-loop-entry
decreases-loop-entry g l = length l.batch
