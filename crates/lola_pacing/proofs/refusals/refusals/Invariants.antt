use Rattle.std.proofs.Common.{◌≡◌, ◌++◌, drop}
use Rattle.lola_model.specs.Pacings.{refusals_from}
use Rattle.lola_pacing.proofs.refusals.refusals.Given as goal

abbrev pub invariant-loop-stream : goal.invariant-loop-stream
invariant-loop-stream l = record {
  counted : l.number ≡ l.stream-index;
  put : refusals_from l.streams l.spawns l.evals l.closes l.window_refusals 0 l.streams
      ≡ l.list.items ++ refusals_from l.streams l.spawns l.evals l.closes l.window_refusals l.number (drop l.stream-index l.streams);
}
