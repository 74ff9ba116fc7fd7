use Rattle.std.proofs.Common.{◌≡◌, ◌++◌, drop}
use Rattle.lola_model.specs.Pacings.{pacings_from}
use Rattle.lola_pacing.proofs.pacings.pacings.Given as goal

abbrev pub invariant-loop-stream : goal.invariant-loop-stream
invariant-loop-stream l = record {
  counted : l.number ≡ l._stream-index;
  put : pacings_from l.spawns l.evals l.closes 0 l.streams ≡ l.pacings ++ pacings_from l.spawns l.evals l.closes l.number (drop l._stream-index l.streams);
}
