use Rattle.std.specs.Prelude.{◌≡◌, ◌≤◌, None}
use Rattle.lola_engine.specs.Engines.{IsEngine}
use Rattle.lola_rows.specs.Reading.{shape_of}
use Rattle.lola_engine_tests.proofs.driving.run_over.Given as goal

abbrev pub invariant-loop : goal.invariant-loop
invariant-loop g l = record {
  engine : IsEngine l.engine.state (g.S.StreamStore.seen l.engine.store);
  merged : l.engine.state.merged ≡ l.merged;
  rows : l.engine.state.rows ≤ l.counter;
  shape : l.reader.shape ≡ shape_of l.engine.state.plan.spec.streams 0 10000;
  going : l.reader.ended ≡ None;
}
