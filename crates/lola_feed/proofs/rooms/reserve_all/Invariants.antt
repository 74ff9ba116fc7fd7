use Rattle.std.proofs.Common.{◌≡◌, ◌≤◌, ◌<◌, ℕ, Some, length, slice_get, vec_capacity}
use Rattle.lola_rows.specs.Reading.{shape_of}
use Rattle.lola_feed.proofs.rooms.reserve_all.Given as goal

abbrev pub invariant-loop-source : goal.invariant-loop-source
invariant-loop-source g l = record {
  many : length l.rooms.items ≡ l.source;
  each : (s : ℕ) → s < l.source → slice_get l.rooms.items s ≡ Some (shape_of l.plan.spec.streams s l.most);
  space : l.sources ≤ vec_capacity l.rooms;
}
