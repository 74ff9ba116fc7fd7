use Rattle.std.proofs.Common.{◌≡◌, ℕ, ◌<◌, Some, slice_get}
use Rattle.std.specs.Prelude.{vec_len}
use Rattle.std.specs.Vec.{vec_capacity}
use Rattle.lola_store.specs.declared.population.Population.{Population}
use Rattle.lola_store.specs.Paired.{Paired}
use Rattle.lola_store.specs.Rooms.{IsKept, IsReady}
use Rattle.lola_store.proofs.prepare.make_all_ready.Given as goal

-- all is as it was but for room, and so far there is room
abbrev pub invariant-loop-i : goal.invariant-loop-i
invariant-loop-i l = record {
  paired : Paired IsKept l.initial.streams.items l.streams.items;
  len : vec_len l.streams ≡ vec_len l.initial.streams;
  capacity : vec_capacity l.streams ≡ vec_capacity l.initial.streams;
  done : (j : ℕ) (x : Population) → j < l.i → slice_get l.streams.items j ≡ Some x → IsReady x;
}
