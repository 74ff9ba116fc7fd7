use Rattle.std.proofs.Common.{◌≡◌, ℕ, ◌<◌, Some, slice_get}
use Rattle.std.specs.Prelude.{vec_len}
use Rattle.std.specs.Vec.{vec_capacity}
use Rattle.lola_store.specs.declared.instance.Instance.{Instance}
use Rattle.lola_store.specs.Paired.{Paired}
use Rattle.lola_store.specs.Rooms.{IsAlike, IsRoomy}
use Rattle.lola_store.proofs.prepare.make_each_room.Given as goal

-- all is as it was but for room, and so far there is room
abbrev pub invariant-loop-i : goal.invariant-loop-i
invariant-loop-i l = record {
  paired : Paired IsAlike l.initial.lives.items l.lives.items;
  len : vec_len l.lives ≡ vec_len l.initial.lives;
  capacity : vec_capacity l.lives ≡ vec_capacity l.initial.lives;
  done : (j : ℕ) (x : Instance) → j < l.i → slice_get l.lives.items j ≡ Some x → IsRoomy x;
}
