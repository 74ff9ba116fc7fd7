use Rattle.std.proofs.Common.{◌≡◌, ◌+◌, List, Option, length, refl, sym, subst, arith}
use Rattle.lola_instances_one.specs.Holdings.{Holdings}
use Rattle.lola_instances_stream.specs.Cells.{AreKnown, living}
use Rattle.lola_instances_stream.proofs.Known.{known_longer, long_longer}
use Rattle.lola_instances_stream.proofs.cells.Cells.make_room.Goals as goal

pub invariant_of-self : goal.invariant_of-self
invariant_of-self c =
    let was = c.self.invariant in
    let cells = c.self.inside.cells.items in
    let e = sym c.reserve.ensures.cells in
    let more = long_longer c.self.inside.flags c.reserve.new.flags c.reserve.ensures.flags in
    record {
      known = subst (λ (cs : List (Option Holdings)). AreKnown cs c.reserve.new.flags c.self.inside.table) e (known_longer cells c.self.inside.flags c.reserve.new.flags c.self.inside.table was.known c.reserve.ensures.flags);
      count = subst (λ (cs : List (Option Holdings)). c.self.inside.empty + length (living cs) ≡ length cs) e was.count;
      room = omega (arith, was.room, c.reserve.ensures.memory);
      long = omega (arith, was.long);
    }

pub invariant_of-self-in-Ok : goal.invariant_of-self-in-Ok
invariant_of-self-in-Ok c =
    let was = c.self.invariant in
    let cells = c.self.inside.cells.items in
    let e = sym c.reserve.ensures.cells in
    let n = subst (λ (cs : List (Option Holdings)). length cells ≡ length cs) e refl in
    record {
      known = subst (λ (cs : List (Option Holdings)). AreKnown cs c.reserve.new.flags c.self.inside.table) e (known_longer cells c.self.inside.flags c.reserve.new.flags c.self.inside.table was.known c.reserve.ensures.flags);
      count = subst (λ (cs : List (Option Holdings)). c.self.inside.empty + length (living cs) ≡ length cs) e was.count;
      room = omega (arith, c.in-Ok.ensures.ok, c.len-wanted.ensures);
      long = omega (arith, c.in-Ok.ensures.bits, c.len-wanted.ensures);
    }
