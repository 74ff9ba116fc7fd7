use Rattle.std.proofs.Common.{◌≡◌, ◌++◌, ◌+◌, ℕ, map, slice_get, Some}
use Rattle.lola_intake.specs.Turns.{IsIdle}
use Rattle.lola_intake.specs.Intakes.{Shown}
use Rattle.lola_intake.proofs.Telling.{knows}
use Rattle.lola_intake.proofs.intake.Intake.end.Given as goal

abbrev pub invariant-loop-seat : goal.invariant-loop-seat
invariant-loop-seat l = record {
  goes : (goal.iterator-loop-seat).can_next l.seat-iterator × (goal.iterator-loop-seat).is_finite l.seat-iterator;
  own : l.first.table_id ≡ l.self-inside.lock.table.shared.table_id;
  first : (l.first.id ≡ 0) × IsIdle l.first;
  same : (l.first.me.0.setting ≡ l.initial.first.me.0.setting) × (l.first.me.0.caller ≡ l.initial.first.me.0.caller) × (l.first.me.0.made ≡ l.initial.first.me.0.made)
      × (l.first.me.0.seen ≡ l.initial.first.me.0.seen) × (l.first.me.0.mine ≡ l.initial.first.me.0.mine);
  split : l.yielded ++ l.seat-iterator.rest.items ≡ l.initial.seat-iterator.rest.items;
  right : (s : ℕ) (p : Shown) → slice_get l.yielded s ≡ Some p → p.caller ≡ p.source + 1;
  known : l.first.me.0.known ≡ map knows l.yielded;
}
