use Rattle.lola_monitor_threads.specs.Seated.{IsSeated, WentOn, seated}
use Rattle.lola_monitor_threads.proofs.seated.finish_all_owed.Given as goal

abbrev pub invariant-loop : goal.invariant-loop
invariant-loop g l = record {
  goes : (goal.iterator-loop g).can_next l.iterator' × (goal.iterator-loop g).is_finite l.iterator';
  went_on : WentOn (seated l.worker l.fn.desk.seat) (seated l.worker l.desk.seat);
  at : IsSeated l.worker l.desk;
}
