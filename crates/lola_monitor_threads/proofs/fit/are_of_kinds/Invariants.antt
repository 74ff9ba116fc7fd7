use Rattle.std.proofs.Common.{drop}
use Rattle.std.specs.List.{AllZip}
use Rattle.std.specs.Prelude.{◌↔◌}
use Rattle.lola_model.specs.Trace.{IsFieldOf}
use Rattle.lola_monitor_threads.proofs.fit.are_of_kinds.Given as goal

abbrev pub invariant-loop-at : goal.invariant-loop-at
invariant-loop-at l = AllZip IsFieldOf l.kinds l.fields ↔ AllZip IsFieldOf (drop l.at l.kinds) (drop l.at l.fields)
