-- A drill that met a fault at a row goes on to all rows of both sources, and has that fault there too.
use Rattle.std.proofs.Common.{◌≡◌, ◌⊎◌, ℕ, List, [], ◌∷◌, ◌++◌, Some, None, inl, inr, sym, ap, ◌∙◌, append_assoc}
use Rattle.lola_model.specs.Faults.{RunFault}
use Rattle.lola_model.specs.Journal.{rows_of}
use Rattle.lola_model.specs.declared.journal.Entry.{Entry}
use Rattle.lola_report.specs.declared.end.EndLine.{EndLine}
use Rattle.lola_monitor_command.specs.declared.command.DrillCommand.{DrillCommand}
use Rattle.lola_feed.specs.Drills.{drill_bytes}
use Rattle.lola_rows.specs.Columns.{inputs_of}
use Rattle.lola_engine.specs.Engines.{accepted_entry}
use Rattle.lola_engine.proofs.RunsBegun as begun
use Rattle.lola_monitor_run.specs.Verdicts.{IsRowFault, Setting, fault_in, most_rows, settled_fault_in}
use Rattle.lola_monitor_run.proofs.Fronts.{fault_stays}
use Rattle.lola_monitor.specs.Drilling.{DrillRun, IsAtDrillDeadline, IsDrillFault, TookAll, drill_rows, drill_setting}
use Rattle.lola_monitor.proofs.AllRounds.{GoesOn, goes_on}
use Rattle.lola_monitor.proofs.Drilled.{of_two}
use Rattle.lola_monitor.proofs.SourceNumbers.{AreOf, rows_are_of}

-- the fault at the last row of a journal is the first of each journal that begins so
row_fault_stays : (s : Setting) (journal more : List Entry) (fault : RunFault) → IsRowFault s journal fault → fault_in s (journal ++ more) ≡ Some fault
row_fault_stays s journal more fault at =
    let settled : settled_fault_in s (at.front ++ accepted_entry at.row ∷ []) ≡ Some fault = ap (settled_fault_in s) (sym at.whole) ∙ at.settled in
    let joined : journal ++ more ≡ at.front ++ accepted_entry at.row ∷ more =
    ap (λ (es : List Entry). es ++ more) at.whole ∙ append_assoc at.front (accepted_entry at.row ∷ []) more in
    fault_stays s (journal ++ more) fault
    (ap (settled_fault_in s) joined ∙ begun.fault_stays s.plan s.start at.front at.row more fault settled)

-- a drill that took all rows of both, and has this fault
pub record IsWholeWith (d : DrillCommand) (fault : RunFault) : Type 0 where
  pub run : DrillRun d
  pub all : TookAll d run
  pub is_fault : fault_in (drill_setting run.plan) run.journal ≡ Some fault

module _ (d : DrillCommand) (run : DrillRun d) where
  rows_are : (s : ℕ) → AreOf s (drill_rows run.plan d s).rows
  rows_are s = rows_are_of (inputs_of run.plan.spec.streams) s most_rows (drill_bytes d.number s d.rows)

  goes : GoesOn None (drill_rows run.plan d 0).rows (drill_rows run.plan d 1).rows run.journal
  goes = goes_on (drill_rows run.plan d 0).rows (drill_rows run.plan d 1).rows (rows_are 0) (rows_are 1) None run.journal run.legal run.turns

  -- the drill that takes the rows behind those of this one
  abbrev whole : DrillRun d
  whole = record {
    plan = run.plan;
    is_plan = run.is_plan;
    accepted = run.accepted;
    one_model = run.one_model;
    journal = run.journal ++ goes.more;
    legal = goes.legal;
    sources = goes.sources;
    turns = goes.turns;
  }

  whole_all : TookAll d whole
  whole_all = of_two (λ s. (drill_rows run.plan d s).rows ≡ rows_of s (run.journal ++ goes.more)) (sym goes.zeroth_rows) (sym goes.first_rows)

  whole_by : (fault : RunFault) → fault_in (drill_setting run.plan) run.journal ≡ Some fault → IsRowFault (drill_setting run.plan) run.journal fault ⊎ IsAtDrillDeadline d run → IsWholeWith d fault
  whole_by fault is (inl at) = record { run = whole; all = whole_all; is_fault = row_fault_stays (drill_setting run.plan) run.journal goes.more fault at }
  whole_by fault is (inr at) = record { run = run; all = at.rows; is_fault = is }

pub whole_with_fault : (d : DrillCommand) (line : EndLine) (bad : IsDrillFault d line) → IsWholeWith d bad.fault
whole_with_fault d line bad = whole_by d bad.run bad.fault bad.is_fault bad.stands
