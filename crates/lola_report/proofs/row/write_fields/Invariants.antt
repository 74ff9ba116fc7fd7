use Rattle.std.proofs.Common.{◌++◌, ℕ, List, map, take}
use Rattle.lola_model.specs.Trace.{field_bytes}
use Rattle.lola_report.specs.Rows.{HasFields}
use Rattle.lola_report.proofs.row.write_fields.Given as goal

abbrev pub invariant-loop-field : goal.invariant-loop-field
invariant-loop-field l = (front : List (List ℕ)) → HasFields l.initial.row front → HasFields l.row (front ++ map field_bytes (take l.field-index l.fields))
