use Rattle.std.proofs.Common.{◌≡◌, drop}
use Rattle.csv.specs.Records.{fields_of}
use Rattle.lola_rows.specs.Rows.{values_of}
use Rattle.lola_rows.proofs.RowFacts.{led_values}
use Rattle.lola_rows.proofs.rows.values_of.Given as goal

abbrev pub invariant-loop-column : goal.invariant-loop-column
invariant-loop-column l = led_values l.values (values_of (fields_of l.fields) (drop l.column-index l.columns)) ≡ values_of (fields_of l.fields) l.columns
