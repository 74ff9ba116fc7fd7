use Rattle.std.proofs.Common.{◌≡◌, drop, map}
use Rattle.csv.specs.Records.{fields_of}
use Rattle.lola_rows.specs.Blanks.{trimmed}
use Rattle.lola_rows.specs.Places.{columns_made}
use Rattle.lola_rows.proofs.Placing.{led_columns}
use Rattle.lola_rows.proofs.columns.input_columns.Given as goal

abbrev pub invariant-loop-input : goal.invariant-loop-input
invariant-loop-input l =
    let titles = map trimmed (fields_of l.fields) in
    led_columns l.columns.items (columns_made titles (drop l.input-index l.inputs)) ≡ columns_made titles l.inputs
