use Rattle.std.proofs.Common.{◌≢◌}
use Rattle.csv.specs.Writing.{writer_setup}
use Rattle.csv.specs.declared.writer.QuoteStyle.TheVariants as style
use Rattle.lola_report.proofs.Rows.{field_more}
use Rattle.lola_report.proofs.row.write_bytes.Goals.{in-Ok, in-Err}
use Rattle.lola_report.proofs.row.write_bytes.Goals as goal

pub returns : goal.returns
returns c = elim c.match-write_field.branch [
  | in-Ok w ↦
      rw w.result-is (λ fields has.
      let e = w.in-Ok.ensures in
      let plain : (writer_setup c.args.row.now).style ≢ style.NonNumeric = rw has.setup (λ e. cc e) in
      field_more c.args.row.now c.write_field.new.self fields c.args.bytes.now has e.same (e.text plain) e.count (λ none. e.wrote none plain) e.stays)
  | in-Err w ↦ rw w.result-is tt
]
