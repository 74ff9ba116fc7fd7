use Rattle.std.proofs.Common.{refl}
use Rattle.csv.specs.Writing.{is_blank}
use Rattle.lola_report.proofs.row.row_bytes.Goals as goal

pub write_row-requires : goal.write_row-requires
unfolding is_blank
write_row-requires c =
    let e = c.from_writer-row.ensures in
    record { setup = e.cfg; text = rw (e.wtr, c.new.ensures.items, e.empty) refl; count = e.fields; blank = rw e.wrote refl }
