use Rattle.std.proofs.Common.{subst, refl}
use Rattle.lola_rows.specs.Places.{layout_columns}
use Rattle.lola_rows.specs.Reading.{Reading}
use Rattle.lola_rows.specs.Steps.{Fills}
use Rattle.lola_rows.specs.Window.{items}
use Rattle.lola_rows.proofs.Readers.{fills, reading}
use Rattle.lola_rows.proofs.reader.RowReader.fill.Goals as goal

pub returns-clause-fills : goal.returns-clause-fills
returns-clause-fills g c =
    let i = c.self.inside in
    let old = reading i.form.index i.form.most i.inputs.items i.stage (layout_columns i.layout) i.given (items i.window) (g.S.Source.state i.source) i.ended in
    let new = reading i.form.index i.form.most i.inputs.items i.stage (layout_columns i.layout) i.given (items c.fill_line.new.window) (g.S.Source.state c.fill_line.new.source) i.ended in
    subst (λ (x : Reading). Fills c.fill_line.result x new) c.self.view_is (fills old new c.fill_line.result (record { shape = refl; stage = refl; columns = refl; given = refl }) c.fill_line.ensures)
