use Rattle.std.proofs.Common.{◌≡◌, ◌∙◌, Some, sym, ap, slice_get}
use Rattle.lola_instances_stream.specs.Cells.{Line}
use Rattle.lola_instances_stream.proofs.Taken.{stands_get, stands_place, stands_taken}
use Rattle.lola_instances_stream.proofs.cells.Cells.get.Goals as goal

pub slot_in-requires : goal.slot_in-requires
slot_in-requires c = let st = c.cell_at-cell.ensures in stands_taken c.self.inside.cells.items c.cell_at-cell.result c.args.place st.0 st.1

pub returns : goal.returns
returns c =
    let cells = c.self.inside.cells.items in
    let st = c.cell_at-cell.ensures in
    let got = stands_get cells c.cell_at-cell.result c.args.place st.0 st.1 in
    let same : st.0 ≡ c.slot_in.result.now = (let e = c.slot_in.ensures in cc) in
    ap (λ (l : Line). slice_get l.items c.args.place) (sym c.self.view_is)
    ∙ stands_place cells c.cell_at-cell.result c.args.place st.0 st.1
    ∙ ap Some same
