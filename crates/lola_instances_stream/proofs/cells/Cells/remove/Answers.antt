use Rattle.std.proofs.Common.{◌<◌, ◌∙◌, None, length, ap, sym, subst, arith, remove}
use Rattle.std.proofs.lemmas.List.{length-set}
use Rattle.lola_instances_stream.specs.Cells.{Line, living}
use Rattle.lola_instances_stream.proofs.Taken.{remove_one, stands_remove, stands_taken}
use Rattle.lola_instances_stream.proofs.cells.Cells.remove.Goals as goal

pub take_out-requires-clause-taken : goal.take_out-requires-clause-taken
take_out-requires-clause-taken c = let st = c.cell_at-cell.ensures in stands_taken c.self.inside.cells.items c.cell_at-cell.result c.args.place st.0 st.1

pub tidy-self-inside-requires-clause-count : goal.tidy-self-inside-requires-clause-count
tidy-self-inside-requires-clause-count c =
    let cells = c.self.inside.cells.items in
    let cell = c.cell_at-cell.result in
    let st = c.cell_at-cell.ensures in
    let e = c.take_out.ensures.cells in
    let n = ap length e in
    let k = length-set cells cell None in
    let m = ap length (ap living e ∙ stands_remove cells cell c.args.place st.0 st.1) in
    let place = subst (λ (l : Line). c.args.place < length l.items) (sym c.self.view_is) c.requires in
    let o = remove_one (living cells) c.args.place place in
    omega (arith, c.self.invariant.count)

pub returns-clause-rest : goal.returns-clause-rest
returns-clause-rest c =
    let cells = c.self.inside.cells.items in
    let st = c.cell_at-cell.ensures in
    let items = c.tidy-self-inside.ensures.items ∙ ap living c.take_out.ensures.cells ∙ stands_remove cells c.cell_at-cell.result c.args.place st.0 st.1 ∙ ap (λ (l : Line). remove l.items c.args.place) c.self.view_is in
    let capacity = ap (λ (l : Line). l.capacity) c.self.view_is in
    let kept = c.tidy-self-inside.ensures.kept ∙ c.take_out.ensures.kept ∙ ap (λ (l : Line). l.is_kept) c.self.view_is in
    λ j. record { items = items j; capacity = capacity j; is_kept = kept j; room = c.tidy-self-inside.new.table.room }
