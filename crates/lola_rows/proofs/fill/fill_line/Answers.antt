use Rattle.std.proofs.Common.{◌∙◌, sym}
use Rattle.lola_rows.specs.Lines.{is_line_end}
use Rattle.lola_rows.specs.Window.{items}
use Rattle.lola_rows.proofs.Pieces.{none-found}
use Rattle.lola_rows.proofs.Seeking.{failed-read}
use Rattle.lola_rows.proofs.fill.fill_line.Goals as goal

pub returns-in-Err : goal.returns-in-Err
returns-in-Err g c =
    let state = g.S.Source.state in
    let kept = c.in-Err.ensures.kept ∙ c.make_room.ensures.items ∙ c.find_line_end.ensures.items in
    failed-read (items c.args.window.now) (items c.loop-at.window) (items c.read_from.new.self) (state c.args.source.now) (state c.loop-at.source) (state c.read_from.new.source)
    c.loop-at.invariant kept (none-found is_line_end (items c.loop-at.window) (sym c.in_default.ensures.value)) c.in-Err.ensures.err
