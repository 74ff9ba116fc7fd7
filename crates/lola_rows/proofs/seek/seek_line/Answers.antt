use Rattle.std.proofs.Common.{◌∙◌, ap, length, take, List, ℕ, arith}
use Rattle.lola_rows.specs.Lines.{without_return}
use Rattle.lola_rows.specs.Window.{items}
use Rattle.lola_rows.proofs.Pieces.{none-found}
use Rattle.lola_rows.specs.Lines.{is_line_end}
use Rattle.lola_rows.proofs.Seeking.{brought-sought, finds-last, front-line, lines-long, lost-after, skipped}
use Rattle.lola_rows.proofs.seek.seek_line.Goals as goal

pub returns-then-text-gt0 : goal.returns-then-text-gt0
returns-then-text-gt0 g c =
    let state = g.S.Source.state in
    let held = items c.fill_line.new.window in
    let fills = c.in-Line.ensures in
    let text = c.text_length-text.ensures ∙ ap (λ (l : List ℕ). length (without_return (take c.in-Line.size l))) c.as_slice.ensures in (
      brought-sought (items c.args.window.now) (items c.loop-size.window) held (state c.args.source.now) (state c.loop-size.source) (state c.fill_line.new.source) c.loop-size.invariant fills.1,
      front-line held (state c.fill_line.new.source).left c.in-Line.size c.text_length-text.result fills.0 text c.if-text-gt0.true,
    )

pub loop-size-preserved : goal.loop-size-preserved
loop-size-preserved g c =
    let state = g.S.Source.state in
    let held = items c.fill_line.new.window in
    let fills = c.in-Line.ensures in
    let text = c.text_length-text.ensures ∙ ap (λ (l : List ℕ). length (without_return (take c.in-Line.size l))) c.as_slice.ensures in
    let sought = brought-sought (items c.args.window.now) (items c.loop-size.window) held (state c.args.source.now) (state c.loop-size.source) (state c.fill_line.new.source) c.loop-size.invariant fills.1 in
    skipped (items c.args.window.now) held (items c.consume.new.self) (state c.args.source.now) (state c.fill_line.new.source) c.in-Line.size sought fills.0 (omega (arith, text, c.if-text-gt0.false)) c.consume.ensures

pub returns-in-Last : goal.returns-in-Last
returns-in-Last g c =
    let state = g.S.Source.state in
    let held = items c.fill_line.new.window in
    let fills = c.in-Last.ensures in
    finds-last (items c.args.window.now) held (state c.args.source.now) (state c.fill_line.new.source) c.last_line.result
    (brought-sought (items c.args.window.now) (items c.loop-size.window) held (state c.args.source.now) (state c.loop-size.source) (state c.fill_line.new.source) c.loop-size.invariant fills.2)
    (none-found is_line_end held fills.0) fills.1 c.last_line.ensures

pub returns-in-TooLong : goal.returns-in-TooLong
returns-in-TooLong g c =
    let state = g.S.Source.state in
    let held = items c.fill_line.new.window in
    let fills = c.in-TooLong.ensures in (
      brought-sought (items c.args.window.now) (items c.loop-size.window) held (state c.args.source.now) (state c.loop-size.source) (state c.fill_line.new.source) c.loop-size.invariant fills.2,
      λ bytes told. lines-long held bytes (none-found is_line_end held fills.0) fills.1,
    )

pub returns-in-ReadFailed : goal.returns-in-ReadFailed
returns-in-ReadFailed g c =
    let state = g.S.Source.state in
    lost-after (items c.args.window.now) (items c.loop-size.window) (items c.fill_line.new.window) (state c.args.source.now) (state c.loop-size.source) (state c.fill_line.new.source) c.loop-size.invariant c.in-ReadFailed.ensures
