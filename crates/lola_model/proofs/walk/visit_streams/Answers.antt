use Rattle.std.proofs.Common.{subst, sym, ◌+◌, List, drop}
use Rattle.lola_model.specs.Parts.{listed_stream, listed_streams}
use Rattle.lola_model.specs.Visits.{parts_of, TakesAll}
use Rattle.lola_model.specs.declared.part.ReadPart.{ReadPart}
use Rattle.lola_model.proofs.Taken.{takes_both, streams_left}
use Rattle.lola_model.proofs.walk.visit_streams.Goals as goal

pub loop-stream-preserved : goal.loop-stream-preserved
loop-stream-preserved g c = λ new h.
    let one = listed_stream parts_of c.stream-item.result in
    let others = listed_streams parts_of (drop (c.loop-stream.stream-index + 1) c.args.streams.now) in
    let left = streams_left c.args.streams.now c.loop-stream.stream-index c.stream-item.result c.loop-stream-test.true c.stream-item.is in
    let takes = g.V.PartVisitor.takes c.args.visitor.now in
    c.loop-stream.invariant new (subst (λ (ps : List ReadPart). TakesAll takes ps c.loop-stream.target new) (sym left) (takes_both takes one others c.loop-stream.target c.visit_stream.new.target new c.in_ok-visit_stream.ensures h))
