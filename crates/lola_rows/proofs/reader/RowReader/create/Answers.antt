use Rattle.std.proofs.Common.{◌∙◌, ap}
use Rattle.lola_rows.specs.Reading.{Shape, fresh, rest_of}
use Rattle.lola_rows.proofs.Composing.{rest-fresh}
use Rattle.lola_rows.proofs.reader.RowReader.create.Goals as goal

pub returns-clause-told : goal.returns-clause-told
returns-clause-told g c = λ bytes told.
    ap rest_of (c.with.ensures ∙ ap (λ (s : Shape). fresh s (g.S.Source.state c.args.source)) c.in_ok-empty.ensures)
    ∙ rest-fresh c.args.plan.now.spec.streams c.args.index c.args.most (g.S.Source.state c.args.source) bytes told
