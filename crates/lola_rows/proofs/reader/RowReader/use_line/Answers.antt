use Rattle.std.proofs.Common.{◌∙◌, ◌+◌, sym, ap, subst, take, drop, List, ℕ, Err, Result}
use Rattle.lola_model.specs.declared.journal.Row.{Row}
use Rattle.lola_model.specs.declared.source.MalformedKind.{MalformedKind}
use Rattle.lola_rows.specs.Places.{layout_columns}
use Rattle.lola_rows.specs.Reading.{Reading, Stops}
use Rattle.lola_rows.specs.Rows.{row_of_line}
use Rattle.lola_rows.specs.Steps.{Makes, ending_of}
use Rattle.lola_rows.specs.Window.{items}
use Rattle.lola_rows.specs.declared.answer.Ending.{Ending}
use Rattle.lola_rows.proofs.Readers.{InStep, kinds-in-step, line-flaw, line-gave, reading, row_at}
use Rattle.lola_rows.proofs.reader.RowReader.use_line.Goals as goal

pub returns-in-Ok-clause-takes : goal.returns-in-Ok-clause-takes
returns-in-Ok-clause-takes g c =
    let r = c.args.self.now in
    let i = c.self.inside in
    let e = c.args.extent in
    let same = ap (λ (l : List ℕ). row_of_line i.form.index i.form.most (layout_columns i.layout) (i.given + 1) (record { size = e.size; text = take e.text l })) c.as_slice.ensures
    ∙ ap (λ (x : Reading). row_at x e) c.self.view_is in
    let kinds = kinds-in-step r (subst InStep c.self.view_is c.self.invariant.2) c.requires.stage in
    line-gave r _ e c.in-Ok.row c.requires.stage kinds c.requires.front (sym same ∙ c.in-Ok.ensures) (ap (λ (x : Reading). x.shape) c.self.view_is) c.stage_behind-self-inside.ensures (ap (λ (x : Reading). x.columns) c.self.view_is)
    (ap (λ (x : Reading). x.given + 1) c.self.view_is) (c.consume.ensures ∙ ap (λ (x : Reading). drop e.whole x.held) c.self.view_is) (ap (λ (x : Reading). x.source) c.self.view_is)

pub returns-in-Err-clause-takes : goal.returns-in-Err-clause-takes
returns-in-Err-clause-takes g c =
    let r = c.args.self.now in
    let i = c.self.inside in
    let e = c.args.extent in
    let same = ap (λ (l : List ℕ). row_of_line i.form.index i.form.most (layout_columns i.layout) (i.given + 1) (record { size = e.size; text = take e.text l })) c.as_slice.ensures
    ∙ ap (λ (x : Reading). row_at x e) c.self.view_is in
    let made = subst (λ (x : Result Row MalformedKind). Makes (λ (row : Row). row) (Err c.in-Err.flaw) x) same c.in-Err.ensures in
    let given = ap (λ (x : Reading). x.given + 1) c.self.view_is in
    let new = reading i.form.index i.form.most i.inputs.items i.stage (layout_columns i.layout) i.given (items i.window) (g.S.Source.state i.source) i.ended in
    subst (λ (how : Ending). Stops how r new) (sym (c.ending.ensures ∙ ap (ending_of c.in-Err.flaw) given))
    (subst (λ (x : Reading). Stops (ending_of c.in-Err.flaw (r.given + 1)) r x) (sym c.self.view_is) (line-flaw r e c.in-Err.flaw c.requires.stage c.requires.front made))
