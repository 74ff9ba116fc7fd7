use Rattle.std.proofs.Common.{◌∙◌, sym, ap, subst, refl, take, drop, List, ℕ, Err, Result}
use Rattle.lola_model.specs.declared.source.MalformedKind.{MalformedKind}
use Rattle.lola_rows.specs.Columns.{Columns}
use Rattle.lola_rows.specs.Filling.{line_at}
use Rattle.lola_rows.specs.Places.{layout_columns}
use Rattle.lola_rows.specs.Reading.{Reading, Stops}
use Rattle.lola_rows.specs.Rows.{columns_of_line}
use Rattle.lola_rows.specs.Steps.{Makes, ending_of}
use Rattle.lola_rows.specs.Window.{items}
use Rattle.lola_rows.specs.declared.answer.Ending.{Ending}
use Rattle.lola_rows.proofs.Readers.{heading-flaw, heading-taken, none-given, reading}
use Rattle.lola_rows.proofs.FitFacts.{heading-kinds}
use Rattle.lola_rows.proofs.reader.RowReader.use_heading.Goals as goal

pub returns-in-Err-clause-begins : goal.returns-in-Err-clause-begins
returns-in-Err-clause-begins g c =
    let r = c.args.self.now in
    let i = c.self.inside in
    let e = c.args.extent in
    let same = ap (λ (l : List ℕ). columns_of_line c.deref.result.now (record { size = e.size; text = take e.text l })) c.as_slice.ensures
    ∙ ap (λ l. columns_of_line l (record { size = e.size; text = take e.text (items i.window) })) c.deref.ensures.value
    ∙ ap (λ (x : Reading). columns_of_line x.shape.inputs (line_at e x.held)) c.self.view_is in
    let made = subst (λ (x : Result Columns MalformedKind). Makes layout_columns (Err c.in-Err.flaw) x) same c.in-Err.ensures in
    let new = reading i.form.index i.form.most i.inputs.items i.stage (layout_columns i.layout) i.given (items i.window) (g.S.Source.state i.source) i.ended in
    subst (λ (how : Ending). Stops how r new) (sym c.ending.ensures) (subst (λ (x : Reading). Stops (ending_of c.in-Err.flaw 0) r x) (sym c.self.view_is) (heading-flaw r e c.in-Err.flaw layout_columns c.requires.stage c.requires.front made))

pub invariant_of-self-2 : goal.invariant_of-self-2
invariant_of-self-2 g c =
    let e = c.args.extent in
    let i = c.self.inside in
    let same = ap (λ l. columns_of_line l (record { size = e.size; text = take e.text c.as_slice.result.now })) c.deref.ensures.value in (
      c.self.invariant.0,
      c.self.invariant.1,
      heading-kinds i.inputs.items (record { size = e.size; text = take e.text c.as_slice.result.now }) (layout_columns c.in-Ok.layout) (sym same ∙ c.in-Ok.ensures),
    )

pub returns-clause-begins : goal.returns-clause-begins
returns-clause-begins g c =
    let r = c.args.self.now in
    let i = c.self.inside in
    let e = c.args.extent in
    let same = ap (λ (l : List ℕ). columns_of_line c.deref.result.now (record { size = e.size; text = take e.text l })) c.as_slice.ensures
    ∙ ap (λ l. columns_of_line l (record { size = e.size; text = take e.text (items i.window) })) c.deref.ensures.value
    ∙ ap (λ (x : Reading). columns_of_line x.shape.inputs (line_at e x.held)) c.self.view_is in
    let stage = ap (λ (x : Reading). x.stage) c.self.view_is ∙ c.requires.stage in
    heading-taken r _ e c.requires.stage (sym (ap (λ (x : Reading). x.given) c.self.view_is) ∙ none-given i.stage i.given (layout_columns i.layout) i.inputs.items stage c.self.invariant.2) c.requires.front
    (sym same ∙ c.in-Ok.ensures) (ap (λ (x : Reading). x.shape) c.self.view_is) refl (ap (λ (x : Reading). x.given) c.self.view_is)
    (c.consume.ensures ∙ ap (λ (x : Reading). drop e.whole x.held) c.self.view_is) (ap (λ (x : Reading). x.source) c.self.view_is)
