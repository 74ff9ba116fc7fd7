use Rattle.std.proofs.Common.{◌∙◌, sym, ap, subst, map, length, List, Ok, Err, Result, Vec, Global}
use Rattle.csv.specs.Records.{fields_of}
use Rattle.lola_model.specs.declared.source.MalformedKind.{MalformedKind}
use Rattle.lola_rows.specs.Blanks.{trimmed}
use Rattle.lola_rows.specs.Columns.{Columns}
use Rattle.lola_rows.specs.Places.{layout_columns}
use Rattle.lola_rows.specs.Rows.{then_value}
use Rattle.lola_rows.specs.Steps.{Makes}
use Rattle.lola_rows.specs.declared.columns.Column.{Column}
use Rattle.lola_rows.proofs.Placing.{layout-none, layout-one, titles-count, makes-then}
use Rattle.lola_rows.proofs.columns.read_layout.Goals as goal

pub returns-in_default : goal.returns-in_default
returns-in_default c = layout-none (map trimmed (fields_of c.args.fields.now)) c.args.inputs.now (λ i is. c.in_default.not-At i (c.find_titles.ensures ∙ is))

pub returns-in-Ok : goal.returns-in-Ok
returns-in-Ok c =
    let fields = fields_of c.args.fields.now in
    layout-one (map trimmed fields) c.args.inputs.now c.in-At.time (sym c.find_titles.ensures ∙ c.in-At.is)
    ∙ ap (λ (r : Result (List Column) MalformedKind). then_value r (λ cs. Ok (record { width = length (map trimmed fields); time = c.in-At.time; inputs = cs }))) c.in-Ok.ensures
    ∙ ap (λ n. Ok (record { width = n; time = c.in-At.time; inputs = c.in-Ok.columns.items })) (titles-count fields ∙ sym c.len.ensures)

pub returns-in-Err : goal.returns-in-Err
returns-in-Err c =
    let titles = map trimmed (fields_of c.args.fields.now) in
    subst (λ (r : Result Columns MalformedKind). Makes layout_columns (Err c.in-Err.flaw) r) (sym (layout-one titles c.args.inputs.now c.in-At.time (sym c.find_titles.ensures ∙ c.in-At.is)))
    (makes-then (λ (columns : Vec Column Global). columns.items) layout_columns c.in-Err.flaw _ _ c.in-Err.ensures)
