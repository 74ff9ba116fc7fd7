use Rattle.std.proofs.Common.{◌∙◌, sym, ap, map, List, ℕ, Ok}
use Rattle.csv.specs.Records.{fields_of}
use Rattle.lola_value.specs.Arithmetic.{bytes_equal}
use Rattle.lola_rows.specs.Blanks.{trimmed}
use Rattle.lola_rows.specs.Columns.{is_time_name}
use Rattle.lola_rows.specs.Places.{places_in}
use Rattle.lola_rows.specs.declared.columns.Column.{Column}
use Rattle.lola_rows.proofs.Placing.{column-nowhere, column-there, column-time, column-twice}
use Rattle.lola_rows.proofs.columns.input_column.Goals as goal

pub returns-in-Twice : goal.returns-in-Twice
returns-in-Twice c =
    let titles = map trimmed (fields_of c.args.fields.now) in
    column-twice titles c.args.input.now (sym (ap (λ (n : List ℕ). places_in (bytes_equal n) titles) c.as_bytes-name.ensures) ∙ sym c.find_titles.ensures ∙ c.in-Twice.is)

pub returns-in-Nowhere : goal.returns-in-Nowhere
returns-in-Nowhere c =
    let titles = map trimmed (fields_of c.args.fields.now) in
    ap (λ (x : Column). Ok x) c.column_at.ensures
    ∙ column-nowhere titles c.args.input.now (sym (ap (λ (n : List ℕ). places_in (bytes_equal n) titles) c.as_bytes-name.ensures) ∙ sym c.find_titles.ensures ∙ c.in-Nowhere.is)

pub returns-then-is_time_name : goal.returns-then-is_time_name
returns-then-is_time_name c =
    let titles = map trimmed (fields_of c.args.fields.now) in
    let found = sym (ap (λ (n : List ℕ). places_in (bytes_equal n) titles) c.as_bytes-name.ensures) ∙ sym c.find_titles.ensures ∙ c.in-At.is in
    ap (λ (x : Column). Ok x) c.column_at-then-is_time_name.ensures
    ∙ column-time titles c.args.input.now c.in-At.place found (c.if-is_time_name.ensures ∙ ap is_time_name c.as_bytes-name.ensures)

pub returns-else-is_time_name : goal.returns-else-is_time_name
returns-else-is_time_name c =
    let titles = map trimmed (fields_of c.args.fields.now) in
    let found = sym (ap (λ (n : List ℕ). places_in (bytes_equal n) titles) c.as_bytes-name.ensures) ∙ sym c.find_titles.ensures ∙ c.in-At.is in
    ap (λ (x : Column). Ok x) c.column_at-in-At.ensures
    ∙ column-there titles c.args.input.now c.in-At.place found (c.if-is_time_name.ensures ∙ ap is_time_name c.as_bytes-name.ensures)
