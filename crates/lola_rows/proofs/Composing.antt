-- For callers: many answers of a reader make the rows of its source.
use Rattle.std.proofs.Common.{◌≡◌, ℕ, ◌++◌, List, [], ◌∷◌, Option, Some, map, refl, sym, ap, ◌∙◌, inl, inr, append_assoc, unwrap_or}
use Rattle.std.proofs.lemmas.Bool.{cases_Bool}
use Rattle.std.proofs.lemmas.List.{append-nil}
use Rattle.lola_model.specs.Model.{is_input, filled_kind}
use Rattle.lola_model.specs.Trace.{input_kinds}
use Rattle.lola_model.specs.declared.journal.Row.{Row}
use Rattle.lola_model.specs.declared.spec.Stream.{Stream}
use Rattle.lola_port.specs.States.{SourceState}
use Rattle.lola_rows.specs.Columns.{inputs_of}
use Rattle.lola_rows.specs.Rows.{SourceEnd, SourceRows, rows_of_source}
use Rattle.lola_rows.specs.Reading.{Ends, Passes, fresh, rest_of, shape_of}

-- a reader that has read nothing still gives all rows of its source
pub rest-fresh : (streams : List Stream) (index most : ℕ) (source : SourceState) (bytes : List ℕ) → source.left ≡ Some bytes
    → rest_of (fresh (shape_of streams index most) source) ≡ Some (rows_of_source (inputs_of streams) index most bytes)
unfolding rows_of_source
rest-fresh streams index most source bytes told = ap (λ (left : Option (List ℕ)). rest_of (fresh (shape_of streams index most) (record source { left = left }))) told

-- no row was taken
pub passes-none : (rest : Option SourceRows) → Passes rest rest []
passes-none rest before is = record { rest = before; left_is = is; rows_are = refl; end_is = refl }

-- rows were taken, and then more
pub passes-more : (old mid new : Option SourceRows) (rows more : List Row) → Passes old mid rows → Passes mid new more → Passes old new (rows ++ more)
passes-more old mid new rows more first second before is =
    let a = first before is in
    let b = second a.rest a.left_is in
    record {
      rest = b.rest;
      left_is = b.left_is;
      rows_are = a.rows_are ∙ ap (λ (l : List Row). rows ++ l) b.rows_are ∙ sym (append_assoc rows more b.rest.rows);
      end_is = a.end_is ∙ b.end_is;
    }

-- all rows were taken, and there is an end behind them
pub passes-all : (old new : Option SourceRows) (rows : List Row) (end : SourceEnd) → Passes old new rows → Ends new end → (before : SourceRows) → old ≡ Some before → (before.rows ≡ rows) × (before.end ≡ end)
passes-all old new rows end first ends before is =
    let a = first before is in
    let b = ends a.rest a.left_is in
    (a.rows_are ∙ ap (λ (l : List Row). rows ++ l) b.0 ∙ append-nil rows, a.end_is ∙ b.1)

-- the kinds of inputs
pub kinds-are : (streams : List Stream) → map (λ i. i.kind) (inputs_of streams) ≡ input_kinds streams
kinds-are [] = refl
kinds-are (s ∷ ss) = elim (cases_Bool (is_input s)) [
  | inl input ↦ rw input (ap (λ ks. filled_kind s ∷ ks) (kinds-are ss))
  | inr other ↦ rw other (kinds-are ss)
]
