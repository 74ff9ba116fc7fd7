-- A search of the titles of a heading, as far as it goes.
use Rattle.std.specs.Prelude.{ℕ, ◌+◌, List, [], ◌∷◌, Result, Ok, Err, Bool, if◌then◌else◌, unwrap_or}
use Rattle.csv.specs.Records.{field_at}
use Rattle.lola_value.specs.Arithmetic.{bytes_equal}
use Rattle.lola_model.specs.declared.source.MalformedKind.{MalformedKind}
use Rattle.lola_model.specs.declared.source.MalformedKind.TheVariants as malformed
use Rattle.lola_rows.specs.Blanks.{trimmed}
use Rattle.lola_rows.specs.Columns.{Columns, column_of, is_time_name, is_twice}
use Rattle.lola_rows.specs.declared.columns.Column.{Column}
use Rattle.lola_rows.specs.declared.columns.Input.{Input}
use Rattle.lola_rows.specs.Rows.{then_value}
use Rattle.lola_rows.specs.declared.columns.Layout.{Layout}
use Rattle.lola_rows.specs.declared.columns.Places.{Places}
use Rattle.lola_rows.specs.declared.columns.Places.TheVariants as places
use Rattle.lola_rows.specs.declared.columns.Wanted.{Wanted}
use Rattle.lola_rows.specs.declared.columns.Wanted.TheVariants as wanted

-- the columns that a layout has
abbrev pub layout_columns : Layout → Columns
layout_columns l = record { width = l.width; time = l.time; inputs = l.columns.items }

-- a title is the one that is sought
abbrev pub is_wanted : Wanted → List ℕ → Bool
is_wanted wanted.Time title = is_time_name title
is_wanted (wanted.Input name) title = bytes_equal name.now title

-- the title at a place
abbrev pub title_at : List (List ℕ) → ℕ → List ℕ
title_at fields place = trimmed (unwrap_or (field_at fields place) [])

-- what is known after one more title
abbrev pub after_title : Places → Bool → ℕ → Places
after_title places.Nowhere hit place = if hit then places.At place else places.Nowhere
after_title (places.At first) hit place = if hit then places.Twice else places.At first
after_title places.Twice hit place = places.Twice

-- what is known after these titles, the first of which stands at a place
abbrev pub places_from : (List ℕ → Bool) → Places → ℕ → List (List ℕ) → Places
places_from p found place [] = found
places_from p found place (title ∷ titles) = places_from p (after_title found (p title) place) (place + 1) titles

abbrev pub places_in : (List ℕ → Bool) → List (List ℕ) → Places
places_in p titles = places_from p places.Nowhere 0 titles

-- the column of an input, unless it is named twice
abbrev pub column_made : List (List ℕ) → Input → Result Column MalformedKind
column_made titles input = if is_twice titles input then Err malformed.BadHeading else Ok (column_of titles input)

-- the columns of inputs, unless one is named twice
abbrev pub columns_made : List (List ℕ) → List Input → Result (List Column) MalformedKind
columns_made titles [] = Ok []
columns_made titles (i ∷ is) = then_value (column_made titles i) (λ c. then_value (columns_made titles is) (λ cs. Ok (c ∷ cs)))
