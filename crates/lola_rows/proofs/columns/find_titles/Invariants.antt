use Rattle.std.proofs.Common.{◌≡◌, drop, map}
use Rattle.csv.specs.Records.{fields_of}
use Rattle.lola_rows.specs.Blanks.{trimmed}
use Rattle.lola_rows.specs.Places.{is_wanted, places_from, places_in}
use Rattle.lola_rows.proofs.columns.find_titles.Given as goal

abbrev pub invariant-loop-place : goal.invariant-loop-place
invariant-loop-place l =
    places_from (is_wanted l.wanted) l.found l.place (drop l.place (map trimmed (fields_of l.fields)))
    ≡ places_in (is_wanted l.wanted) (map trimmed (fields_of l.fields))
