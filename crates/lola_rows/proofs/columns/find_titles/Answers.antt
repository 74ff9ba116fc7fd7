use Rattle.std.proofs.Common.{◌∙◌, ◌+◌, ◌<◌, arith, sym, ap, map, drop, length, Bool}
use Rattle.csv.specs.Records.{fields_of}
use Rattle.lola_rows.specs.Blanks.{trimmed}
use Rattle.lola_rows.specs.Places.{after_title, is_wanted, places_from}
use Rattle.lola_rows.specs.declared.columns.Places.{Places}
use Rattle.lola_rows.proofs.Placing.{next-title}
use Rattle.lola_rows.proofs.columns.find_titles.Goals as goal

pub loop-place-preserved : goal.loop-place-preserved
loop-place-preserved c =
    let fields = fields_of c.args.fields.now in
    let p = is_wanted c.args.wanted in
    let at = c.loop-place.place in
    let within : at < length fields = omega (arith, c.len-place-end.ensures, c.loop-place-test.true) in
    let hit = c.is_wanted.ensures ∙ ap p c.title.ensures in
    ap (λ (f : Places). places_from p f (at + 1) (drop (at + 1) (map trimmed fields))) (c.after-found.ensures ∙ ap (λ (b : Bool). after_title c.loop-place.found b at) hit)
    ∙ sym (next-title p fields c.loop-place.found at within) ∙ c.loop-place.invariant
