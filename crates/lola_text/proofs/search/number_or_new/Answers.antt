-- What an entry leaves is what `insert` of its value does.
use Rattle.std.proofs.Common.{◌∙◌, ap, rules, unwrap_or}
use Rattle.indexmap.specs.Entry.{map_with_value}
use Rattle.lola_text.proofs.Entering.{found-or-new}
use Rattle.lola_text.proofs.search.number_or_new.Goals as goal

pub returns-clause-ok : goal.returns-clause-ok
returns-clause-ok c =
    let e = c.in_ok-texts.ensures in
    let held = c.or_insert-held.result.now in
    found-or-new c.args.texts.now.entries (map_with_value c.in_ok-texts.field-0 held).entries _ c.args.text c.args.fresh held
    (c.or_insert-held.ensures.value ∙ ap (λ o. unwrap_or o c.args.fresh) e.value) (e.update.1 held) (search rules)
