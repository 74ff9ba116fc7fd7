use Rattle.std.proofs.Common.{sym, ap, ◌∙◌}
use Rattle.lola_names_refused.specs.Table.{meaning_in}
use Rattle.lola_names_refused.proofs.Entering.{meaning-looked_up}
use Rattle.lola_names_refused.proofs.table.NameTable.meaning.Goals as goal

pub returns : goal.returns
returns g c =
    c.copied.ensures ∙ c.get.ensures.value ∙ sym (meaning-looked_up c.self.inside.entries.entries c.args.text.now)
    ∙ ap (λ k. meaning_in k c.args.text.now) c.self.view_is
