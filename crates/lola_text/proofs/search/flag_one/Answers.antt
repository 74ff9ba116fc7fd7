use Rattle.std.proofs.Common.{sym, ap, ◌∙◌}
use Rattle.std.specs.Option.{option_copied_mut}
use Rattle.lola_text.proofs.Flagging.{flagged-nowhere, flagged-place}
use Rattle.lola_text.proofs.search.flag_one.Goals as goal

pub returns-in-Some-get_index_mut : goal.returns-in-Some-get_index_mut
returns-in-Some-get_index_mut c =
    flagged-place c.args.texts.now.entries c.args.number c.in-Some.place c.args.flag c.in-Some-get_index_mut.held.now c.requires c.in-Some.ensures
    (sym c.get_index_mut.ensures.value ∙ ap option_copied_mut c.in-Some-get_index_mut.is)

pub returns-in_default : goal.returns-in_default
returns-in_default c = sym (flagged-nowhere c.args.number c.args.flag c.args.texts.now.entries c.in_default.ensures)
