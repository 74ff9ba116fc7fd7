use Rattle.std.proofs.Common.{sym, ◌∙◌, subst}
use Rattle.lola_save_text.specs.Forms.{AreStorable}
use Rattle.lola_save_text.proofs.AcceptedForms.{accepted-storable}
use Rattle.lola_save_read.proofs.streams.streams_of.Goals as goal

pub read_to_end-requires-clause-storable : goal.read_to_end-requires-clause-storable
read_to_end-requires-clause-storable c = subst AreStorable (sym (c.as_slice.ensures ∙ c.in_ok-forms.ensures)) (accepted-storable c.args.plan.now c.requires.accepted)
