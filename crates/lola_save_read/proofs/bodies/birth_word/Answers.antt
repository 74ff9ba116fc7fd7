use Rattle.std.proofs.Common.{sym, ◌∙◌}
use Rattle.lola_save_read.proofs.BodyForms.{other-time}
use Rattle.lola_save_read.proofs.bodies.birth_word.Goals as goal

pub returns-else-is_birth : goal.returns-else-is_birth
returns-else-is_birth c =
    other-time c.args.times c.args.form.now c.args.low c.requires c.args.word.now c.in-Some.born c.in-Some.ensures.0 c.in-Some.ensures.1 (sym c.is_birth.ensures ∙ c.if-is_birth.false)
