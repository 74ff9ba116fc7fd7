use Rattle.std.proofs.Common.{◌∙◌, ap, Some, None}
use Rattle.std.proofs.lemmas.Option.{slice_get-get_or}
use Rattle.lola_expr.proofs.Finding.{set_there}
use Rattle.lola_expr.proofs.keys.note.Goals as goal

pub returns-in-None-clause-there : goal.returns-in-None-clause-there
returns-in-None-clause-there c = (c.args.value, set_there c.args.bound.now c.args.number (Some c.args.value) c.requires)

pub returns-in-Some-clause-there : goal.returns-in-Some-clause-there
returns-in-Some-clause-there c = (c.in-Some.field-0, slice_get-get_or c.args.bound.now c.args.number None c.requires ∙ ap Some c.in-Some.is)
