use Rattle.std.proofs.Common.{arith, sym, ◌∙◌}
use Rattle.lola_save_read.proofs.BodyForms.{no-stream, other-count}
use Rattle.lola_save_read.proofs.bodies.stream_body.Goals as goal

pub returns-in-None : goal.returns-in-None
returns-in-None c = no-stream c.args.times c.args.number c.args.form.now c.requires c.args.body.now c.in-None.ensures

pub returns-else-is_count : goal.returns-else-is_count
returns-else-is_count c =
    other-count c.args.times c.args.number c.args.form.now c.requires c.args.body.now c.in-Some.count (omega arith) c.in-Some.ensures (sym c.is_count.ensures ∙ c.if-is_count.false)
