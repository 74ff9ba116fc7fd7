use Rattle.std.proofs.Common.{arith}
use Rattle.lola_value.specs.Naming.{read, the_values}
use Rattle.lola_save.proofs.Parameters.{all-read, more-read}
use Rattle.lola_save.proofs.fields.fields_of.Goals as goal

pub loop-i-preserved : goal.loop-i-preserved
loop-i-preserved c = more-read (read c.args.engine.now.state.texts.held) (the_values c.args.params.now) c.loop-i.i c.loop-i.fields _ (rw c.get.ensures at c.in_ok-push_value.ensures) c.loop-i.invariant

pub returns : goal.returns
returns c = all-read (read c.args.engine.now.state.texts.held) c.args.params.now c.loop-i.i c.loop-i.fields (omega arith) c.loop-i.invariant
