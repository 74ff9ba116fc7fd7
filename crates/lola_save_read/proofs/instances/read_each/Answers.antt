use Rattle.std.proofs.Common.{[], arith}
use Rattle.lola_save_read.proofs.InstanceTurns.{instances-more, instances-stop, instances-whole, none-so-far}
use Rattle.lola_save_read.proofs.SeenParams.{seen-more}
use Rattle.lola_save_read.proofs.SpelledParams.{none-spelled}
use Rattle.lola_save_read.proofs.instances.read_each.Goals as goal

pub loop-turn-init : goal.loop-turn-init
loop-turn-init c =
    record {
      so_far = rw (c.create-instances.ensures, c.time_or-low.ensures) (none-so-far c.args.times c.args.form.now c.args.count c.args.bytes.now);
      spelled = rw c.create-instances.ensures (none-spelled c.args.spelled.now);
    }

pub read_instance-requires-clause-others : goal.read_instance-requires-clause-others
read_instance-requires-clause-others c = rw c.as_slice.ensures c.loop-turn.invariant.spelled

pub returns-in-Err : goal.returns-in-Err
returns-in-Err c = instances-stop c.args.times c.args.form.now c.args.count c.args.bytes.now c.loop-turn._turn c.loop-turn.instances c.loop-turn.low c.loop-turn.left.now c.loop-turn.invariant.so_far c.loop-turn-test.true c.in-Err.many (rw (c.as_slice.ensures, c.in-Err.is) at c.in_ok-many.ensures.read)

pub loop-turn-preserved : goal.loop-turn-preserved
loop-turn-preserved c =
    record {
      so_far =
          rw (c.in_ok-push-in-Ok.ensures.ok, c.time_or-low-in-Ok.ensures)
          (instances-more c.args.times c.args.form.now c.args.count c.args.bytes.now c.loop-turn._turn c.loop-turn.instances c.loop-turn.low c.loop-turn.left.now c.loop-turn.invariant.so_far c.loop-turn-test.true c.in-Ok.instance c.in-Ok.rest.now (rw (c.as_slice.ensures, c.in-Ok.is) at c.in_ok-many.ensures.read));
      spelled = rw (c.in_ok-push-in-Ok.ensures.ok, seen-more [] c.loop-turn.instances c.in-Ok.instance) (rw (c.as_slice.ensures, c.in-Ok.is) at c.in_ok-many.ensures.noted);
    }

pub returns : goal.returns
returns c = instances-whole c.args.times c.args.form.now c.args.count c.args.bytes.now c.loop-turn._turn c.loop-turn.instances c.loop-turn.low c.loop-turn.left.now c.loop-turn.invariant.so_far (omega arith)
