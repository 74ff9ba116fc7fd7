use Rattle.std.proofs.Common.{◌+◌, arith, drop, take}
use Rattle.lola_save_read.proofs.InstanceTurns.{streams-end, streams-next, streams-stop-at}
use Rattle.lola_save_read.proofs.Items.{item-split}
use Rattle.lola_save_read.proofs.StateTurns.{at-storable}
use Rattle.lola_save_read.proofs.streams.read_streams.Goals as goal

pub read_stream-requires-clause-plain : goal.read_stream-requires-clause-plain
read_stream-requires-clause-plain c = (at-storable c.args.forms.now (take c.loop-number.number c.args.forms.now) (drop (c.loop-number.number + 1) c.args.forms.now) c.index-forms-number.result (item-split c.args.forms.now c.loop-number.number c.index-forms-number.result _ c.loop-number-test.true c.index-forms-number.is) c.requires.storable).0

pub read_stream-requires-clause-lengths : goal.read_stream-requires-clause-lengths
read_stream-requires-clause-lengths c = (at-storable c.args.forms.now (take c.loop-number.number c.args.forms.now) (drop (c.loop-number.number + 1) c.args.forms.now) c.index-forms-number.result (item-split c.args.forms.now c.loop-number.number c.index-forms-number.result _ c.loop-number-test.true c.index-forms-number.is) c.requires.storable).1

pub returns-in-Err : goal.returns-in-Err
returns-in-Err c = streams-stop-at c.args.times c.args.forms.now c.args.bytes.now c.loop-number.number c.index-forms-number.result _ c.loop-number.streams c.loop-number.left.now c.in-Err.many c.loop-number-test.true c.index-forms-number.is c.loop-number.invariant (rw c.in-Err.is at c.in_ok-many.ensures)

pub loop-number-preserved : goal.loop-number-preserved
loop-number-preserved c =
    rw c.in_ok-push-in-Ok.ensures.ok
    (streams-next c.args.times c.args.forms.now c.args.bytes.now c.loop-number.number c.index-forms-number.result _ c.loop-number.streams c.loop-number.left.now c.in-Ok.instances c.in-Ok.rest.now c.loop-number-test.true c.index-forms-number.is c.loop-number.invariant (rw c.in-Ok.is at c.in_ok-many.ensures))

pub returns : goal.returns
returns c = streams-end c.args.times c.args.forms.now c.args.bytes.now c.loop-number.number c.loop-number.streams c.loop-number.left.now (omega arith) c.loop-number.invariant
