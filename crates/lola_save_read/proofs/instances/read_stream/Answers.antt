use Rattle.lola_save_read.proofs.InstanceTurns.{no-instances, no-stream, stream-read}
use Rattle.lola_save_read.proofs.instances.read_stream.Goals as goal

pub returns-in-None : goal.returns-in-None
returns-in-None c =
    no-stream c.args.times c.args.number c.args.form.now c.args.bytes.now c.in-None.ensures

pub returns-in-Err : goal.returns-in-Err
returns-in-Err c =
    no-instances c.args.times c.args.number c.args.form.now c.args.bytes.now c.in-Some.count c.in-Some.first.now c.in-Some.ensures c.in-Err.many (rw c.in-Err.is at c.in_ok-many-in-Some.ensures)

pub returns-in-Ok : goal.returns-in-Ok
returns-in-Ok c =
    stream-read c.args.times c.args.number c.args.form.now c.args.bytes.now c.in-Some.count c.in-Some.first.now c.in-Some.ensures c.in-Ok.instances c.in-Ok.rest.now (rw c.in-Ok.is at c.in_ok-many-in-Some.ensures)
