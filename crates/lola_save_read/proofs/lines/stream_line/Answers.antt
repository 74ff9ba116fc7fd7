use Rattle.lola_save_read.proofs.LineKinds.{no-lf-stream, no-stream-line, stream-line}
use Rattle.lola_save_read.proofs.lines.stream_line.Goals as goal

pub returns-in-None : goal.returns-in-None
returns-in-None c =
    no-lf-stream c.args.times c.args.number c.args.form.now c.args.bytes.now c.in-None.ensures

pub returns-in-None-stream_body : goal.returns-in-None-stream_body
returns-in-None-stream_body c =
    no-stream-line c.args.times c.args.number c.args.form.now c.args.bytes.now c.in-Some.body.now c.in-Some.rest.now c.in-Some.ensures c.in-None-stream_body.ensures

pub returns-in-Some-stream_body : goal.returns-in-Some-stream_body
returns-in-Some-stream_body c =
    stream-line c.args.times c.args.number c.args.form.now c.args.bytes.now c.in-Some.body.now c.in-Some.rest.now c.in-Some.ensures c.in-Some-stream_body.count c.in-Some-stream_body.ensures
