use Rattle.lola_save_read.proofs.ReadTimes.{timed-no-line, timed-no-time, timed-there}
use Rattle.lola_save_read.proofs.times.timed_line.Goals as goal

pub returns-in-None : goal.returns-in-None
returns-in-None c = timed-no-line c.args.front.now c.args.bytes.now c.in-None.ensures

pub returns-in-None-time_or_dash : goal.returns-in-None-time_or_dash
returns-in-None-time_or_dash c =
    timed-no-time c.args.front.now c.args.bytes.now c.in-Some.body.now c.in-Some.rest.now c.in-Some.ensures c.in-None-time_or_dash.ensures

pub returns-in-Some-time_or_dash : goal.returns-in-Some-time_or_dash
returns-in-Some-time_or_dash c =
    timed-there c.args.front.now c.args.bytes.now c.in-Some.body.now c.in-Some.rest.now c.in-Some-time_or_dash.time c.in-Some.ensures
    c.in-Some-time_or_dash.ensures.0 c.in-Some-time_or_dash.ensures.1
