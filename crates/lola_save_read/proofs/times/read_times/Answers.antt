use Rattle.std.proofs.Common.{arith}
use Rattle.lola_save_read.proofs.ReadTimes.{first-refused, second-refused, third-refused, times-read}
use Rattle.lola_save_read.proofs.times.read_times.Goals as goal

pub returns-in-None : goal.returns-in-None
returns-in-None c = (omega arith, first-refused c.args.bytes.now c.in-None.ensures)

pub returns-in-None-last_line : goal.returns-in-None-last_line
returns-in-None-last_line c = (omega arith, second-refused c.in-Some.start c.args.bytes.now c.in-Some.behind_start.now c.in-Some.ensures c.in-None-last_line.ensures)

pub returns-in-None-steps_line : goal.returns-in-None-steps_line
returns-in-None-steps_line c = (
  omega arith,
  third-refused c.in-Some.start c.args.bytes.now c.in-Some.behind_start.now c.in-Some.ensures c.in-Some-last_line.last c.in-Some-last_line.behind_last.now c.in-Some-last_line.ensures
      c.in-None-steps_line.ensures,
)

pub returns-in-Some-steps_line : goal.returns-in-Some-steps_line
returns-in-Some-steps_line c =
    times-read c.in-Some.start c.args.bytes.now c.in-Some.behind_start.now c.in-Some.ensures c.in-Some-last_line.last c.in-Some-last_line.behind_last.now c.in-Some-last_line.ensures
    c.in-Some-steps_line.steps c.in-Some-steps_line.rest.now c.in-Some-steps_line.ensures
