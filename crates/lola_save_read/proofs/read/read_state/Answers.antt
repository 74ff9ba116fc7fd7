use Rattle.std.proofs.Common.{arith}
use Rattle.lola_save_read.proofs.StateTurns.{at-streams, at-times, other-no-text, state-read}
use Rattle.lola_save_read.proofs.read.read_state.Goals as goal

pub returns-in-Err-OtherSpec : goal.returns-in-Err-OtherSpec
returns-in-Err-OtherSpec c =
    let other = rw c.in-Err-OtherSpec.field-0-is at c.in-Err-OtherSpec.ensures in
    (other, other-no-text c.args.spec.now c.args.plan.now c.args.bytes.now (omega arith) other)

pub returns-in-Err : goal.returns-in-Err
returns-in-Err c =
    rw c.line_at.ensures
    (at-times c.args.spec.now c.args.plan.now c.requires c.args.bytes.now c.in-Ok.lines.now c.in-Ok.ensures c.in-Err.line (c.in-Err.ensures.1 c.args.spec.now c.args.plan.now c.requires))

pub returns-in-Ok-Err : goal.returns-in-Ok-Err
returns-in-Ok-Err c =
    rw c.line_at-in-Ok-Err.ensures
    (at-streams c.args.spec.now c.args.plan.now c.requires c.args.bytes.now c.in-Ok.lines.now c.in-Ok.ensures c.in-Ok-read_times.times c.in-Ok-read_times.behind.now c.in-Ok-read_times.ensures c.in-Ok-Err.many
    (rw c.in-Ok-Err.field-0-is at c.in-Ok-Err.ensures))

pub returns-in-Ok-Ok : goal.returns-in-Ok-Ok
returns-in-Ok-Ok c =
    state-read c.args.spec.now c.args.plan.now c.requires c.args.bytes.now c.in-Ok.lines.now c.in-Ok.ensures c.in-Ok-read_times.times c.in-Ok-read_times.behind.now c.in-Ok-read_times.ensures c.in-Ok-Ok.streams
    (rw c.in-Ok-Ok.field-0-is at c.in-Ok-Ok.ensures)
