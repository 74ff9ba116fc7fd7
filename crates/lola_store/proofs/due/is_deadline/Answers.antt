use Rattle.std.proofs.Common.{arith}
use Rattle.lola_store.proofs.Dues.{deadline_found, deadline_late}
use Rattle.lola_store.proofs.due.is_deadline.Goals as goal

pub returns-in-Some : goal.returns-in-Some
returns-in-Some c = deadline_found c.args.rate.now c.args.after c.in-Some._number c.in-Some.offset (omega arith) c.in-Some.ensures.value

pub returns-in-None : goal.returns-in-None
returns-in-None c = deadline_late c.args.rate.now c.args.after c.requires c.in-None.ensures.value
