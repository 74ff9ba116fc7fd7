use Rattle.lola_monitor_run.specs.Running.{keeping}
use Rattle.lola_monitor_run.proofs.Taking.{taken_entry_accepted, taken_entry_late, takes_entry_accepted, takes_entry_late}
use Rattle.lola_monitor_run.proofs.Writing.{accepted_writes, writes_none}
use Rattle.lola_monitor_run.proofs.run.Run.take.Goals as goal

pub returns-in-Accepted-clause-takes : goal.returns-in-Accepted-clause-takes
returns-in-Accepted-clause-takes g c =
    takes_entry_accepted c.accept.result c.args.entry.now (keeping c.args.self.now) (keeping c.accept.new.self) (g.K.Sink.state c.args.out.now) (g.K.Sink.state c.accept.new.out)
    c.in-Accepted.is c.accept.ensures.runs c.requires.mark

pub returns-in-Accepted-clause-writes : goal.returns-in-Accepted-clause-writes
returns-in-Accepted-clause-writes g c = λ trace.
    accepted_writes (g.K.Sink.state c.args.out.now) (g.K.Sink.state c.accept.new.out) trace c.accept.result c.args.entry.now.row (keeping c.args.self.now) (keeping c.accept.new.self) c.accept.ensures.runs

pub returns-in-Accepted-clause-taken : goal.returns-in-Accepted-clause-taken
returns-in-Accepted-clause-taken g c =
    taken_entry_accepted c.accept.result c.args.entry.now (keeping c.args.self.now) (keeping c.accept.new.self) (g.K.Sink.state c.args.out.now) (g.K.Sink.state c.accept.new.out)
    c.in-Accepted.is c.accept.ensures.runs

pub returns-in-Late-clause-takes : goal.returns-in-Late-clause-takes
returns-in-Late-clause-takes g c = takes_entry_late c.args.entry.now c.in-Late.field-0 (keeping c.args.self.now) (g.K.Sink.state c.args.out.now) c.in-Late.is c.requires.mark

pub returns-in-Late-clause-writes : goal.returns-in-Late-clause-writes
returns-in-Late-clause-writes g c = λ trace. writes_none (g.K.Sink.state c.args.out.now) trace

pub returns-in-Late-clause-taken : goal.returns-in-Late-clause-taken
returns-in-Late-clause-taken g c = taken_entry_late c.args.entry.now c.in-Late.field-0 (keeping c.args.self.now) (g.K.Sink.state c.args.out.now) c.in-Late.is c.requires.going
