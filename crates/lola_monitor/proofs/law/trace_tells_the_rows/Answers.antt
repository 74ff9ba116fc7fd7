use Rattle.lola_monitor.proofs.TextsReceived.{cut_off, traced}
use Rattle.lola_monitor.proofs.law.trace_tells_the_rows.Goals as goal

pub returns-clause-done : goal.returns-clause-done
returns-clause-done g = λ c is. traced c is.all.run is.trace

pub returns-clause-malformed : goal.returns-clause-malformed
returns-clause-malformed g = λ c is. traced c is.some.run is.trace

pub returns-clause-fault : goal.returns-clause-fault
returns-clause-fault g = λ c is. traced c is.up_to.run is.trace

pub returns-clause-unreadable : goal.returns-clause-unreadable
returns-clause-unreadable g = λ c is. traced c is.short.run is.trace

pub returns-clause-cut : goal.returns-clause-cut
returns-clause-cut g = λ c is. cut_off c is.run is.cut

pub returns-clause-cut_done : goal.returns-clause-cut_done
returns-clause-cut_done g = λ c is. traced c is.all.run is.trace

pub returns-clause-cut_malformed : goal.returns-clause-cut_malformed
returns-clause-cut_malformed g = λ c is. traced c is.some.run is.trace

pub returns-clause-memory : goal.returns-clause-memory
returns-clause-memory g = λ c is. traced c is.run is.trace
