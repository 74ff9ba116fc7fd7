use Rattle.std.proofs.Common.{◌≡◌, false, true≢false, sym, subst, ◌∙◌, ap, map, Result, Err}
use Rattle.lola_monitor_run.specs.Running.{keeping}
use Rattle.lola_monitor_run.specs.Feeds.{supply_of, world}
use Rattle.lola_monitor_threads.specs.Joining.{Joins}
use Rattle.lola_monitor_threads.specs.declared.halt.Halt.{Halt}
use Rattle.lola_monitor_threads.specs.declared.halt.Halt.TheVariants as halt
use Rattle.lola_monitor_threads.proofs.Settling.{all_cut, all_cut_ends, all_ran, all_ran_ends, none_ended_so, some_stopped, some_stopped_ends}
use Rattle.lola_monitor_threads.proofs.run.run_end.Goals as goal

pub returns-then-any_out_of_memory-clause-ends : goal.returns-then-any_out_of_memory-clause-ends
returns-then-any_out_of_memory-clause-ends g c = λ first trace joins.
    let last = world (keeping c.args.run.now) (map supply_of c.args.workers.now) (g.K.Sink.state c.args.out.now) trace in
    all_cut_ends first last (subst (λ (h : Result (Unit {0}) Halt). Joins h first last) c.in-Ok.is joins)

pub returns-then-any_out_of_memory-clause-behind : goal.returns-then-any_out_of_memory-clause-behind
returns-then-any_out_of_memory-clause-behind g c = λ first trace joins before stood.
    let last = world (keeping c.args.run.now) (map supply_of c.args.workers.now) (g.K.Sink.state c.args.out.now) trace in
    all_cut first last (subst (λ (h : Result (Unit {0}) Halt). Joins h first last) c.in-Ok.is joins) before stood

pub returns-else-any_out_of_memory-clause-ends : goal.returns-else-any_out_of_memory-clause-ends
returns-else-any_out_of_memory-clause-ends g c = λ first trace joins.
    let last = world (keeping c.args.run.now) (map supply_of c.args.workers.now) (g.K.Sink.state c.args.out.now) trace in
    c.run_out.ensures.ends first (map supply_of c.args.workers.now) trace
    (all_ran_ends first last (subst (λ (h : Result (Unit {0}) Halt). Joins h first last) c.in-Ok.is joins)
    (none_ended_so c.args.workers.now (λ some. absurd (true≢false (sym (c.any_out_of_memory.ensures.1 some) ∙ c.if-any_out_of_memory.false)))))

pub returns-else-any_out_of_memory-clause-behind : goal.returns-else-any_out_of_memory-clause-behind
returns-else-any_out_of_memory-clause-behind g c = λ first trace joins before stood.
    let last = world (keeping c.args.run.now) (map supply_of c.args.workers.now) (g.K.Sink.state c.args.out.now) trace in
    c.run_out.ensures.behind false before first (map supply_of c.args.workers.now) trace
    (all_ran first last (subst (λ (h : Result (Unit {0}) Halt). Joins h first last) c.in-Ok.is joins)
    (none_ended_so c.args.workers.now (λ some. absurd (true≢false (sym (c.any_out_of_memory.ensures.1 some) ∙ c.if-any_out_of_memory.false)))) before stood)

pub returns-in-Err-Stopped-clause-ends : goal.returns-in-Err-Stopped-clause-ends
returns-in-Err-Stopped-clause-ends g c = λ first trace joins.
    let last = world (keeping c.args.run.now) (map supply_of c.args.workers.now) (g.K.Sink.state c.args.out.now) trace in
    let how : c.in-Err-Stopped.field-0 ≡ halt.Stopped c.in-Err-Stopped.stop = rw c.in-Err-Stopped.is at c.in-Err-Stopped.field-0-is in
    some_stopped_ends c.in-Err-Stopped.stop first last (subst (λ (h : Result (Unit {0}) Halt). Joins h first last) (c.in-Err-Stopped.is ∙ ap Err how) joins)

pub returns-in-Err-Stopped-clause-behind : goal.returns-in-Err-Stopped-clause-behind
returns-in-Err-Stopped-clause-behind g c = λ first trace joins before stood.
    let last = world (keeping c.args.run.now) (map supply_of c.args.workers.now) (g.K.Sink.state c.args.out.now) trace in
    let how : c.in-Err-Stopped.field-0 ≡ halt.Stopped c.in-Err-Stopped.stop = rw c.in-Err-Stopped.is at c.in-Err-Stopped.field-0-is in
    c.stopped_runs_end.ensures false before c.in-Err-Stopped.stop first last
    (some_stopped c.in-Err-Stopped.stop first last (subst (λ (h : Result (Unit {0}) Halt). Joins h first last) (c.in-Err-Stopped.is ∙ ap Err how) joins) before stood)
