use Rattle.std.proofs.Common.{◌≤◌, List, length, ap, sym, subst, ◌∙◌}
use Rattle.lola_feed.specs.Feeding.{Working}
use Rattle.lola_monitor_run.specs.Running.{keeping}
use Rattle.lola_monitor.specs.Outcomes.{OutcomeAfter, end_of, ends_of}
use Rattle.lola_monitor.specs.declared.ending.SourcesEnd.{SourcesEnd}
use Rattle.lola_monitor.proofs.Lent.{as_many, ends_sources, grew_lent, ran_lent, still_given}
use Rattle.lola_monitor.proofs.SourceCauses.{caused_lent}
use Rattle.lola_monitor.proofs.sources.run_lent.Goals as goal

pub end_of-end-requires : goal.end_of-end-requires
end_of-end-requires g c =
    let few : length c.args.workers.items ≤ 64 = c.requires.ready.many.1 in
    let many = as_many c.args.workers.items c.run_workers-workers.result.0.items c.run_workers-workers.ensures.places in
    subst (λ n. n ≤ 64) (sym (ap length c.as_slice.ensures.value ∙ many)) few

pub give_all_back-requires-clause-out : goal.give_all_back-requires-clause-out
give_all_back-requires-clause-out g c κs within =
    let out = (g.F.Shelf.state c.args.shelf.now).out in
    let many = as_many c.args.workers.items c.run_workers-workers.result.0.items c.run_workers-workers.ensures.places in
    subst (λ n. n ≤ out) (sym many) c.requires.out

pub give_all_back-requires-clause-given : goal.give_all_back-requires-clause-given
give_all_back-requires-clause-given g c κs within =
    still_given (g.F.Shelf.state c.args.shelf.now).asks c.args.workers.items c.run_workers-workers.result.0.items c.run_workers-workers.ensures.places c.requires.given

pub returns-clause-ends : goal.returns-clause-ends
returns-clause-ends g c =
    let kept = keeping c.run_workers-workers.new.run in
    ends_sources c.run_workers-workers.result.1 c.end_of-end.result kept.state.plan kept c.call_end_after.result c.call_end_after.ensures

pub returns-clause-runs : goal.returns-clause-runs
returns-clause-runs g c names rooms before is are front stood =
    let lent = c.args.workers.items in
    let last = c.run_workers-workers.result.0.items in
    let kept0 = keeping c.args.run.now in
    let kept1 = keeping c.run_workers-workers.new.run in
    let out0 = g.K.Sink.state c.args.out.now in
    let out1 = g.K.Sink.state c.run_workers-workers.new.out in
    let trace0 = g.T.Sink.state c.args.trace.now in
    let trace1 = g.T.Sink.state c.run_workers-workers.new.trace in
    let places = c.run_workers-workers.ensures.places in
    ran_lent front c.args.in_turns names rooms before (g.F.Shelf.state c.args.shelf.now) (g.F.Shelf.state c.give_all_back.new.shelf) out0 trace0 out1 trace1 kept0 kept1 lent last
    c.run_workers-workers.result.1 c.call_end_after.result is are places (c.give_all_back.ensures.returned names rooms before lent is places) c.run_workers-workers.ensures.plan
    (subst (λ (e : SourcesEnd). OutcomeAfter c.run_workers-workers.result.1 e kept1.state.plan kept1 c.call_end_after.result)
    (c.end_of-end.ensures ∙ ap (λ (ws : List Working). end_of (ends_of ws)) c.as_slice.ensures.value) c.call_end_after.ensures)
    (c.run_workers-workers.ensures.run front stood)

pub returns-clause-cause : goal.returns-clause-cause
returns-clause-cause g c names rooms before is are =
    let lent = c.args.workers.items in
    let last = c.run_workers-workers.result.0.items in
    let kept0 = keeping c.args.run.now in
    let kept1 = keeping c.run_workers-workers.new.run in
    let out0 = g.K.Sink.state c.args.out.now in
    let out1 = g.K.Sink.state c.run_workers-workers.new.out in
    let trace0 = g.T.Sink.state c.args.trace.now in
    let trace1 = g.T.Sink.state c.run_workers-workers.new.trace in
    let places = c.run_workers-workers.ensures.places in
    caused_lent names rooms before (g.F.Shelf.state c.args.shelf.now) (g.F.Shelf.state c.give_all_back.new.shelf) out0 trace0 out1 trace1 kept0 kept1 lent last
    c.run_workers-workers.result.1 c.call_end_after.result is are places (c.give_all_back.ensures.returned names rooms before lent is places)
    (subst (λ (e : SourcesEnd). OutcomeAfter c.run_workers-workers.result.1 e kept1.state.plan kept1 c.call_end_after.result)
    (c.end_of-end.ensures ∙ ap (λ (ws : List Working). end_of (ends_of ws)) c.as_slice.ensures.value) c.call_end_after.ensures)
    c.run_workers-workers.ensures.ends

pub returns-clause-asked : goal.returns-clause-asked
returns-clause-asked g c names rooms before is =
    let lent = c.args.workers.items in
    let last = c.run_workers-workers.result.0.items in
    let places = c.run_workers-workers.ensures.places in
    grew_lent names rooms before (g.F.Shelf.state c.args.shelf.now) (g.F.Shelf.state c.give_all_back.new.shelf) lent last is places (c.give_all_back.ensures.returned names rooms before lent is places)
