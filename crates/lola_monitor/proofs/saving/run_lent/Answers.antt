use Rattle.std.proofs.Common.{◌≤◌, List, length, ap, sym, subst, ◌∙◌}
use Rattle.lola_feed.specs.Feeding.{Working}
use Rattle.lola_monitor_run.specs.Running.{keeping}
use Rattle.lola_monitor.specs.Outcomes.{end_of, ends_of}
use Rattle.lola_monitor.specs.SnapshotOutcomes.{RowsCause, TookRows}
use Rattle.lola_monitor.specs.declared.ending.SourcesEnd.{SourcesEnd}
use Rattle.lola_monitor.proofs.Lent.{as_many, still_given}
use Rattle.lola_monitor.proofs.SnapshotRows.{took_rows}
use Rattle.lola_monitor.proofs.SourceCauses.{caused_rows}
use Rattle.lola_monitor.proofs.saving.run_lent.Goals as goal

pub end_of-end-requires : goal.end_of-end-requires
end_of-end-requires g c =
    let few : length c.args.workers.items ≤ 64 = c.requires.ready.many.1 in
    let many = as_many c.args.workers.items c.take_rows-workers.result.0.items c.take_rows-workers.ensures.places in
    subst (λ n. n ≤ 64) (sym (ap length c.as_slice.ensures.value ∙ many)) few

pub give_all_back-requires-clause-out : goal.give_all_back-requires-clause-out
give_all_back-requires-clause-out g c κs within =
    let out = (g.F.Shelf.state c.args.shelf.now).out in
    let many = as_many c.args.workers.items c.take_rows-workers.result.0.items c.take_rows-workers.ensures.places in
    subst (λ n. n ≤ out) (sym many) c.requires.out

pub give_all_back-requires-clause-given : goal.give_all_back-requires-clause-given
give_all_back-requires-clause-given g c κs within =
    still_given (g.F.Shelf.state c.args.shelf.now).asks c.args.workers.items c.take_rows-workers.result.0.items c.take_rows-workers.ensures.places c.requires.given

pub returns-clause-rows : goal.returns-clause-rows
returns-clause-rows g c names rooms before is are =
    let lent = c.args.workers.items in
    let last = c.take_rows-workers.result.0.items in
    let kept0 = keeping c.args.run.now in
    let kept1 = keeping c.take_rows-workers.new.run in
    let places = c.take_rows-workers.ensures.places in
    let after = g.F.Shelf.state c.give_all_back.new.shelf in
    subst (λ (e : SourcesEnd). TookRows c.take_rows-workers.result.1 e kept0 kept1 names before after)
    (sym (c.end_of-end.ensures ∙ ap (λ (ws : List Working). end_of (ends_of ws)) c.as_slice.ensures.value))
    (took_rows names rooms before (g.F.Shelf.state c.args.shelf.now) after kept0 kept1 lent last c.take_rows-workers.result.1 is are places
    (c.give_all_back.ensures.returned names rooms before lent is places) c.take_rows-workers.ensures.run)

pub returns-clause-causes : goal.returns-clause-causes
returns-clause-causes g c names rooms before is are =
    let lent = c.args.workers.items in
    let last = c.take_rows-workers.result.0.items in
    let kept0 = keeping c.args.run.now in
    let kept1 = keeping c.take_rows-workers.new.run in
    let places = c.take_rows-workers.ensures.places in
    let after = g.F.Shelf.state c.give_all_back.new.shelf in
    subst (λ (e : SourcesEnd). RowsCause c.take_rows-workers.result.1 e kept0.state.plan names before after)
    (sym (c.end_of-end.ensures ∙ ap (λ (ws : List Working). end_of (ends_of ws)) c.as_slice.ensures.value))
    (caused_rows names rooms before (g.F.Shelf.state c.args.shelf.now) after kept0 kept1 lent last c.take_rows-workers.result.1 is are places
    (c.give_all_back.ensures.returned names rooms before lent is places) c.take_rows-workers.ensures.ends)
