use Rattle.lola_monitor_run.specs.Running.{keeping}
use Rattle.lola_monitor.proofs.SnapshotRows.{ends_rows}
use Rattle.lola_monitor.proofs.SourceCauses.{caused_after}
use Rattle.lola_monitor.proofs.saving.snapshot_lent.Goals as goal

pub returns-clause-runs : goal.returns-clause-runs
returns-clause-runs g c names rooms before is are =
    ends_rows c.args.specification.now (keeping c.args.run.now) (keeping c.run_lent-end.new.run) names before (g.F.Shelf.state c.run_lent-end.new.shelf) c.run_lent-end.ensures.setting c.run_lent-end.ensures.steps_before
    c.run_lent-end.result.1 c.run_lent-end.result.0 c.outcome_of.result c.run_lent-end.ensures.going (c.run_lent-end.ensures.rows names rooms before is are) c.outcome_of.ensures

pub returns-clause-cause : goal.returns-clause-cause
returns-clause-cause g c names rooms before is are =
    caused_after c.args.specification.now (keeping c.run_lent-end.new.run) (keeping c.args.run.now).state.plan names before (g.F.Shelf.state c.run_lent-end.new.shelf)
    c.run_lent-end.result.1 c.run_lent-end.result.0 c.outcome_of.result (c.run_lent-end.ensures.causes names rooms before is are) c.outcome_of.ensures
