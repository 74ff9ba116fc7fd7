use Rattle.std.proofs.Common.{sym, subst}
use Rattle.lola_monitor.specs.Stating.{Unloads}
use Rattle.lola_monitor.proofs.Loading.{loaded, unloads}
use Rattle.lola_monitor.proofs.stating.load_engine.Goals as goal

pub returns-in-Ok : goal.returns-in-Ok
returns-in-Ok c =
    loaded c.args.specification.now c.args.plan c.args.bytes.now c.args.show c.in-Ok.engine.state c.in-Ok.engine.store c.one_state.ensures c.state_of_journal_is_saved.ensures.saved c.start_serves_as_option.ensures c.in-Ok.ensures

pub returns-in-Err : goal.returns-in-Err
returns-in-Err c =
    subst (λ end. Unloads end c.args.specification.now c.args.plan c.args.bytes.now) (sym c.refusal.ensures)
    (unloads c.args.specification.now c.args.plan c.args.bytes.now c.state_of_journal_is_saved.ensures.text c.in-Err.end c.in-Err.ensures)
