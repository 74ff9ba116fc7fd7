use Rattle.lola_monitor_threads.proofs.sending.fn.send_all.scope+FnOnce.call_once.Goals as goal

-- its clause, behind what is asked of lifetimes, and the bounds behind that
pub scope-requires : goal.scope-requires
scope-requires g c =
    let clauses = c.requires.1.1.1.1.1.1.1.1 in
    let bounds = clauses.1 in (bounds.0, (bounds.1, (bounds.2, (bounds.3, (bounds.4, clauses.0)))))
