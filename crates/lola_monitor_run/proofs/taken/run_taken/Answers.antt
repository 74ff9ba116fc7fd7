use Rattle.std.proofs.Common.{List, subst, sym}
use Rattle.std.specs.List.{All}
use Rattle.lola_model.specs.Journal.{IsLegal}
use Rattle.lola_model.specs.declared.journal.Entry.{Entry}
use Rattle.lola_monitor_run.specs.Handing.{HasRowFor, Hands}
use Rattle.lola_monitor_run.proofs.Orders.{came_so, taken_first, taken_fit, taken_legal}
use Rattle.lola_monitor_run.proofs.taken.run_taken.Goals as goal

pub run_entries-requires-clause-legal : goal.run_entries-requires-clause-legal
run_entries-requires-clause-legal g c κs within =
    let rows = c.requires.rows in
    subst (IsLegal c.args.engine.now.state.given_start) (sym c.taken.ensures) (taken_legal rows.lists c.args.engine.now.state.given_start c.args.world.now rows.interleaves)

pub run_entries-requires-clause-rows : goal.run_entries-requires-clause-rows
run_entries-requires-clause-rows g c κs within =
    let e = c.args.engine.now.state in
    subst (λ (taken : List Entry). All (HasRowFor e.plan) taken) (sym c.taken.ensures) (taken_fit e.plan e.given_start c.args.world.now c.requires.rows)

pub returns-clause-every_order : goal.returns-clause-every_order
returns-clause-every_order g c = λ lists actors right came.
    let e = c.args.engine.now.state in
    let new = c.run_entries.new.engine in
    let w = c.args.world.now in
    let i = came_so c.every_order.ensures lists e.given_start actors w right came in
    record {
      legal = taken_legal lists e.given_start w i;
      first = taken_first lists e.given_start w i;
      hands = subst (λ (taken : List Entry). Hands c.run_entries.result taken e new.state (g.S.StreamStore.seen new.store) (g.S.StreamStore.remembers new.store) c.args.lines.now c.run_entries.new.lines)
          c.taken.ensures c.run_entries.ensures.hands;
    }
