-- What is needed stays, also in a table that is swept.
use Rattle.std.proofs.Common.{arith}
use Rattle.lola_engine.proofs.Sweeping.{count_between, literals_stay}
use Rattle.lola_engine.proofs.sweep.let_go.Goals as goal

pub is_full-requires-clause-held : goal.is_full-requires-clause-held
is_full-requires-clause-held g c =
    let all = count_between 0 c.args.texts.now.given c.args.texts.now.held c.len-held.ensures.table.numbers in omega (arith, all, c.len-held.ensures.count, c.requires.few)

pub returns-clause-literals : goal.returns-clause-literals
returns-clause-literals g c =
    literals_stay (g.S.TextStore.holds c.args.store.now) c.args.plan.now.spec.texts c.args.texts.now c.sweep.new.texts c.list_needed.new.ids c.in_ok-list_needed.ensures c.sweep.ensures.texts
