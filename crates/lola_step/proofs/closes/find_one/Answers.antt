use Rattle.std.proofs.Common.{◌+◌, arith}
use Rattle.lola_step.proofs.Alone.{found_one}
use Rattle.lola_step.proofs.Closable.{up_to_later, up_to_noted, up_to_stream}
use Rattle.lola_step.proofs.closes.find_one.Goals as goal

pub returns-clause-closable : goal.returns-clause-closable
returns-clause-closable g c =
    let s = g.S.StreamStore.seen c.args.store.now in
    let n = c.args.stream in
    let i = c.args.index in
    let old = c.args.closing.now.items in
    let new = c.note_condition.new.closing.items in
    up_to_stream s n (i + 1) new
    (up_to_noted s n i old (up_to_later s n 0 i old (omega arith) c.requires.closable) c.close_condition-condition.result new c.note_condition.ensures.closing c.requires.spawns c.requires.lives)

pub returns-clause-finds : goal.returns-clause-finds
returns-clause-finds g c =
    let s = g.S.StreamStore.seen c.args.store.now in
    found_one c.args.plan.now c.args.moment.now c.args.pacing.now (g.S.StreamStore.remembers c.args.store.now) s c.args.clause.now c.args.stream c.requires.layout c.args.index c.requires.lives c.requires.alone
    c.close_condition-condition.result c.note_condition.result c.args.closing.now.items c.note_condition.new.closing.items c.close_condition-condition.ensures c.note_condition.ensures.least c.note_condition.ensures.closing
