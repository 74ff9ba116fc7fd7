-- A row, read and run.
use Rattle.std.proofs.Common.{◌≡◌, ◌+◌, refl, sym, subst, ap, length, arith}
use Rattle.lola_model.specs.Journal.{accepted}
use Rattle.lola_model.specs.Standing.{StandsBetween}
use Rattle.lola_text.specs.Texts.{Texts}
use Rattle.lola_step.specs.Moments.{ReadAs}
use Rattle.lola_engine.specs.Going.{tally_of}
use Rattle.lola_engine.proofs.Joining.{accepts_all, accepts_no_more, accepts_unread, begins}
use Rattle.lola_engine.proofs.Ranges.{engine_again, few_fields, few_numbers, few_swept, ready_below}
use Rattle.lola_engine.proofs.Sweeping.{few_held, takes_on}
use Rattle.lola_engine.proofs.engine.run_row.Goals as goal

pub read_row-requires-clause-few : goal.read_row-requires-clause-few
read_row-requires-clause-few g c =
    few_numbers c.args.state.now (g.S.StreamStore.seen c.args.store.now) c.args.row.now.fields c.requires.engine c.requires.row.more c.requires.row.fields

pub read_row-requires-clause-left : goal.read_row-requires-clause-left
read_row-requires-clause-left g c = omega (arith, c.requires.engine.few_swept, c.requires.engine.few_rows)

pub returns-in-Err-clause-accepts : goal.returns-in-Err-clause-accepts
returns-in-Err-clause-accepts g c =
    let s = g.S.StreamStore.seen c.args.store.now in
    let m = g.S.StreamStore.remembers c.args.store.now in
    accepts_unread c.args.state.now c.requires.engine.sound.accepted s m c.args.row.now c.args.lines.now c.args.state.now s m

pub run_taken-requires-clause-below : goal.run_taken-requires-clause-below
run_taken-requires-clause-below g c κs within =
    ready_below c.args.state.now (g.S.StreamStore.seen c.args.store.now) (g.S.StreamStore.seen c.started-start.new.store) c.started-start.new.clock c.read_row.new.texts c.read_row.new.ids c.read_row.new.left c.started-start.result c.args.row.now.stamp c.max-from.result
    c.requires.engine c.requires.row.in_time c.requires.row.order c.max-from.ensures c.in_default.ensures.table c.in_default.ensures.literals
    (λ a q. let k = c.started-start.ensures.going a q in (k.0, k.1, ap g.S.StreamStore.seen k.2)) c.started-start.ensures.first

pub returns-in-Ok-clause-engine : goal.returns-in-Ok-clause-engine
returns-in-Ok-clause-engine g c =
    engine_again c.args.state.now (g.S.StreamStore.seen c.args.store.now) (g.S.StreamStore.seen c.started-start.new.store) c.started-start.new.clock c.read_row.new.texts c.read_row.new.ids c.read_row.new.left c.started-start.result c.args.row.now.stamp c.max-from.result
    c.requires.engine c.requires.row.in_time c.requires.row.order c.max-from.ensures c.in_default.ensures.table c.in_default.ensures.literals
    c.run_taken.new.state (g.S.StreamStore.seen c.run_taken.new.store) c.args.row.now.fields c.in-Ok.ensures.taken c.in-Ok.ensures.kept c.requires.row.more c.requires.row.fields c.in_default.ensures.given
    (let takes = c.in_default.ensures.takes in few_swept c.args.state.now (g.S.StreamStore.seen c.args.store.now) c.requires.engine _ _ takes.between c.read_row.new.left takes.goes)

pub returns-in-Ok-clause-accepts : goal.returns-in-Ok-clause-accepts
returns-in-Ok-clause-accepts g c =
    let seen = g.S.StreamStore.seen in
    let remembers = g.S.StreamStore.remembers in
    let e = c.args.state.now in
    let names = c.read_row.new.texts.held in
    let new = record c.run_taken.new.state { rows = c.run_taken.new.state.rows + 1; merged = c.args.row.now.stamp } in
    accepts_all e c.requires.engine.sound.accepted (seen c.args.store.now) (remembers c.args.store.now) c.args.row.now names c.started-start.result c.max-from.result (remembers c.started-start.new.store) (seen c.started-start.new.store)
    (begins e (seen c.args.store.now) (remembers c.args.store.now) c.args.row.now names c.started-start.result c.max-from.result (remembers c.started-start.new.store) (seen c.started-start.new.store)
    c.requires.engine c.requires.row.order c.in_default.ensures.table.naming c.in_default.ensures.literals c.max-from.ensures
    (λ a q. let k = c.started-start.ensures.going a q in (k.0, λ content stands. subst (λ z. StandsBetween names (remembers z) (seen z) content) (sym k.2) (c.in_default.ensures.stands content stands)))
    (λ q. (c.started-start.ensures.first q).0)
    (λ q shows past. c.started-start.ensures.stands q shows past names))
    c.args.lines.now c.run_taken.new.lines new (seen c.run_taken.new.store) (remembers c.run_taken.new.store)
    (λ journal. c.in-Ok.ensures.goes (accepted journal) c.args.row.now refl (subst (λ os. ReadAs names os c.args.row.now.fields) (sym c.as_slice.ensures.value) c.in_default.ensures.ok))
    c.in-Ok.ensures.kept.plan c.in-Ok.ensures.kept.given_start c.in-Ok.ensures.kept.show c.in-Ok.ensures.kept.ended c.in-Ok.ensures.kept.behind
    (ap (λ n. n + 1) c.in-Ok.ensures.kept.rows) refl c.in-Ok.ensures.taken.start_is c.in-Ok.ensures.taken.passed

pub returns-in-Err-run_taken-clause-accepts : goal.returns-in-Err-run_taken-clause-accepts
returns-in-Err-run_taken-clause-accepts g c =
    let seen = g.S.StreamStore.seen in
    let remembers = g.S.StreamStore.remembers in
    let e = c.args.state.now in
    let names = c.read_row.new.texts.held in
    accepts_no_more e c.requires.engine.sound.accepted (seen c.args.store.now) (remembers c.args.store.now) c.args.row.now names c.started-start.result c.max-from.result (remembers c.started-start.new.store) (seen c.started-start.new.store)
    (begins e (seen c.args.store.now) (remembers c.args.store.now) c.args.row.now names c.started-start.result c.max-from.result (remembers c.started-start.new.store) (seen c.started-start.new.store)
    c.requires.engine c.requires.row.order c.in_default.ensures.table.naming c.in_default.ensures.literals c.max-from.ensures
    (λ a q. let k = c.started-start.ensures.going a q in (k.0, λ content stands. subst (λ z. StandsBetween names (remembers z) (seen z) content) (sym k.2) (c.in_default.ensures.stands content stands)))
    (λ q. (c.started-start.ensures.first q).0)
    (λ q shows past. c.started-start.ensures.stands q shows past names))
    c.args.lines.now c.run_taken.new.lines c.in-Err-run_taken.end (tally_of c.run_taken.new.state) (remembers c.run_taken.new.store) (seen c.run_taken.new.store)
    (λ journal. c.in-Err-run_taken.ensures.goes (accepted journal) c.args.row.now refl (subst (λ os. ReadAs names os c.args.row.now.fields) (sym c.as_slice.ensures.value) c.in_default.ensures.ok))
    c.run_taken.new.state (seen c.run_taken.new.store) (remembers c.run_taken.new.store)

pub returns-in-Ok-clause-texts : goal.returns-in-Ok-clause-texts
returns-in-Ok-clause-texts g c =
    let e = c.args.state.now in
    takes_on g.S.StreamStore.BOUNDED (g.S.TextStore.holds c.args.store.now) e.plan.spec.texts c.args.row.now.fields e.texts e.swept c.read_row.new.texts c.read_row.new.left
    c.run_taken.new.state.texts c.run_taken.new.state.swept c.in-Ok.ensures.kept.texts c.in-Ok.ensures.kept.swept c.in_default.ensures.takes

pub returns-in-Ok-clause-few : goal.returns-in-Ok-clause-few
returns-in-Ok-clause-few g c is =
    let e = c.args.state.now in
    let all = few_held g.S.StreamStore.BOUNDED (g.S.TextStore.holds c.args.store.now) e.plan.spec.texts c.args.row.now.fields e.texts e.swept c.read_row.new.texts c.read_row.new.left
    c.in_default.ensures.takes (few_fields e.plan c.args.row.now.fields c.requires.engine.sound.accepted c.requires.row.fields) is in
    let many : length c.run_taken.new.state.texts.held ≡ length c.read_row.new.texts.held = ap (λ (t : Texts). length t.held) c.in-Ok.ensures.kept.texts in
    omega (arith, all, many, c.in-Ok.ensures.kept.swept)
