-- A new engine stands for the empty journal.
use Rattle.std.proofs.Common.{◌∙◌, ap, subst}
use Rattle.lola_text.specs.Texts.{Texts}
use Rattle.lola_engine.specs.Engines.{IsOptionInTime}
use Rattle.lola_engine.proofs.Opening.{new_engine, new_of, opened_behind, opened_engine, opened_stands, waits, waits_behind}
use Rattle.lola_engine.proofs.engine.Engine.create.Goals as goal

pub returns-in-Some-clause-engine : goal.returns-in-Some-clause-engine
returns-in-Some-clause-engine g c =
    let e = c.in_ok-state.state in
    let made = c.in_ok-state.ensures in
    let f = c.started.ensures.first made.clock.0 in
    opened_engine e c.args.plan c.in_ok-texts.texts c.args.start c.args.show c.args.workers made (g.S.StreamStore.seen c.args.store) c.requires.new
    c.in-Some.start (subst (λ o. IsOptionInTime o) c.in-Some.is c.requires.start) (g.S.StreamStore.seen c.started.new.store) c.started.new.clock f.1 f.2 c.in_ok-texts.ensures.few

pub returns-in-Some-clause-stands : goal.returns-in-Some-clause-stands
returns-in-Some-clause-stands g c =
    let e = c.in_ok-state.state in
    let made = c.in_ok-state.ensures in
    let f = c.started.ensures.first made.clock.0 in
    opened_stands e c.args.plan c.in_ok-texts.texts c.args.start c.args.show c.args.workers made (g.S.StreamStore.seen c.args.store) c.requires.new
    c.in-Some.start (subst (λ o. IsOptionInTime o) c.in-Some.is c.requires.start) (g.S.StreamStore.seen c.started.new.store) c.started.new.clock f.1 f.2
    (g.S.StreamStore.remembers c.started.new.store) c.in-Some.is
    (c.started.ensures.stands made.clock.0 (new_of e c.args.plan c.in_ok-texts.texts c.args.start c.args.show c.args.workers made (g.S.StreamStore.seen c.args.store) c.requires.new) c.requires.past e.texts.held)

pub returns-in-Some-clause-behind : goal.returns-in-Some-clause-behind
returns-in-Some-clause-behind g c =
    let e = c.in_ok-state.state in
    let made = c.in_ok-state.ensures in
    let f = c.started.ensures.first made.clock.0 in
    opened_behind e c.args.plan c.in_ok-texts.texts c.args.start c.args.show c.args.workers made (g.S.StreamStore.seen c.args.store) c.requires.new
    c.in-Some.start (subst (λ o. IsOptionInTime o) c.in-Some.is c.requires.start) (g.S.StreamStore.seen c.started.new.store) c.started.new.clock f.1 f.2
    (g.S.StreamStore.remembers c.started.new.store) c.in-Some.is
    (c.started.ensures.stands made.clock.0 (new_of e c.args.plan c.in_ok-texts.texts c.args.start c.args.show c.args.workers made (g.S.StreamStore.seen c.args.store) c.requires.new) c.requires.past e.texts.held)

pub returns-in-None-clause-stands : goal.returns-in-None-clause-stands
returns-in-None-clause-stands g c =
    waits c.in_ok-state.state c.args.plan c.in_ok-texts.texts c.args.start c.args.show c.args.workers c.in_ok-state.ensures (g.S.StreamStore.seen c.args.store) c.requires.new
    (g.S.StreamStore.remembers c.args.store) c.in-None.is c.requires.past

pub returns-in-None-clause-behind : goal.returns-in-None-clause-behind
returns-in-None-clause-behind g c =
    waits_behind c.in_ok-state.state c.args.plan c.in_ok-texts.texts c.args.start c.args.show c.args.workers c.in_ok-state.ensures (g.S.StreamStore.seen c.args.store) c.requires.new
    (g.S.StreamStore.remembers c.args.store) c.in-None.is c.requires.past

pub returns-in-None-clause-engine : goal.returns-in-None-clause-engine
returns-in-None-clause-engine g c =
    new_engine c.in_ok-state.state c.args.plan c.in_ok-texts.texts c.args.start c.args.show c.args.workers c.in_ok-state.ensures (g.S.StreamStore.seen c.args.store) c.requires.new c.in_ok-texts.ensures.few

-- and has the texts of the literals

pub returns-in-Some-clause-literals : goal.returns-in-Some-clause-literals
returns-in-Some-clause-literals g c = ap (λ (t : Texts). t.held) c.in_ok-state.ensures.texts_are ∙ c.in_ok-texts.ensures.exact

pub returns-in-None-clause-literals : goal.returns-in-None-clause-literals
returns-in-None-clause-literals g c = ap (λ (t : Texts). t.held) c.in_ok-state.ensures.texts_are ∙ c.in_ok-texts.ensures.exact
