use Rattle.std.proofs.Common.{◌∙◌, ap, arith, length, slice_get, sym, Option, subst}
use Rattle.std.proofs.lemmas.Option.{slice_get_within}
use Rattle.lola_model.specs.Dues.{locals_of}
use Rattle.lola_model.specs.Model.{close_pacing}
use Rattle.lola_model.specs.declared.pacing.Pacing.{Pacing}
use Rattle.lola_step.specs.Moments.{IsListedIn, may_be_active_in}
use Rattle.lola_step.proofs.Asking.{closes_asked, closes_spawned, laid_out}
use Rattle.lola_step.proofs.Closable.{up_to_stream}
use Rattle.lola_step.proofs.Conditions.{found_in, none_active, none_without}
use Rattle.lola_step.proofs.Layouts.{pacings_length}
use Rattle.lola_step.proofs.Standing.{room_alone}
use Rattle.lola_step.proofs.Undue.{closes_listed}
use Rattle.lola_step.proofs.closes.find_in_stream.Goals as goal

pub returns-in_default-clause-finds : goal.returns-in_default-clause-finds
returns-in_default-clause-finds g c =
    none_without c.args.plan.now c.args.moment.now (g.S.StreamStore.remembers c.args.store.now) (g.S.StreamStore.seen c.args.store.now) c.args.number c.args.stream.now
    c.args.closing.now.items c.in_default.is

pub close_pacing_at-pacing-requires : goal.close_pacing_at-pacing-requires
close_pacing_at-pacing-requires g c =
    omega (arith, slice_get_within c.args.plan.now.spec.streams c.args.number c.args.stream.now c.requires.there, pacings_length c.args.plan.now c.requires.accepted, ap length c.as_slice.ensures)

pub returns-then-not-may_be_active-clause-finds : goal.returns-then-not-may_be_active-clause-finds
returns-then-not-may_be_active-clause-finds g c =
    let pacing = c.close_pacing_at-pacing.ensures ∙ ap (λ ps. close_pacing (slice_get ps c.args.number)) c.as_slice.ensures in
    none_active c.args.plan.now c.args.moment.now (g.S.StreamStore.remembers c.args.store.now) (g.S.StreamStore.seen c.args.store.now) c.args.number c.args.stream.now
    c.args.closing.now.items (sym (ap (may_be_active_in c.args.moment.now) pacing) ∙ (sym c.may_be_active.ensures ∙ c.if-not-may_be_active.true))

pub find_asked-requires-clause-asks : goal.find_asked-requires-clause-asks
find_asked-requires-clause-asks g c =
    closes_asked c.args.plan.now c.requires.accepted (g.S.StreamStore.seen c.args.store.now) c.requires.of c.args.number c.args.stream.now c.requires.there c.in-Some.clause c.in-Some.is
    c.args.moment.now c.requires.moment c.requires.running c.close_pacing_at-pacing.result.now
    (c.close_pacing_at-pacing.ensures ∙ ap (λ ps. close_pacing (slice_get ps c.args.number)) c.as_slice.ensures)

pub find_asked-requires-clause-stream : goal.find_asked-requires-clause-stream
find_asked-requires-clause-stream g c =
    laid_out c.args.plan.now c.requires.accepted (g.S.StreamStore.seen c.args.store.now) c.requires.of c.args.number c.args.stream.now c.requires.there

pub find_asked-requires-clause-spawns : goal.find_asked-requires-clause-spawns
find_asked-requires-clause-spawns g c =
    closes_spawned c.args.plan.now c.requires.accepted (g.S.StreamStore.seen c.args.store.now) c.requires.of c.args.number c.args.stream.now c.requires.there c.in-Some.clause c.in-Some.is

pub find_due-requires-clause-listed : goal.find_due-requires-clause-listed
find_due-requires-clause-listed g c =
    let s = g.S.StreamStore.seen c.args.store.now in
    subst (λ (o : Option Pacing). IsListedIn o (locals_of (slice_get s.layout.streams c.args.number)))
    (sym (c.close_pacing_at-pacing.ensures ∙ ap (λ ps. close_pacing (slice_get ps c.args.number)) c.as_slice.ensures))
    (closes_listed c.args.plan.now s c.requires.of c.args.number c.args.stream.now c.requires.there)

pub find_due-requires-clause-asks : goal.find_due-requires-clause-asks
find_due-requires-clause-asks g c =
    closes_asked c.args.plan.now c.requires.accepted (g.S.StreamStore.seen c.args.store.now) c.requires.of c.args.number c.args.stream.now c.requires.there c.in-Some.clause c.in-Some.is
    c.args.moment.now c.requires.moment c.requires.running c.close_pacing_at-pacing.result.now
    (c.close_pacing_at-pacing.ensures ∙ ap (λ ps. close_pacing (slice_get ps c.args.number)) c.as_slice.ensures)

pub find_due-requires-clause-stream : goal.find_due-requires-clause-stream
find_due-requires-clause-stream g c =
    laid_out c.args.plan.now c.requires.accepted (g.S.StreamStore.seen c.args.store.now) c.requires.of c.args.number c.args.stream.now c.requires.there

pub find_due-requires-clause-spawns : goal.find_due-requires-clause-spawns
find_due-requires-clause-spawns g c =
    closes_spawned c.args.plan.now c.requires.accepted (g.S.StreamStore.seen c.args.store.now) c.requires.of c.args.number c.args.stream.now c.requires.there c.in-Some.clause c.in-Some.is

pub find_due-requires-clause-places_room : goal.find_due-requires-clause-places_room
find_due-requires-clause-places_room g c = omega (arith, room_alone (g.S.StreamStore.seen c.args.store.now) c.args.number, c.requires.places_room)

pub returns-in-Some-Local-clause-finds : goal.returns-in-Some-Local-clause-finds
returns-in-Some-Local-clause-finds g c =
    found_in c.args.plan.now c.args.moment.now (g.S.StreamStore.remembers c.args.store.now) (g.S.StreamStore.seen c.args.store.now) c.args.number c.args.stream.now
    c.args.closing.now.items c.close_pacing_at-pacing.result.now c.in-Some.clause c.find_due.result c.find_due.new.closing.items
    (c.close_pacing_at-pacing.ensures ∙ ap (λ ps. close_pacing (slice_get ps c.args.number)) c.as_slice.ensures) c.in-Some.is c.find_due.ensures.finds

pub returns-in_default-pacing-clause-finds : goal.returns-in_default-pacing-clause-finds
returns-in_default-pacing-clause-finds g c =
    found_in c.args.plan.now c.args.moment.now (g.S.StreamStore.remembers c.args.store.now) (g.S.StreamStore.seen c.args.store.now) c.args.number c.args.stream.now
    c.args.closing.now.items c.close_pacing_at-pacing.result.now c.in-Some.clause c.find_asked.result c.find_asked.new.closing.items
    (c.close_pacing_at-pacing.ensures ∙ ap (λ ps. close_pacing (slice_get ps c.args.number)) c.as_slice.ensures) c.in-Some.is c.find_asked.ensures.finds

pub returns-in_default-clause-closable : goal.returns-in_default-clause-closable
returns-in_default-clause-closable g c = up_to_stream (g.S.StreamStore.seen c.args.store.now) c.args.number 0 c.args.closing.now.items c.requires.closable

pub returns-then-not-may_be_active-clause-closable : goal.returns-then-not-may_be_active-clause-closable
returns-then-not-may_be_active-clause-closable g c = up_to_stream (g.S.StreamStore.seen c.args.store.now) c.args.number 0 c.args.closing.now.items c.requires.closable

pub find_due-requires-clause-may : goal.find_due-requires-clause-may
find_due-requires-clause-may g c = sym c.may_be_active.ensures ∙ c.if-not-may_be_active.false

pub find_asked-requires-clause-may : goal.find_asked-requires-clause-may
find_asked-requires-clause-may g c = sym c.may_be_active.ensures ∙ c.if-not-may_be_active.false
