use Rattle.std.proofs.Common.{◌≡◌, refl, ap, ◌∙◌, sym, subst, arith}
use Rattle.std.specs.Vec.{vec_capacity}
use Rattle.lola_model.specs.Store.{Seen, after_begin, after_prepare, start_seen}
use Rattle.lola_step_contents.specs.Stages.{first_stage}
use Rattle.lola_step.specs.Beginnings.{moment_at}
use Rattle.lola_step.specs.Conclusions.{ShowsConcluded}
use Rattle.lola_step.specs.Progress.{IsAt, IsMomentOf}
use Rattle.lola_step.specs.Rooms.{rooms, total}
use Rattle.lola_step.specs.Scratches.{IsFresh, instances_to_come}
use Rattle.lola_step.specs.declared.moment.Moment.{Moment}
use Rattle.lola_step.proofs.Beginnings.{at_first, few_inputs, first_room, moment_of_some, whole_step}
use Rattle.lola_step.proofs.Evaluation.{same_moment}
use Rattle.lola_step.proofs.step.step.Goals as goal

pub moment_of-moment-requires : goal.moment_of-moment-requires
moment_of-moment-requires g c = few_inputs c.args.is_row c.args.plan.now.spec.streams c.args.inputs.now c.requires.inputs c.requires.accepted.named.few_inputs

pub tell_inputs-requires-clause-at : goal.tell_inputs-requires-clause-at
tell_inputs-requires-clause-at g c =
    let s = g.S.StreamStore.seen c.args.store.now in
    let e : g.S.StreamStore.seen c.begin.new.store ≡ after_begin (after_prepare s) c.args.time =
    c.begin.ensures.seen ∙ ap (λ t. after_begin t c.args.time) c.in_default.ensures.ok in
    subst (λ t. IsAt c.args.plan.now first_stage t) (sym e) (at_first c.args.plan.now s c.args.time c.requires.of c.requires.order c.requires.in_time)

pub evaluate-requires-clause-moment : goal.evaluate-requires-clause-moment
evaluate-requires-clause-moment g c κs within =
    let s = g.S.StreamStore.seen c.args.store.now in
    let e : g.S.StreamStore.seen c.begin.new.store ≡ after_begin (after_prepare s) c.args.time =
    c.begin.ensures.seen ∙ ap (λ t. after_begin t c.args.time) c.in_default.ensures.ok in
    let m : IsMomentOf (moment_at c.args.start c.args.time c.args.is_row c.args.inputs.now) (after_begin (after_prepare s) c.args.time) =
    moment_of_some c.args.start c.args.time c.args.is_row c.args.inputs.now (after_begin (after_prepare s) c.args.time) (sym c.requires.start) refl in
    let there : IsMomentOf c.moment_of-moment.result (after_begin (after_prepare s) c.args.time) =
    subst (λ (k : Moment). IsMomentOf k (after_begin (after_prepare s) c.args.time)) (sym c.moment_of-moment.ensures) m in
    same_moment c.moment_of-moment.result (after_begin (after_prepare s) c.args.time) (g.S.StreamStore.seen c.tell_inputs.new.store)
    (c.tell_inputs.ensures.goes_on.phase ∙ ap (λ (t : Seen). t.phase) e) there

pub evaluate-requires-clause-fresh : goal.evaluate-requires-clause-fresh
evaluate-requires-clause-fresh g c κs within =
    let s = g.S.StreamStore.seen c.args.store.now in
    let e : g.S.StreamStore.seen c.begin.new.store ≡ after_begin (after_prepare s) c.args.time =
    c.begin.ensures.seen ∙ ap (λ t. after_begin t c.args.time) c.in_default.ensures.ok in
    let told : total (rooms (g.S.StreamStore.seen c.tell_inputs.new.store)) ≡ instances_to_come s =
    ap total c.tell_inputs.ensures.goes_on.rooms ∙ (ap (λ t. total (rooms t)) e ∙ first_room s c.args.time) in
    subst (λ k. IsFresh c.make_all_room.new.scratch k) (sym told) c.in_default.ensures.fresh

pub conclude-requires-clause-moment : goal.conclude-requires-clause-moment
conclude-requires-clause-moment g c =
    let s = g.S.StreamStore.seen c.args.store.now in
    let e : g.S.StreamStore.seen c.begin.new.store ≡ after_begin (after_prepare s) c.args.time =
    c.begin.ensures.seen ∙ ap (λ t. after_begin t c.args.time) c.in_default.ensures.ok in
    let m : IsMomentOf (moment_at c.args.start c.args.time c.args.is_row c.args.inputs.now) (after_begin (after_prepare s) c.args.time) =
    moment_of_some c.args.start c.args.time c.args.is_row c.args.inputs.now (after_begin (after_prepare s) c.args.time) (sym c.requires.start) refl in
    let there : IsMomentOf c.moment_of-moment.result (after_begin (after_prepare s) c.args.time) =
    subst (λ (k : Moment). IsMomentOf k (after_begin (after_prepare s) c.args.time)) (sym c.moment_of-moment.ensures) m in
    same_moment c.moment_of-moment.result (after_begin (after_prepare s) c.args.time) (g.S.StreamStore.seen c.evaluate.new.store)
    (c.evaluate.ensures.goes_on.phase ∙ (c.tell_inputs.ensures.goes_on.phase ∙ ap (λ (t : Seen). t.phase) e)) there

pub conclude-requires-clause-places_room : goal.conclude-requires-clause-places_room
conclude-requires-clause-places_room g c =
    let s = g.S.StreamStore.seen c.args.store.now in
    let e : g.S.StreamStore.seen c.begin.new.store ≡ after_begin (after_prepare s) c.args.time =
    c.begin.ensures.seen ∙ ap (λ t. after_begin t c.args.time) c.in_default.ensures.ok in
    let told : total (rooms (g.S.StreamStore.seen c.tell_inputs.new.store)) ≡ instances_to_come s =
    ap total c.tell_inputs.ensures.goes_on.rooms ∙ (ap (λ t. total (rooms t)) e ∙ first_room s c.args.time) in
    let all : total (rooms (g.S.StreamStore.seen c.evaluate.new.store)) ≡ instances_to_come s = ap total c.evaluate.ensures.goes_on.rooms ∙ told in
    omega (arith, all, c.evaluate.ensures.places, c.in_default.ensures.fresh.places_room)

pub conclude-requires-clause-closing_room : goal.conclude-requires-clause-closing_room
conclude-requires-clause-closing_room g c =
    let s = g.S.StreamStore.seen c.args.store.now in
    let e : g.S.StreamStore.seen c.begin.new.store ≡ after_begin (after_prepare s) c.args.time =
    c.begin.ensures.seen ∙ ap (λ t. after_begin t c.args.time) c.in_default.ensures.ok in
    let told : total (rooms (g.S.StreamStore.seen c.tell_inputs.new.store)) ≡ instances_to_come s =
    ap total c.tell_inputs.ensures.goes_on.rooms ∙ (ap (λ t. total (rooms t)) e ∙ first_room s c.args.time) in
    let all : total (rooms (g.S.StreamStore.seen c.evaluate.new.store)) ≡ instances_to_come s = ap total c.evaluate.ensures.goes_on.rooms ∙ told in
    let kept : vec_capacity c.evaluate.new.scratch.closing ≡ vec_capacity c.make_all_room.new.scratch.closing = ap vec_capacity c.evaluate.ensures.kept.0 in
    omega (arith, all, kept, c.in_default.ensures.fresh.closing_room)

pub conclude-requires-clause-step_values_room : goal.conclude-requires-clause-step_values_room
conclude-requires-clause-step_values_room g c =
    let s = g.S.StreamStore.seen c.args.store.now in
    let e : g.S.StreamStore.seen c.begin.new.store ≡ after_begin (after_prepare s) c.args.time =
    c.begin.ensures.seen ∙ ap (λ t. after_begin t c.args.time) c.in_default.ensures.ok in
    let told : total (rooms (g.S.StreamStore.seen c.tell_inputs.new.store)) ≡ instances_to_come s =
    ap total c.tell_inputs.ensures.goes_on.rooms ∙ (ap (λ t. total (rooms t)) e ∙ first_room s c.args.time) in
    let all : total (rooms (g.S.StreamStore.seen c.evaluate.new.store)) ≡ instances_to_come s = ap total c.evaluate.ensures.goes_on.rooms ∙ told in
    let kept : vec_capacity c.evaluate.new.scratch.step_values ≡ vec_capacity c.make_all_room.new.scratch.step_values = ap vec_capacity c.evaluate.ensures.kept.1 in
    omega (arith, all, kept, c.in_default.ensures.fresh.step_values_room)

pub returns-clause-never : goal.returns-clause-never
returns-clause-never g c bounded plain is =
    subst
    (λ end. ShowsConcluded end c.args.plan.now (g.S.StreamStore.seen c.evaluate.new.store) (g.S.StreamStore.seen c.conclude.new.store))
    is c.conclude.ensures.seen

pub returns-clause-ends : goal.returns-clause-ends
returns-clause-ends g c =
    let s = g.S.StreamStore.seen c.args.store.now in
    let e : g.S.StreamStore.seen c.begin.new.store ≡ after_begin (after_prepare s) c.args.time =
    c.begin.ensures.seen ∙ ap (λ t. after_begin t c.args.time) c.in_default.ensures.ok in
    let seen = g.S.StreamStore.seen in
    let remembers = g.S.StreamStore.remembers in
    whole_step c.args.plan.now c.args.show c.args.start c.args.time c.args.is_row c.args.inputs.now c.moment_of-moment.result c.moment_of-moment.ensures
    (remembers c.args.store.now) (seen c.args.store.now) (remembers c.make_all_room.new.store) (seen c.make_all_room.new.store)
    (remembers c.begin.new.store) (seen c.begin.new.store) (remembers c.tell_inputs.new.store) (seen c.tell_inputs.new.store)
    (remembers c.evaluate.new.store) (seen c.evaluate.new.store) (remembers c.conclude.new.store) (seen c.conclude.new.store)
    c.evaluate.new.scratch c.conclude.result c.conclude.new.scratch.step_values.items
    c.make_all_room.ensures.stands c.begin.ensures.stands (ap start_seen e ∙ sym c.requires.start) (ap (λ (t : Seen). t.layout) e ∙ c.requires.of.layout)
    c.tell_inputs.ensures.takes c.evaluate.ensures.evaluates c.conclude.ensures.concludes
