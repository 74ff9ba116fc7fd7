-- By whether the clause is of the layer, stands there and is active.
use Rattle.std.proofs.Common.{◌≡◌, sym, ap, ◌∙◌, length, slice_get, arith}
use Rattle.std.proofs.lemmas.Option.{slice_get_within}
use Rattle.lola_model.specs.Graph.{layer_of, spawn_node}
use Rattle.lola_model.specs.Model.{spawn_pacing}
use Rattle.lola_step.specs.Moments.{active_in}
use Rattle.lola_step.proofs.Layouts.{pacings_length}
use Rattle.lola_step.proofs.SpawnDuties.{asked_next, few_names, is_for, may_ask, may_spawn, names_each, no_clause_next, other_layer_next, passive_next}
use Rattle.lola_step.proofs.spawns.spawn_stream.Goals as goal

pub returns-then-layer_at-layer : goal.returns-then-layer_at-layer
returns-then-layer_at-layer g c =
    let plan = c.args.plan.now in
    let n = c.args.n in
    let node = c.layer_at.ensures ∙ ap (λ ls. layer_of ls (spawn_node n)) c.as_slice.ensures in
    other_layer_next plan c.requires.accepted c.args.moment.now c.args.layer n c.args.stream.now c.requires.stream c.args.spawn_result
    (g.S.StreamStore.remembers c.args.store.now) (g.S.StreamStore.seen c.args.store.now) c.requires.at (λ e. c.if-layer_at-layer.true (node ∙ e))

pub spawn_pacing_at-requires : goal.spawn_pacing_at-requires
spawn_pacing_at-requires g c =
    let plan = c.args.plan.now in
    let a = slice_get_within plan.spec.streams c.args.n c.args.stream.now c.requires.stream in
    let b = pacings_length plan c.requires.accepted in
    let d : length c.as_slice-in-Some.result.now ≡ length plan.pacings = ap length c.as_slice-in-Some.ensures in
    omega (arith, a, b, d)

pub spawning_of-asked-requires-clause-few : goal.spawning_of-asked-requires-clause-few
spawning_of-asked-requires-clause-few g c =
    let of_layer = sym (c.layer_at.ensures ∙ ap (λ ls. layer_of ls (spawn_node c.args.n)) c.as_slice.ensures) ∙ c.if-layer_at-layer.false in
    let pacing = c.spawn_pacing_at.ensures ∙ ap (λ ps. spawn_pacing (slice_get ps c.args.n)) c.as_slice-in-Some.ensures in
    let active = sym (ap (active_in c.args.moment.now) pacing) ∙ (sym c.is_active.ensures ∙ c.if-is_active.true) in
    few_names c.args.plan.now c.requires.accepted c.args.moment.now c.args.layer c.args.n c.args.stream.now c.requires.stream c.args.spawn_result
    (g.S.StreamStore.remembers c.args.store.now) (g.S.StreamStore.seen c.args.store.now) c.requires.at c.in-Some.clause c.in-Some.is of_layer active

pub spawning_of-asked-requires-clause-named : goal.spawning_of-asked-requires-clause-named
spawning_of-asked-requires-clause-named g c =
    let of_layer = sym (c.layer_at.ensures ∙ ap (λ ls. layer_of ls (spawn_node c.args.n)) c.as_slice.ensures) ∙ c.if-layer_at-layer.false in
    let pacing = c.spawn_pacing_at.ensures ∙ ap (λ ps. spawn_pacing (slice_get ps c.args.n)) c.as_slice-in-Some.ensures in
    let active = sym (ap (active_in c.args.moment.now) pacing) ∙ (sym c.is_active.ensures ∙ c.if-is_active.true) in
    names_each c.args.plan.now c.requires.accepted c.args.moment.now c.args.layer c.args.n c.args.stream.now c.requires.stream c.args.spawn_result
    (g.S.StreamStore.remembers c.args.store.now) (g.S.StreamStore.seen c.args.store.now) c.requires.at c.in-Some.clause c.in-Some.is of_layer active

pub spawning_of-asked-requires-clause-asks : goal.spawning_of-asked-requires-clause-asks
spawning_of-asked-requires-clause-asks g c =
    let of_layer = sym (c.layer_at.ensures ∙ ap (λ ls. layer_of ls (spawn_node c.args.n)) c.as_slice.ensures) ∙ c.if-layer_at-layer.false in
    let pacing = c.spawn_pacing_at.ensures ∙ ap (λ ps. spawn_pacing (slice_get ps c.args.n)) c.as_slice-in-Some.ensures in
    let active = sym (ap (active_in c.args.moment.now) pacing) ∙ (sym c.is_active.ensures ∙ c.if-is_active.true) in
    may_ask c.args.plan.now c.requires.accepted c.args.moment.now c.args.layer c.args.n c.args.stream.now c.requires.stream c.args.spawn_result
    (g.S.StreamStore.remembers c.args.store.now) (g.S.StreamStore.seen c.args.store.now) c.requires.at c.in-Some.clause c.in-Some.is of_layer active c.requires.moment

pub overflow_cast-n : goal.overflow_cast-n
overflow_cast-n g c =
    let a = slice_get_within c.args.plan.now.spec.streams c.args.n c.args.stream.now c.requires.stream in
    let b = c.requires.accepted.named.few_streams in
    omega (arith, a, b)

pub take-requires-clause-may : goal.take-requires-clause-may
take-requires-clause-may g c =
    let of_layer = sym (c.layer_at.ensures ∙ ap (λ ls. layer_of ls (spawn_node c.args.n)) c.as_slice.ensures) ∙ c.if-layer_at-layer.false in
    let pacing = c.spawn_pacing_at.ensures ∙ ap (λ ps. spawn_pacing (slice_get ps c.args.n)) c.as_slice-in-Some.ensures in
    let active = sym (ap (active_in c.args.moment.now) pacing) ∙ (sym c.is_active.ensures ∙ c.if-is_active.true) in
    may_spawn c.args.plan.now c.requires.accepted c.args.moment.now c.args.layer c.args.n c.args.stream.now c.requires.stream c.args.spawn_result
    (g.S.StreamStore.remembers c.args.store.now) (g.S.StreamStore.seen c.args.store.now) c.requires.at c.in-Some.clause c.in-Some.is of_layer active

pub take-requires-clause-fits : goal.take-requires-clause-fits
take-requires-clause-fits g c =
    let of_layer = sym (c.layer_at.ensures ∙ ap (λ ls. layer_of ls (spawn_node c.args.n)) c.as_slice.ensures) ∙ c.if-layer_at-layer.false in
    let pacing = c.spawn_pacing_at.ensures ∙ ap (λ ps. spawn_pacing (slice_get ps c.args.n)) c.as_slice-in-Some.ensures in
    let active = sym (ap (active_in c.args.moment.now) pacing) ∙ (sym c.is_active.ensures ∙ c.if-is_active.true) in
    is_for c.args.plan.now c.requires.accepted c.args.moment.now c.args.layer c.args.n c.args.stream.now c.requires.stream c.args.spawn_result
    (g.S.StreamStore.remembers c.args.store.now) (g.S.StreamStore.seen c.args.store.now) c.requires.at c.in-Some.clause c.in-Some.is of_layer active c.spawning_of-asked.result c.spawning_of-asked.ensures.fits

pub returns-in-None : goal.returns-in-None
returns-in-None g c =
    no_clause_next c.args.plan.now c.requires.accepted c.args.moment.now c.args.layer c.args.n c.args.stream.now c.requires.stream c.args.spawn_result
    (g.S.StreamStore.remembers c.args.store.now) (g.S.StreamStore.seen c.args.store.now) c.requires.at c.in-None.is

pub returns-then-is_active : goal.returns-then-is_active
returns-then-is_active g c =
    let of_layer = sym (c.layer_at.ensures ∙ ap (λ ls. layer_of ls (spawn_node c.args.n)) c.as_slice.ensures) ∙ c.if-layer_at-layer.false in
    let pacing = c.spawn_pacing_at.ensures ∙ ap (λ ps. spawn_pacing (slice_get ps c.args.n)) c.as_slice-in-Some.ensures in
    let active = sym (ap (active_in c.args.moment.now) pacing) ∙ (sym c.is_active.ensures ∙ c.if-is_active.true) in
    asked_next c.args.plan.now c.requires.accepted c.args.moment.now c.args.layer c.args.n c.args.stream.now c.requires.stream c.args.spawn_result
    (g.S.StreamStore.remembers c.args.store.now) (g.S.StreamStore.seen c.args.store.now) c.requires.at c.in-Some.clause c.in-Some.is of_layer active c.spawning_of-asked.result c.take.result
    (g.S.StreamStore.remembers c.take.new.store) (g.S.StreamStore.seen c.take.new.store) c.spawning_of-asked.ensures.asked c.take.ensures.seen c.take.ensures.taken

pub returns-else-is_active : goal.returns-else-is_active
returns-else-is_active g c =
    let plan = c.args.plan.now in
    let passive = sym c.is_active.ensures ∙ c.if-is_active.false in
    let pacing = c.spawn_pacing_at.ensures ∙ ap (λ ps. spawn_pacing (slice_get ps c.args.n)) c.as_slice-in-Some.ensures in
    passive_next plan c.requires.accepted c.args.moment.now c.args.layer c.args.n c.args.stream.now c.requires.stream c.args.spawn_result
    (g.S.StreamStore.remembers c.args.store.now) (g.S.StreamStore.seen c.args.store.now) c.requires.at (sym (ap (active_in c.args.moment.now) pacing) ∙ passive)
