use Rattle.std.proofs.Common.{◌≡◌, ◌∙◌, refl, ap, sym, subst, length, arith}
use Rattle.lola_model.specs.Acceptance.{IsAccepted}
use Rattle.lola_model.specs.Store.{layout_of}
use Rattle.lola_instances.specs.Opening.{IsStorable}
use Rattle.lola_instances.specs.Stores.{bounded_remembers, bounded_seen}
use Rattle.lola_save_text.specs.Forms.{forms_of}
use Rattle.lola_save.specs.Fitting.{AreStreamsOf}
use Rattle.lola_save.specs.Taken.{AreStreamsTaken}
use Rattle.lola_save.proofs.FormsFit.{forms-fit, forms-long}
use Rattle.lola_save.proofs.Whole.{state-is}
use Rattle.lola_save.proofs.save.state_with.Goals as goal

pub accepted_is_storable-requires : goal.accepted_is_storable-requires
accepted_is_storable-requires c = subst (λ p. IsAccepted p) (sym c.plan.ensures) c.requires.engine.sound.accepted

pub streams_of-requires-clause-forms : goal.streams_of-requires-clause-forms
streams_of-requires-clause-forms c =
    let plan = c.args.engine.now.state.plan in
    let sizes : length plan.panes ≡ length plan.spec.windows = (subst (λ p. IsStorable p) c.plan.ensures c.accepted_is_storable.ensures).sizes in
    let laid : (bounded_seen c.store.result.now).layout ≡ layout_of plan = ap (λ s. (bounded_seen s).layout) c.store.ensures ∙ c.requires.engine.sound.of.layout in
    subst (λ l. AreStreamsOf l 0 c.args.forms.now) (sym laid) (subst (λ fs. AreStreamsOf (layout_of plan) 0 fs) (sym c.requires.forms) (forms-fit plan sizes))

pub streams_of-requires-clause-few : goal.streams_of-requires-clause-few
streams_of-requires-clause-few c =
    let long : length c.args.forms.now ≡ length c.args.engine.now.state.plan.spec.streams = ap length c.requires.forms ∙ forms-long c.args.engine.now.state.plan in
    let few = c.requires.engine.sound.accepted.named.few_streams in
    omega (arith, long, few)

pub streams_of-requires-clause-streams : goal.streams_of-requires-clause-streams
streams_of-requires-clause-streams c =
    let plan = c.args.engine.now.state.plan in
    ap (λ s. length (bounded_seen s).streams) c.store.ensures
    ∙ c.requires.engine.sound.of.streams
    ∙ sym (ap length c.requires.forms ∙ forms-long plan)

pub returns : goal.returns
returns c before journal h =
    let e = c.args.engine.now.state in
    let store = c.args.engine.now.store in
    let sizes : length e.plan.panes ≡ length e.plan.spec.windows = (subst (λ p. IsStorable p) c.plan.ensures c.accepted_is_storable.ensures).sizes in
    let taken : AreStreamsTaken (bounded_seen store) (bounded_remembers store) e.texts.held 0 (forms_of e.plan) (bounded_seen store).streams c.in_ok-streams.streams =
    subst (λ fs. AreStreamsTaken (bounded_seen store) (bounded_remembers store) e.texts.held 0 fs (bounded_seen store).streams c.in_ok-streams.streams) c.requires.forms
    (subst (λ s. AreStreamsTaken (bounded_seen s) (bounded_remembers s) e.texts.held 0 c.args.forms.now (bounded_seen s).streams c.in_ok-streams.streams) c.store.ensures c.in_ok-streams.ensures) in
    state-is e (bounded_seen store) (bounded_remembers store) c.requires.engine.sound.of.layout (forms-fit e.plan sizes) c.in_ok-streams.streams taken journal c.times-times.result _ before h
    (c.times-times.ensures.reached before journal h) refl refl refl refl
