use Rattle.std.proofs.Common.{◌≡◌, ◌∙◌, ap, slice_get, subst, sym, length, arith, Some, None}
use Rattle.lola_save_text.specs.Forms.{forms_of}
use Rattle.lola_save_text.specs.Validity.{AreStreams}
use Rattle.lola_save.specs.Loaded.{AreStreamsLoaded}
use Rattle.lola_save.proofs.FormsFit.{forms-long}
use Rattle.lola_save.proofs.LoadedEngine.{store-of}
use Rattle.lola_save.proofs.LoadedStreams.{on-self}
use Rattle.lola_save.proofs.Naming.{more-self}
use Rattle.lola_save.proofs.StoreGoesOn.{forms-are, none-loaded, open-at, times-at}
use Rattle.lola_save.proofs.load.load_lives.Goals as goal

pub returns-in-None-clause-more : goal.returns-in-None-clause-more
returns-in-None-clause-more c = more-self c.args.texts.now c.requires.room

pub returns-in-None-clause-store : goal.returns-in-None-clause-store
returns-in-None-clause-store c =
    let plan = c.args.plan.now in
    let state = c.args.state.now in
    let s = c.args.store.now in
    store-of plan state c.args.texts.now.held s s c.requires.saved c.requires.new (on-self s)
    (none-loaded plan c.accepted_is_storable.ensures c.requires.accepted state s c.requires.new c.requires.saved c.args.texts.now.held c.in-None.is) (λ e. c.requires.new)

pub load_streams-requires-clause-step : goal.load_streams-requires-clause-step
load_streams-requires-clause-step c = (times-at c.args.plan.now c.accepted_is_storable.ensures c.requires.accepted c.args.state.now c.args.store.now c.requires.new c.requires.saved _ c.in-Some.is).1

pub load_streams-requires-clause-count : goal.load_streams-requires-clause-count
load_streams-requires-clause-count c =
    let long : length c.args.forms.now ≡ length c.args.plan.now.spec.streams = ap length c.requires.forms ∙ forms-long c.args.plan.now in
    let few = c.requires.accepted.named.few_streams in
    omega (arith, long, few)

pub load_streams-requires-clause-forms : goal.load_streams-requires-clause-forms
load_streams-requires-clause-forms c = λ n form e.
    forms-are c.args.plan.now c.accepted_is_storable.ensures c.requires.accepted c.args.state.now c.args.store.now c.requires.new n form (ap (λ fs. slice_get fs n) (sym c.requires.forms) ∙ e)

pub load_streams-requires-clause-saved : goal.load_streams-requires-clause-saved
load_streams-requires-clause-saved c =
    let t = (times-at c.args.plan.now c.accepted_is_storable.ensures c.requires.accepted c.args.state.now c.args.store.now c.requires.new c.requires.saved _ c.in-Some.is).0 in
    subst (λ z. z) (λ j. AreStreams (sym t j) (sym c.requires.forms j) (sym c.as_slice.ensures j)) c.requires.saved.streams

pub load_streams-requires-clause-open : goal.load_streams-requires-clause-open
load_streams-requires-clause-open c = λ n form e.
    open-at c.args.plan.now c.accepted_is_storable.ensures c.requires.accepted c.args.state.now c.args.store.now c.requires.new _ c.in-Some.is n form (ap (λ fs. slice_get fs n) (sym c.requires.forms) ∙ e)

pub returns-in_ok-load_streams-in-Some-clause-store : goal.returns-in_ok-load_streams-in-Some-clause-store
returns-in_ok-load_streams-in-Some-clause-store c =
    let plan = c.args.plan.now in
    let state = c.args.state.now in
    let e = c.in_ok-load_streams-in-Some.ensures in
    let new = c.load_streams.new.store in
    let names = c.load_streams.new.texts.held in
    let t = (times-at plan c.accepted_is_storable.ensures c.requires.accepted state c.args.store.now c.requires.new c.requires.saved _ c.in-Some.is).0 in
    let loaded : AreStreamsLoaded (record { start = state.start; last = state.last; steps = state.steps }) names new (forms_of plan) state.streams =
    subst (λ z. z) (λ j. AreStreamsLoaded (t j) names new (c.requires.forms j) (c.as_slice.ensures j)) e.loaded in
    store-of plan state names c.args.store.now new c.requires.saved c.requires.new e.on loaded (λ none. let no : Some c.in-Some.field-0 ≡ None = sym c.in-Some.is ∙ none in absurd (cc))
