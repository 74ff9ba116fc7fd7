-- A store that all was loaded into is restored from the state.
use Rattle.std.proofs.Common.{◌≡◌, ℕ, zero, suc, ◌+◌, ◌≤◌, List, [], ◌∷◌, length, refl, subst, ap, sym, ◌∙◌, arith, Bool, true, false, Option, Some, None, slice_get}
use Rattle.std.specs.Option.{unwrap_or}
use Rattle.std.proofs.lemmas.Bool.{and_parts, leb-true}
use Rattle.std.proofs.lemmas.List.{length-map}
use Rattle.std.proofs.lemmas.Option.{slice_get_within}
use Rattle.lola_value.specs.Naming.{Naming}
use Rattle.lola_value.specs.Times.{latest}
use Rattle.lola_model.specs.Model.{most_instances}
use Rattle.lola_model.specs.Store.{New, Phase, Running, SeenInstance, SeenStream, Started, instances_of, instances_seen, layout_of, start_seen, time_seen}
use Rattle.lola_model.specs.declared.plan.Plan.{Plan}
use Rattle.lola_model.specs.declared.spec.Clause.{Clause}
use Rattle.lola_model.specs.declared.spec.Stream.{Stream}
use Rattle.lola_step.specs.Progress.{IsOf}
use Rattle.lola_instances_stream.proofs.Outcomes.{item_at}
use Rattle.lola_instances_stream.specs.Crowds.{crowd_seen}
use Rattle.lola_instances.specs.Restoring.{phase_at, steps_at}
use Rattle.lola_instances.specs.Stores.{bounded_remembers, bounded_seen}
use Rattle.lola_instances.specs.Streams.{crowd_layout}
use Rattle.lola_instances.specs.declared.store.BoundedStore.{BoundedStore}
use Rattle.lola_engine.proofs.Interned.{held-self}
use Rattle.lola_engine.specs.Resuming as engines
use Rattle.lola_save_text.specs.Fitting.{is_last, is_start}
use Rattle.lola_save_text.specs.Forms.{forms_of}
use Rattle.lola_save_text.specs.Validity.{IsSaved, IsStream}
use Rattle.lola_save_text.specs.declared.forms.StreamForm.{StreamForm}
use Rattle.lola_save_text.specs.declared.state.SavedInstance.{SavedInstance}
use Rattle.lola_save_text.specs.declared.state.SavedState.{SavedState}
use Rattle.lola_save_text.specs.declared.state.Times.{Times}
use Rattle.lola_save_text.specs.Restored.{AreRestored, IsRestored, IsRestoredFrom, StreamsAreRestored}
use Rattle.lola_save.specs.Loaded.{AreStreamsLoaded, IsStreamLoaded}
use Rattle.lola_save.specs.Opening.{times_in}
use Rattle.lola_save.proofs.AllBirths.{count-long, streams-at}
use Rattle.lola_save.proofs.FormsFit.{forms-long, many-layouts}
use Rattle.lola_save.proofs.FormsWhole.{known-form}
use Rattle.lola_save.proofs.StoreSlots.{some-is}

-- the instances and streams one after another

module _ (times : Times) (names : Naming) (s : BoundedStore) where
  are-restored : (n k : ℕ) (form : StreamForm) (xs : List SeenInstance) (is : List SavedInstance) → length xs ≡ length is
      → ((i j : ℕ) (x : SeenInstance) (a : SavedInstance) → j ≡ k + i → slice_get xs i ≡ Some x → slice_get is i ≡ Some a → IsRestored times names (bounded_remembers s) n j form x a)
      → AreRestored times names (bounded_remembers s) n k form xs is
  are-restored n k form [] [] e h = tt
  are-restored n k form [] (a ∷ is) e h = absurd (omega arith)
  are-restored n k form (x ∷ xs) [] e h = absurd (omega arith)
  are-restored n k form (x ∷ xs) (a ∷ is) e h = (h 0 k x a (omega arith) refl refl, are-restored n (k + 1) form xs is (omega (arith, e)) (λ i j y b at f g. h (suc i) j y b (omega (arith, at)) f g))

  stream-restored : (n : ℕ) (form : StreamForm) (is : List SavedInstance) → IsStreamLoaded times names s n form is → AreRestored times names (bounded_remembers s) n 0 form (instances_seen (bounded_seen s) n) is
  stream-restored n form is h =
      are-restored n 0 form (instances_seen (bounded_seen s) n) is h.count
      (λ i j x a at e f.
      let l = h.each i a f in
      let same : l.x ≡ x = some-is (sym l.at ∙ e) in
      let place : i ≡ j = omega (arith, at) in
      subst (λ z. z) (λ t. IsRestored times names (bounded_remembers s) n (place t) form (same t) a) (l.restored names (held-self names)))

  streams-restored : (m : ℕ) (forms : List StreamForm) (ss : List SeenStream) (iss : List (List SavedInstance)) → length ss ≡ length forms → length iss ≡ length forms
      → ((i n : ℕ) (form : StreamForm) (x : SeenStream) (is : List SavedInstance) → n ≡ m + i → slice_get forms i ≡ Some form → slice_get ss i ≡ Some x → slice_get iss i ≡ Some is
      → AreRestored times names (bounded_remembers s) n 0 form x.instances is)
      → StreamsAreRestored times names (bounded_remembers s) m forms ss iss
  streams-restored m [] [] [] d e h = tt
  streams-restored m [] [] (is ∷ iss) d e h = absurd (omega (arith, e))
  streams-restored m [] (x ∷ ss) iss d e h = absurd (omega (arith, d))
  streams-restored m (form ∷ forms) [] iss d e h = absurd (omega (arith, d))
  streams-restored m (form ∷ forms) (x ∷ ss) [] d e h = absurd (omega (arith, e))
  streams-restored m (form ∷ forms) (x ∷ ss) (is ∷ iss) d e h =
      (h 0 m form x is (omega arith) refl refl refl, streams-restored (m + 1) forms ss iss (omega (arith, d)) (omega (arith, e)) (λ i n f y js at a b g. h (suc i) n f y js (omega (arith, at)) a b g))

-- how far it is

start_of : Phase → ℕ
start_of p = elim p [ New ↦ 0 | Started a ↦ a | Running a t ↦ a ]

time_of : Phase → ℕ
time_of p = elim p [ New ↦ 0 | Started a ↦ a | Running a t ↦ t ]

at-times : (start last : Option ℕ) (phase : Phase) → is_last start last ≡ true → phase ≡ phase_at start last → engines.IsAtTimes start last phase
at-times None None phase h e = e
at-times None (Some l) phase h e = absurd (cc)
at-times (Some a) None phase h e = e
at-times (Some a) (Some l) phase h e = e

in-order : (start last : Option ℕ) → is_start start ≡ true → is_last start last ≡ true → start_of (phase_at start last) ≤ time_of (phase_at start last)
unfolding start_of time_of
in-order None last g h = omega arith
in-order (Some a) None g h = omega arith
in-order (Some a) (Some l) g h = leb-true a l (and_parts _ _ h).0

in-time : (start last : Option ℕ) → is_start start ≡ true → is_last start last ≡ true → time_of (phase_at start last) ≤ latest
unfolding time_of
in-time None last g h = omega arith
in-time (Some a) None g h = leb-true a latest g
in-time (Some a) (Some l) g h = leb-true l latest (and_parts _ _ h).1

start-is : (start : ℕ) (last : Option ℕ) → start_of (phase_at (Some start) last) ≡ start
unfolding start_of
start-is start None = refl
start-is start (Some l) = refl

time-is : (start : ℕ) (last : Option ℕ) → unwrap_or last start ≡ time_of (phase_at (Some start) last)
unfolding time_of
time-is start None = refl
time-is start (Some l) = refl

beyond : {X : Type 0} (xs : List X) (n : ℕ) → length xs ≤ n → slice_get xs n ≡ None
beyond [] n le = refl
beyond (x ∷ xs) zero le = absurd (omega arith)
beyond (x ∷ xs) (suc n) le = beyond xs n (omega arith)

pub streams-count : (s : BoundedStore) → length (bounded_seen s).streams ≡ length (bounded_seen s).layout.streams
streams-count s = length-map s.streams.items (crowd_seen s.step) ∙ sym (length-map s.streams.items crowd_layout)

-- a stream has as many instances as the state says

few-of : (times : Times) (form : StreamForm) (is : List SavedInstance) (b : Bool) → form.spawns ≡ b → IsStream times form is → length is ≤ 65536
few-of times form is true e h = let n = count-long is in let few = h.few e in omega (arith, n, few)
few-of times form is false e h = let n = count-long is in let one = h.plain e in omega (arith, n, one)

module _ (plan : Plan) (state : SavedState) (names : Naming) (s : BoundedStore) (saved : IsSaved (forms_of plan) state) (layout : (bounded_seen s).layout ≡ layout_of plan)
    (phase : (bounded_seen s).phase ≡ phase_at state.start state.last) (steps : (bounded_seen s).steps ≡ steps_at state.last state.steps) where
  abbrev times : Times
  times = record { start = state.start; last = state.last; steps = state.steps }

  abbrev forms : List StreamForm
  forms = forms_of plan

  started : start_seen (bounded_seen s) ≡ start_of (phase_at state.start state.last)
  unfolding start_of
  started = ap start_of phase

  timed : time_seen (bounded_seen s) ≡ time_of (phase_at state.start state.last)
  unfolding time_of
  timed = ap time_of phase

  forms-many : length (bounded_seen s).streams ≡ length forms
  forms-many = streams-count s ∙ ap (λ l. length l.streams) layout ∙ many-layouts plan.spec.streams plan.kept plan.pacings ∙ sym (forms-long plan)

  module _ (loaded : AreStreamsLoaded times names s forms state.streams) where
    few-instances : (n : ℕ) → length (instances_seen (bounded_seen s) n) ≤ most_instances
    few-instances n = by (slice_get forms n) refl
      where
        none : (o : Option SeenStream) → o ≡ None → length (instances_of o) ≤ most_instances
        none None e = omega arith
        none (Some x) e = absurd (cc)

        by : (o : Option StreamForm) → slice_get forms n ≡ o → length (instances_seen (bounded_seen s) n) ≤ most_instances
        by None e = none (slice_get (bounded_seen s).streams n) (beyond (bounded_seen s).streams n (let many = forms-many in let out = past forms n e in omega (arith, many, out)))
          where
            past : {X : Type 0} (xs : List X) (k : ℕ) → slice_get xs k ≡ None → length xs ≤ k
            past [] k q = omega arith
            past (x ∷ xs) zero q = absurd (cc)
            past (x ∷ xs) (suc k) q = let r = past xs k q in omega (arith, r)
        by (Some form) e =
            let within = slice_get_within forms n form e in
            let those = item_at state.streams n (let c = loaded.count in omega (arith, c, within)) in
            let count = (loaded.each n form those.0 e those.1).count in
            let few = few-of times form those.0 form.spawns refl (streams-at times forms state.streams saved.streams n form those.0 e those.1) in
            omega (arith, count, few)

    single-instance : (n : ℕ) (stream : Stream) → slice_get plan.spec.streams n ≡ Some stream → stream.spawn ≡ None → length (instances_seen (bounded_seen s) n) ≡ 1
    single-instance n stream at none =
        let within = slice_get_within plan.spec.streams n stream at in
        let form = item_at forms n (let l = forms-long plan in omega (arith, l, within)) in
        let those = item_at state.streams n (let c = loaded.count in let l = forms-long plan in omega (arith, c, l, within)) in
        let known = known-form plan n form.0 form.1 in
        let same : known.stream ≡ stream = some-is (sym known.at ∙ at) in
        let plain : form.0.spawns ≡ false = known.spawns ∙ known.spawns_are ∙ ap (λ (x : Stream). elim x.spawn [ None ↦ false | Some k ↦ true ]) same ∙ ap (λ (o : Option Clause). elim o [ None ↦ false | Some k ↦ true ]) none in
        let one = (streams-at times forms state.streams saved.streams n form.0 those.0 form.1 those.1).plain plain in
        (loaded.each n form.0 those.0 form.1 those.1).count ∙ sym (count-long those.0) ∙ one

    is-of : IsOf plan (bounded_seen s)
    is-of = record {
      layout = layout;
      streams = forms-many ∙ forms-long plan;
      few = few-instances;
      single = single-instance;
      order = let a = started in let b = timed in let o = in-order state.start state.last saved.start saved.last in omega (arith, a, b, o);
      in_time = let b = timed in let t = in-time state.start state.last saved.start saved.last in omega (arith, b, t);
    }

    pub made-on : engines.IsRestored plan (times_in state) (bounded_seen s)
    made-on = record {
      of = is-of;
      phase = at-times state.start state.last (bounded_seen s).phase saved.last phase;
      steps = steps ∙ same-steps state.last;
      few = saved.steps;
    }
      where
        same-steps : (o : Option ℕ) → steps_at o state.steps ≡ engines.steps_at o state.steps
        same-steps None = refl
        same-steps (Some l) = refl

    pub made-restored : (start : ℕ) → state.start ≡ Some start → IsRestoredFrom plan state names (bounded_remembers s) (bounded_seen s)
    made-restored start e =
        let first : start_seen (bounded_seen s) ≡ start = started ∙ ap (λ o. start_of (phase_at o state.last)) e ∙ start-is start state.last in
        record {
          layout = layout;
          start = e ∙ ap Some (sym first);
          time = ap (λ (t : ℕ). unwrap_or state.last t) first ∙ time-is start state.last ∙ ap (λ o. time_of (phase_at o state.last)) (sym e) ∙ sym timed;
          streams = streams-restored times names s 0 forms (bounded_seen s).streams state.streams forms-many loaded.count
              (λ i n form x is at a b c.
              let place : i ≡ n = omega (arith, at) in
              subst (λ (xs : List SeenInstance). AreRestored times names (bounded_remembers s) n 0 form xs is)
              (ap (λ (k : ℕ). instances_seen (bounded_seen s) k) (sym place) ∙ ap instances_of b)
              (stream-restored times names s n form is (subst (λ (k : ℕ). IsStreamLoaded times names s k form is) place (loaded.each i form is a c))));
        }
