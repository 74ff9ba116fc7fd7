-- A new store that goes on from a state, before anything was loaded.
use Rattle.std.proofs.Common.{◌≡◌, ℕ, ◌+◌, ◌-◌, ◌≤◌, List, [], ◌∷◌, length, map, drop, refl, subst, ap, sym, ◌∙◌, arith, Bool, true, false, Option, Some, None, slice_get, is_some, nat_le, if◌then◌else◌, IsTrue}
use Rattle.std.specs.Option.{option_map}
use Rattle.std.proofs.lemmas.Bool.{and_parts, leb-true}
use Rattle.std.proofs.lemmas.List.{length-drop, length-map}
use Rattle.std.proofs.lemmas.Option.{slice_get-map, slice_get_within}
use Rattle.lola_value.specs.Naming.{Naming, the_values}
use Rattle.lola_value.specs.Times.{latest}
use Rattle.lola_value.specs.declared.text.Field.{Field}
use Rattle.lola_model.specs.Acceptance.{IsAccepted}
use Rattle.lola_model.specs.Store.{Running, Seen, SeenInstance, SeenStream, StreamLayout, has_spawned, instances_of, instances_seen, is_running, kept_in, layout_of, newborn_seen, no_params, opened, start_seen, time_seen}
use Rattle.lola_model.specs.declared.plan.Plan.{Plan}
use Rattle.lola_instances_stream.proofs.Outcomes.{item_at}
use Rattle.lola_instances.specs.Opening.{IsStorable}
use Rattle.lola_instances.specs.Restoring.{all_spawned, phase_at, steps_at}
use Rattle.lola_instances.specs.Stores.{bounded_remembers, bounded_seen}
use Rattle.lola_instances.specs.declared.store.BoundedStore.{BoundedStore}
use Rattle.lola_save_text.specs.Fitting.{are_values, is_last}
use Rattle.lola_save_text.specs.Forms.{forms_of}
use Rattle.lola_save_text.specs.Validity.{IsInstance, IsSaved, IsStream}
use Rattle.lola_save_text.specs.declared.forms.StreamForm.{StreamForm}
use Rattle.lola_save_text.specs.declared.state.SavedInstance.{SavedInstance}
use Rattle.lola_save_text.specs.declared.state.SavedState.{SavedState}
use Rattle.lola_save_text.specs.declared.state.Times.{Times}
use Rattle.lola_save_text.specs.JournalStates.{last_values}
use Rattle.lola_save_text.specs.Restored.{IsSavedOf}
use Rattle.lola_save.specs.Fitting.{IsFormOf}
use Rattle.lola_save.specs.Loaded.{AreStreamsLoaded, CanLoad, IsOpen, IsPlain, IsStreamLoaded, times_seen}
use Rattle.lola_save.specs.Opening.{IsGoingOn}
use Rattle.lola_save.proofs.AllBirths.{count-long, instance-at, no-values, plain-loaded, streams-at, streams-long}
use Rattle.lola_save.proofs.FormsWhole.{form-is, known-form}
use Rattle.lola_save.proofs.StoreSlots.{some-is}

-- a stream of a new store, and behind a last row

abbrev mark : Option ℕ → SeenStream → SeenStream
mark None x = x
mark (Some l) x = record x { spawned = true }

marked-at : (last : Option ℕ) (ls : List StreamLayout) (n : ℕ) (l : StreamLayout) → slice_get ls n ≡ Some l → slice_get (all_spawned last (map opened ls)) n ≡ Some (mark last (opened l))
marked-at None ls n l e = slice_get-map opened ls n ∙ ap (option_map opened) e
marked-at (Some t) ls n l e = slice_get-map (mark (Some t)) (map opened ls) n ∙ ap (option_map (mark (Some t))) (slice_get-map opened ls n ∙ ap (option_map opened) e)

abbrev firsts : Bool → List SeenInstance
firsts spawns = if spawns then [] else newborn_seen 0 no_params ∷ []

mark-instances : (last : Option ℕ) (l : StreamLayout) → (mark last (opened l)).instances ≡ firsts l.spawns
mark-instances None l = refl
mark-instances (Some t) l = refl

module _ (plan : Plan) (storable : IsStorable plan) (accepted : IsAccepted plan) (state : SavedState) (s : BoundedStore) (new : IsGoingOn plan state s) where
  shown-at : (n : ℕ) (form : StreamForm) → slice_get (forms_of plan) n ≡ Some form → instances_seen (bounded_seen s) n ≡ firsts form.spawns
  shown-at n form e =
      let k = known-form plan n form e in
      ap (λ (x : Seen). instances_seen x n) new.seen
      ∙ ap instances_of (marked-at state.last (layout_of plan).streams n k.layout k.laid)
      ∙ mark-instances state.last k.layout
      ∙ ap firsts (sym k.spawns)

  blank-at : (n : ℕ) (form : StreamForm) → slice_get (forms_of plan) n ≡ Some form → form.spawns ≡ false → IsPlain s n
  blank-at n form e plain =
      let one : instances_seen (bounded_seen s) n ≡ newborn_seen 0 no_params ∷ [] = shown-at n form e ∙ ap firsts plain in
      let at : slice_get (instances_seen (bounded_seen s) n) 0 ≡ Some (newborn_seen 0 no_params) = ap (λ (l : List SeenInstance). slice_get l 0) one in
      record {
        one = ap length one;
        params = λ x f. ap (λ (y : SeenInstance). the_values y.params) (sym (some-is (sym at ∙ f)));
        blank = record {
          silent = record { x = newborn_seen 0 no_params; at = at; silent = refl };
          none = λ names. new.none names n 0 (let l = ap length one in omega (arith, l));
        };
      }

  -- behind a last row all is open

  spawned-at : (last : ℕ) → state.last ≡ Some last → (n : ℕ) (form : StreamForm) → slice_get (forms_of plan) n ≡ Some form → has_spawned (slice_get (bounded_seen s).streams n) ≡ true
  spawned-at last here n form e =
      let k = known-form plan n form e in
      ap (λ (x : Seen). has_spawned (slice_get x.streams n)) new.seen
      ∙ ap has_spawned (marked-at state.last (layout_of plan).streams n k.layout k.laid)
      ∙ ap (λ (o : Option ℕ). (mark o (opened k.layout)).spawned) here

  pub open-at : (last : ℕ) → state.last ≡ Some last → (n : ℕ) (form : StreamForm) → slice_get (forms_of plan) n ≡ Some form → IsOpen s n form.spawns
  open-at last here n form e = record {
    plain = λ p. blank-at n form e p;
    none = λ p. shown-at n form e ∙ ap firsts p;
    over = spawned-at last here n form e;
  }

  pub forms-are : (n : ℕ) (form : StreamForm) → slice_get (forms_of plan) n ≡ Some form → IsFormOf (bounded_seen s).layout n form
  forms-are n form e = subst (λ l. IsFormOf l n form) (sym (ap (λ (x : Seen). x.layout) new.seen)) (form-is plan accepted storable n form e)

  module _ (saved : IsSaved (forms_of plan) state) where
    pub times-at : (last : ℕ) → state.last ≡ Some last → (times_seen (bounded_seen s) ≡ record { start = state.start; last = state.last; steps = state.steps }) × CanLoad (bounded_seen s)
    times-at last here = by state.start refl (ap (λ (o : Option ℕ). is_last state.start o) (sym here) ∙ saved.last)
      where
        by : (o : Option ℕ) → state.start ≡ o → is_last state.start (Some last) ≡ true
            → (times_seen (bounded_seen s) ≡ record { start = state.start; last = state.last; steps = state.steps }) × CanLoad (bounded_seen s)
        by None e h = let no : false ≡ true = ap (λ (o : Option ℕ). is_last o (Some last)) (sym e) ∙ h in absurd (cc)
        by (Some a) e h =
            let phase : (bounded_seen s).phase ≡ Running a last = ap (λ (x : Seen). x.phase) new.seen ∙ (λ j. phase_at (e j) (here j)) in
            let steps : (bounded_seen s).steps ≡ state.steps + 1 = ap (λ (x : Seen). x.steps) new.seen ∙ ap (λ (o : Option ℕ). steps_at o state.steps) here in
            let order : (is_last (Some a) (Some last)) ≡ true = ap (λ (o : Option ℕ). is_last o (Some last)) (sym e) ∙ h in
            let start : start_seen (bounded_seen s) ≡ a = λ j. start_seen (record (bounded_seen s) { phase = phase j }) in
            let time : time_seen (bounded_seen s) ≡ last = λ j. time_seen (record (bounded_seen s) { phase = phase j }) in
            let count : (bounded_seen s).steps - 1 ≡ state.steps = omega (arith, steps) in
            let first : Some (start_seen (bounded_seen s)) ≡ state.start = ap Some start ∙ sym e in
            let newest : Some (time_seen (bounded_seen s)) ≡ state.last = ap Some time ∙ sym here in
            let low : a ≤ last = leb-true a last (and_parts (nat_le a last) (nat_le last latest) order).0 in
            let high : last ≤ latest = leb-true last latest (and_parts (nat_le a last) (nat_le last latest) order).1 in
            let few = saved.steps in (
              (λ j. record { start = first j; last = newest j; steps = count j }),
              record {
                running = subst (λ p. IsTrue (is_running p)) (sym phase) refl;
                few = omega (arith, steps, few);
                order = omega (arith, start, time, low);
                in_time = omega (arith, time, high);
              },
            )

    -- where no row was accepted, what is there is what was saved

    module _ (names : Naming) (none : state.last ≡ None) where
      abbrev times : Times
      times = record { start = state.start; last = state.last; steps = state.steps }

      no-last : is_some state.last ≡ false
      no-last = ap (λ (o : Option ℕ). is_some o) none

      empty : {X : Type 0} (xs : List X) → length xs ≡ 0 → xs ≡ []
      empty [] e = refl
      empty (x ∷ xs) e = absurd (omega arith)

      none-had : (form : StreamForm) (a : SavedInstance) (values : List (ℕ × Field)) → 1 ≤ form.kept → IsInstance times form a → IsSavedOf times values form a → values ≡ []
      none-had form a values kept valid of =
          let ring : length a.ring ≡ 0 = valid.none no-last in
          let many : length (last_values form.kept values) ≡ 0 = ap length of.ring ∙ ring in
          let long : length (last_values form.kept values) ≡ length (drop (length values - form.kept) values) = length-map (drop (length values - form.kept) values) (λ v. v.1) in
          let left = length-drop (length values - form.kept) values in
          empty values (omega (arith, many, long, left, kept))

      kept-at : (n : ℕ) (form : StreamForm) → slice_get (forms_of plan) n ≡ Some form → 1 ≤ form.kept
      kept-at n form e =
          let k = known-form plan n form e in
          let whole = form-is plan accepted storable n form e in
          let same : form.kept ≡ k.layout.kept = whole.whole.of.kept ∙ ap kept_in k.laid in
          let some = storable.kept n k.layout k.laid in
          omega (arith, same, some)

      plain-at : (n : ℕ) (form : StreamForm) (is : List SavedInstance) → slice_get (forms_of plan) n ≡ Some form → IsStream times form is → form.spawns ≡ false → IsStreamLoaded times names s n form is
      plain-at n form is e valid plain =
          let p = blank-at n form e plain in
          let long : length is ≡ 1 = sym (count-long is) ∙ valid.plain plain in
          let a = item_at is 0 (omega (arith, long)) in
          let one = instance-at times form [] _ is valid.instances 0 a.0 a.1 in
          let fields = no-values a.0.params (ap (λ ks. are_values ks a.0.params) (sym ((form-is plan accepted storable n form e).plain plain)) ∙ one.params) in
          plain-loaded times names s n form is a.0 p.one long a.1 (record {
            x = newborn_seen 0 no_params;
            at = shown;
            restored = λ more on. record {
              params = sym fields;
              held = tt;
              silent = refl;
              born = λ q. let no : true ≡ false = sym q ∙ plain in absurd (cc);
              past = λ values of. subst (λ (vs : List (ℕ × Field)). bounded_remembers s more n 0 vs) (sym (none-had form a.0 values (kept-at n form e) one of)) (p.blank.none more);
            };
          })
        where
          shown : slice_get (instances_seen (bounded_seen s) n) 0 ≡ Some (newborn_seen 0 no_params)
          shown = ap (λ (l : List SeenInstance). slice_get l 0) (shown-at n form e ∙ ap firsts plain)

      unborn-at : (n : ℕ) (form : StreamForm) (is : List SavedInstance) → slice_get (forms_of plan) n ≡ Some form → IsStream times form is → form.spawns ≡ true → IsStreamLoaded times names s n form is
      unborn-at n form is e valid spawns =
          let long : length is ≡ 0 = sym (count-long is) ∙ valid.unborn spawns no-last in
          let no : is ≡ [] = empty is long in
          record {
            count = ap length (shown-at n form e ∙ ap firsts spawns) ∙ sym long;
            each = λ i a f. absurd (let w = slice_get_within is i a f in omega (arith, w, long));
          }

      stream-at : (n : ℕ) (form : StreamForm) (is : List SavedInstance) (b : Bool) → form.spawns ≡ b → slice_get (forms_of plan) n ≡ Some form → IsStream times form is → IsStreamLoaded times names s n form is
      stream-at n form is true q e valid = unborn-at n form is e valid q
      stream-at n form is false q e valid = plain-at n form is e valid q

      pub none-loaded : AreStreamsLoaded times names s (forms_of plan) state.streams
      none-loaded = record {
        count = streams-long times (forms_of plan) state.streams saved.streams;
        each = λ n form is e f. stream-at n form is form.spawns refl e (streams-at times (forms_of plan) state.streams saved.streams n form is e f);
      }
