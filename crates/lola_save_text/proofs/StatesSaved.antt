-- The law: the state of a journal is one that its plan can have, and it is the only one.
use Rattle.std.proofs.Common.{◌≡◌, ℕ, ◌+◌, ◌≤◌, ◌^◌, ◌↔◌, List, [], ◌∷◌, length, refl, sym, subst, ap, ◌∙◌, arith, true, false, Option, Some, None, nat_le, slice_get}
use Rattle.std.specs.Prelude.{is_some}
use Rattle.std.specs.List.{list_all}
use Rattle.std.specs.Str.{is_utf8}
use Rattle.std.proofs.lemmas.Bool.{and_from, le-leb}
use Rattle.lola_value.specs.Times.{latest}
use Rattle.lola_model.specs.Acceptance.{IsAccepted}
use Rattle.lola_model.specs.Journal.{accepted, known_start, last_accepted, opening_time}
use Rattle.lola_model.specs.Model.{made}
use Rattle.lola_model.specs.NextStep.{next_settled, most_steps}
use Rattle.lola_model.specs.Runs.{settled_model, HasModelsOfRuns, streams_after}
use Rattle.lola_model.specs.StepOrder.{DoNotFall}
use Rattle.lola_model.specs.Steps.{start_of}
use Rattle.lola_model.specs.Table.{TableRow}
use Rattle.lola_model.specs.Trace.{IsTraceable, input_kinds}
use Rattle.lola_model.specs.declared.journal.Entry.{Entry}
use Rattle.lola_model.specs.declared.journal.Mark.{Mark}
use Rattle.lola_model.specs.declared.journal.Mark.TheVariants as mark
use Rattle.lola_model.specs.declared.journal.Row.{Row}
use Rattle.lola_model.specs.declared.plan.Plan.{Plan}
use Rattle.lola_model.proofs.RunModels.{has_models_of_runs}
use Rattle.lola_model.proofs.StepsInOrder.{legal_do_not_fall}
use Rattle.lola_step_contents.proofs.Shapes.{passes_at}
use Rattle.lola_model.specs.Named.{is_well_shaped}
use Rattle.lola_save_text.specs.declared.state.Times.{Times}
use Rattle.lola_save_text.specs.Fitting.{time_or, is_start, is_last}
use Rattle.lola_save_text.specs.Forms.{forms_of}
use Rattle.lola_save_text.specs.declared.state.SavedState.{SavedState}
use Rattle.lola_save_text.specs.Validity.{AreStreams, IsSaved}
use Rattle.lola_save_text.specs.JournalStates.{saved_streams, state_of, state_over, IsStateOf, AreTraceable, IsJournalOf}
use Rattle.lola_save_text.proofs.AcceptedForms.{accepted-storable}
use Rattle.lola_save_text.proofs.AnsweredKinds.{plain-stream}
use Rattle.lola_save_text.proofs.Assembly.{IsKnownTable, streams-are}
use Rattle.lola_save_text.proofs.KindedRows.{survivors-of}
use Rattle.lola_save_text.proofs.Sound.{IsSound, sound-made}
use Rattle.lola_save_text.proofs.StepTimes.{StampsUpTo, AllFit, under-way-first}

-- the accepted rows of a journal

pub start-is : (start : Option ℕ) (rows : List Row) → time_or 0 (known_start start rows) ≡ start_of start rows
start-is (Some t) rows = refl
start-is None [] = refl
start-is None (r ∷ rs) = refl

ordered-from : (start : Option ℕ) (rows : List Row) → DoNotFall (opening_time start) rows → DoNotFall (start_of start rows) rows
ordered-from (Some t) rows h = h
ordered-from None [] h = tt
ordered-from None (r ∷ rs) h = (omega arith, h.1)

-- the stamp of the last is the greatest
stamps-up-to : (low : ℕ) (rows : List Row) → DoNotFall low rows → StampsUpTo (time_or 0 (last_accepted rows)) rows
stamps-up-to low [] h = tt
stamps-up-to low (r ∷ []) h = (omega arith, tt)
stamps-up-to low (r ∷ q ∷ rs) h =
    let on = stamps-up-to r.stamp (q ∷ rs) h.1 in
    ((let a = on.0 in let b = h.1.0 in omega (arith, a, b)), on)

abbrev AllLatest : List Row → Type 0
AllLatest [] = Unit {0}
AllLatest (r ∷ rs) = (r.stamp ≤ latest) × AllLatest rs

last-latest : (rows : List Row) → AllLatest rows → time_or 0 (last_accepted rows) ≤ latest
last-latest [] h = omega arith
last-latest (r ∷ []) h = h.0
last-latest (r ∷ q ∷ rs) h = last-latest (q ∷ rs) h.1

module _ (plan : Plan) where
  -- by an entry's mark
  abbrev RowsFit : List Row → Type 0
  RowsFit rows = AllFit (input_kinds plan.spec.streams) rows × AllLatest rows

  one-fits : (e : Entry) (m : Mark) (rows : List Row) → IsTraceable plan e → RowsFit rows → RowsFit (elim m as (λ _. List Row) [ mark.Accepted ↦ e.row ∷ rows | mark.Late t ↦ rows ])
  one-fits e mark.Accepted rows h on = ((h.fields, on.0), (h.stamp, on.1))
  one-fits e (mark.Late t) rows h on = on

  rows-fit : (journal : List Entry) → AreTraceable plan journal → RowsFit (accepted journal)
  rows-fit [] h = (tt, tt)
  rows-fit (e ∷ es) h = one-fits e e.mark (accepted es) h.0 (rows-fit es h.1)

-- the start and the last row

start-right : (start : Option ℕ) (rows : List Row) → is_start start ≡ true → AllLatest rows → is_start (known_start start rows) ≡ true
start-right (Some t) rows h g = h
start-right None [] h g = refl
start-right None (r ∷ rs) h g = le-leb r.stamp latest g.0

is-last-by : (start : ℕ) (last : Option ℕ) → (is_some last ≡ true → start ≤ time_or 0 last) → time_or 0 last ≤ latest → is_last (Some start) last ≡ true
is-last-by start None h g = refl
is-last-by start (Some t) h g = and_from (nat_le start t) (nat_le t latest) (le-leb start t (h refl)) (le-leb t latest g)

start-low : (low : ℕ) (rows : List Row) → DoNotFall low rows → is_some (last_accepted rows) ≡ true → low ≤ time_or 0 (last_accepted rows)
start-low low [] h e = absurd (cc)
start-low low (r ∷ []) h e = h.0
start-low low (r ∷ q ∷ rs) h e = let on = start-low r.stamp (q ∷ rs) h.1 (some-last q rs) in let a = h.0 in omega (arith, on, a)
  where
    some-last : (q : Row) (rs : List Row) → is_some (last_accepted (q ∷ rs)) ≡ true
    some-last q [] = refl
    some-last q (p ∷ rs) = some-last p rs

last-right : (start : Option ℕ) (rows : List Row) → DoNotFall (start_of start rows) rows → AllLatest rows → is_last (known_start start rows) (last_accepted rows) ≡ true
last-right (Some t) rows h g = is-last-by t (last_accepted rows) (start-low t rows h) (last-latest rows g)
last-right None [] h g = refl
last-right None (r ∷ rs) h g = is-last-by r.stamp (last_accepted (r ∷ rs)) (start-low r.stamp (r ∷ rs) h) (last-latest (r ∷ rs) g)

no-rows : (rows : List Row) → is_some (last_accepted rows) ≡ false → rows ≡ []
no-rows [] e = refl
no-rows (r ∷ []) e = absurd (cc)
no-rows (r ∷ q ∷ rs) e = absurd (let z = no-rows (q ∷ rs) e in cc)

-- where no row was accepted, there is no step
pub no-steps : (plan : Plan) (start : Option ℕ) (journal : List Entry) → accepted journal ≡ [] → settled_model plan start journal ≡ []
unfolding settled_model
no-steps plan start journal e = ap (λ (rows : List Row). made plan (start_of start rows) (next_settled plan (start_of start rows) rows) (most_steps 0 0 rows) []) e

module _ (plan : Plan) (accepted_plan : IsAccepted plan) (texts : list_all is_utf8 plan.spec.texts ≡ true) (start : Option ℕ) (journal : List Entry) (h : IsJournalOf plan start journal) where
  abbrev rows : List Row
  rows = accepted journal

  ordered : DoNotFall (start_of start rows) rows
  ordered = ordered-from start rows (legal_do_not_fall start journal h.legal)

  fit : RowsFit plan rows
  fit = rows-fit plan journal h.fits

  sound : IsSound plan (start_of start rows) (time_or 0 (last_accepted rows)) rows (settled_model plan start journal)
  unfolding settled_model
  sound =
      sound-made plan accepted_plan texts (start_of start rows) (time_or 0 (last_accepted rows)) rows (2 ^ 62) (omega arith) (most_steps 0 0 rows)
      (under-way-first plan (start_of start rows) (time_or 0 (last_accepted rows)) rows ordered (stamps-up-to (start_of start rows) rows ordered) fit.0) h.steps

  abbrev times : Times
  times = record { start = known_start start rows; last = last_accepted rows; steps = length (settled_model plan start journal) }

  pub known : IsKnownTable plan times (settled_model plan start journal)
  known =
      let s : IsSound plan (time_or 0 (known_start start rows)) (time_or 0 (last_accepted rows)) rows (settled_model plan start journal) =
      subst (λ (b : ℕ). IsSound plan b (time_or 0 (last_accepted rows)) rows (settled_model plan start journal)) (sym (start-is start rows)) sound in
      record {
        timed = s.way.timed;
        up_to = s.way.up_to;
        kinds = s.kinds;
        steps = refl;
        none = λ e. no-steps plan start journal (no-rows rows e);
      }

  pub state-is-saved : IsSaved (forms_of plan) (state_of plan start journal)
  state-is-saved =
      let table : List TableRow = settled_model plan start journal in
      record {
        start = start-right start rows h.option fit.1;
        last = last-right start rows ordered fit.1;
        steps = h.steps;
        streams =
            subst (λ (b : ℕ). AreStreams times (forms_of plan) (saved_streams b (forms_of plan) (streams_after table 0 plan.spec.streams))) (start-is start rows)
            (streams-are plan times table known 0 plan.spec.streams plan.kept plan.pacings (λ j s q. subst (λ (x : ℕ). slice_get plan.spec.streams x ≡ Some s) (let z : j ≡ 0 + j = omega arith in z) q)
            sound.crowds
            (λ m s at. survivors-of plan.spec.streams table sound.kinds m s at (plain-stream s (passes_at is_well_shaped plan.spec.streams m s accepted_plan.named.shapes at)))
            (accepted-storable plan accepted_plan));
      }

-- the state over the one table that solves the equations
pub one-state : (plan : Plan) → IsAccepted plan → (start : Option ℕ) (journal : List Entry) (s : SavedState) → IsStateOf plan start journal s ↔ (s ≡ state_of plan start journal)
one-state plan a start journal s =
    let models : HasModelsOfRuns plan = has_models_of_runs plan a.acyclic a.rates in (
      λ w. w.is ∙ ap (λ (t : List TableRow). state_over plan start journal t) ((models.settled start journal w.table).0 w.solves),
      λ e. record { table = settled_model plan start journal; solves = (models.settled start journal (settled_model plan start journal)).1 refl; is = e },
    )
