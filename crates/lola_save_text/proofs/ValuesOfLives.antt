-- The values of each life of a journal are such as a restored store wants.
use Rattle.std.proofs.Common.{◌≡◌, ℕ, ◌≤◌, List, [], ◌∷◌, drop, refl, arith, true, Some, slice_get}
use Rattle.std.specs.List.{AllByRecursion, cons_option}
use Rattle.lola_value.specs.Answer.{Answer, Given, Missing, Faulted, Poisoned}
use Rattle.lola_value.specs.declared.text.Field.{Field}
use Rattle.lola_value.specs.declared.value.Kind.{Kind}
use Rattle.lola_model.specs.Content.{outcome_in, timed, values_over}
use Rattle.lola_model.specs.Model.{filled_kind}
use Rattle.lola_model.specs.Runs.{life_after}
use Rattle.lola_model.specs.Table.{Instance, TableRow}
use Rattle.lola_model.specs.declared.plan.Plan.{Plan}
use Rattle.lola_model.specs.declared.spec.Stream.{Stream}
use Rattle.lola_panes.specs.Holding.{AllWithin}
use Rattle.lola_panes.specs.Restored.{AllFrom, InOrder}
use Rattle.lola_save_text.specs.Fitting.{is_value, time_or}
use Rattle.lola_save_text.specs.Forms.{HaveLength}
use Rattle.lola_save_text.specs.declared.forms.StreamForm.{StreamForm}
use Rattle.lola_save_text.specs.declared.state.Times.{Times}
use Rattle.lola_save_text.specs.JournalStates.{saved_life}
use Rattle.lola_save_text.specs.Restored.{AreOfLife, IsSavedOf}
use Rattle.lola_save_text.proofs.Assembly.{IsKnownTable, few, timed-drop, timed-values}
use Rattle.lola_save_text.proofs.PanesOfLives.{AreTimedValues}
use Rattle.lola_save_text.proofs.Ranged.{numbers-in}
use Rattle.lola_save_text.proofs.StepTimes.{AreTimed}

-- they are in the order of time

later : (low mid : ℕ) (vs : List (ℕ × Field)) → low ≤ mid → AllFrom mid vs → AllFrom low vs
later low mid [] le h = tt
later low mid (v ∷ vs) le h = ((let a = h.0 in omega (arith, a, le)), later low mid vs le h.1)

one-since : (low time : ℕ) (a : Answer) (vs : List (ℕ × Field)) → low ≤ time → AllFrom time vs → AllFrom low (cons_option (timed time a) vs)
one-since low time (Given v) vs le h = (le, later low time vs le h)
one-since low time Missing vs le h = later low time vs le h
one-since low time (Faulted f) vs le h = later low time vs le h
one-since low time Poisoned vs le h = later low time vs le h

all-since : (n : ℕ) (i : Instance) (low : ℕ) (rows : List TableRow) → AreTimed low rows → AllFrom low (values_over n i rows)
all-since n i low [] h = tt
all-since n i low (row ∷ rows) h =
    one-since low row.step.time (outcome_in i (slice_get row.streams n)) (values_over n i rows) h.0 (all-since n i row.step.time rows h.1)

one-in-order : (time : ℕ) (a : Answer) (vs : List (ℕ × Field)) → AllFrom time vs → InOrder vs → InOrder (cons_option (timed time a) vs)
one-in-order time (Given v) vs since h = (since, h)
one-in-order time Missing vs since h = h
one-in-order time (Faulted f) vs since h = h
one-in-order time Poisoned vs since h = h

in-order : (n : ℕ) (i : Instance) (low : ℕ) (rows : List TableRow) → AreTimed low rows → InOrder (values_over n i rows)
in-order n i low [] h = tt
in-order n i low (row ∷ rows) h =
    one-in-order row.step.time (outcome_in i (slice_get row.streams n)) (values_over n i rows) (all-since n i row.step.time rows h.1) (in-order n i row.step.time rows h.1)

-- of their kind, and not behind the last row

all-kinds : (k : Kind) (start last : ℕ) (vs : List (ℕ × Field)) → AreTimedValues k start last vs → AllByRecursion (λ v. is_value k v.1 ≡ true) vs
all-kinds k start last [] h = tt
all-kinds k start last (v ∷ vs) h = (h.0.value, all-kinds k start last vs h.1)

all-before : (k : Kind) (start last : ℕ) (vs : List (ℕ × Field)) → AreTimedValues k start last vs → AllByRecursion (λ v. v.0 ≤ last) vs
all-before k start last [] h = tt
all-before k start last (v ∷ vs) h = (h.0.high, all-before k start last vs h.1)

-- so their numbers are within the kind
all-within : (k : Kind) (vs : List (ℕ × Field)) → AllByRecursion (λ v. is_value k v.1 ≡ true) vs → AllWithin k vs
all-within k [] h = tt
all-within k (v ∷ vs) h = ((numbers-in k (v.1 ∷ []) (h.0, tt)).0, all-within k vs h.1)

pub values-within : (times : Times) (kind : Kind) (values : List (ℕ × Field)) → AreOfLife times kind values → AllWithin kind values
values-within times kind values h = all-within kind values h.kinds

module _ (plan : Plan) (times : Times) (table : List TableRow) (known : IsKnownTable plan times table) (n : ℕ) (s : Stream) (at : slice_get plan.spec.streams n ≡ Some s) (form : StreamForm)
    (kind_is : form.kind ≡ filled_kind s) (params_are : form.parameters ≡ s.parameters) (sized : HaveLength form.windows) (i : Instance) where
  values-of-life : AreOfLife times form.kind (values_over n i (drop i.born table))
  values-of-life =
      let vs : List (ℕ × Field) = values_over n i (drop i.born table) in
      let all : AreTimedValues form.kind (time_or 0 times.start) (time_or 0 times.last) vs = timed-values plan times table known n s at form kind_is params_are sized i in
      let timed : AreTimed (time_or 0 times.start) (drop i.born table) = timed-drop (time_or 0 times.start) i.born table known.timed in
      record {
        kinds = all-kinds form.kind (time_or 0 times.start) (time_or 0 times.last) vs all;
        since = all-since n i (time_or 0 times.start) (drop i.born table) timed;
        order = in-order n i (time_or 0 times.start) (drop i.born table) timed;
        last = all-before form.kind (time_or 0 times.start) (time_or 0 times.last) vs all;
        few = few plan times table known n s at form kind_is params_are sized i;
      }

  -- what is saved of a life is of its values
  pub saved-of-life : IsSavedOf times (values_over n i (drop i.born table)) form (saved_life (time_or 0 times.start) form (life_after table n i))
  saved-of-life = record { life = values-of-life; ring = refl; panes = refl }
