-- Outcomes of fields, one for each.
use Rattle.std.proofs.Common.{◌≡◌, ℕ, ◌+◌, ◌<◌, true, List, [], ◌∷◌, ◌++◌, Some, length, take, get_or, refl, sym, ap, subst, ◌∙◌, inl, inr}
use Rattle.std.specs.List.{AllZip}
use Rattle.std.proofs.lemmas.Bool.{cases_Bool}
use Rattle.std.proofs.lemmas.List.{take_more}
use Rattle.lola_value.specs.declared.text.Field.{Field}
use Rattle.lola_value.specs.declared.value.Kind.{Kind}
use Rattle.lola_value.specs.declared.value.Outcome.{Outcome}
use Rattle.lola_value.specs.declared.text.Field.TheVariants as field
use Rattle.lola_value.specs.declared.value.Outcome.TheVariants as outcome
use Rattle.lola_value.specs.declared.value.TextId.{TextId}
use Rattle.lola_value.specs.declared.value.Value.TheVariants as value
use Rattle.lola_value.specs.Answer.{Given}
use Rattle.lola_value.specs.Naming.{Naming, text_at, the_text}
use Rattle.lola_model.specs.Model.{is_input, filled_kind}
use Rattle.lola_model.specs.Reading.{IsHeldBy}
use Rattle.lola_model.specs.Trace.{IsFieldOf, input_kinds}
use Rattle.lola_model.specs.declared.spec.Stream.{Stream}
use Rattle.lola_step_contents.proofs.Namings.{outcome_held_more, outcome_read_more}
use Rattle.lola_step.specs.Moments.{ReadAs}
use Rattle.lola_step.specs.Steps.{AreOfInputs, BeginsWith}
use Rattle.lola_engine.specs.Read.{IsOutcomeOf}

-- outcomes of fields, in order
abbrev pub AreOutcomesOf : Naming → List Outcome → List Field → Type 0
AreOutcomesOf names os fs = AllZip (IsOutcomeOf names) os fs

-- they are so through a larger naming
pub outcomes-more : (names more : Naming) (os : List Outcome) (fs : List Field) → IsHeldBy names more → AreOutcomesOf names os fs → AreOutcomesOf more os fs
outcomes-more names more [] [] holds all = tt
outcomes-more names more [] (f ∷ fs) holds all = all
outcomes-more names more (o ∷ os) [] holds all = all
outcomes-more names more (o ∷ os) (f ∷ fs) holds all = (
  record {
    reads = outcome_read_more names more holds o all.0.held ∙ all.0.reads;
    held = outcome_held_more names more holds o all.0.held;
    kind = all.0.kind;
  },
  outcomes-more names more os fs holds all.1,
)

outcomes-pushed : (names : Naming) (os : List Outcome) (fs : List Field) (o : Outcome) (f : Field) → AreOutcomesOf names os fs → IsOutcomeOf names o f → AreOutcomesOf names (os ++ o ∷ []) (fs ++ f ∷ [])
outcomes-pushed names [] [] o f all one = (one, tt)
outcomes-pushed names [] (g ∷ fs) o f all one = absurd all
outcomes-pushed names (p ∷ os) [] o f all one = absurd all
outcomes-pushed names (p ∷ os) (g ∷ fs) o f all one = (all.0, outcomes-pushed names os fs o f all.1 one)

-- those up to a field, and its own
pub one-read : (names more : Naming) (os os' : List Outcome) (fs : List Field) (i : ℕ) (o : Outcome) (f : Field) → i < length fs → f ≡ get_or fs i f → os' ≡ os ++ o ∷ [] → IsHeldBy names more
    → AreOutcomesOf names os (take i fs) → IsOutcomeOf more o f → AreOutcomesOf more os' (take (i + 1) fs)
one-read names more os os' fs i o f within is pushed holds all one =
    let front : take (i + 1) fs ≡ take i fs ++ f ∷ [] = take_more fs i f within ∙ ap (λ g. take i fs ++ g ∷ []) (sym is) in
    rw (front, pushed) (outcomes-pushed more os (take i fs) o f (outcomes-more names more os (take i fs) holds all) one)

-- they read as the fields
pub read-as : (names : Naming) (os : List Outcome) (fs : List Field) → AreOutcomesOf names os fs → ReadAs names os fs
read-as names [] [] all = tt
read-as names [] (f ∷ fs) all = all
read-as names (o ∷ os) [] all = all
read-as names (o ∷ os) (f ∷ fs) all = (all.0.reads, all.0.held, read-as names os fs all.1)

-- an input's outcome, and those behind it
begins : (names : Naming) (s : Stream) (ks : List Kind) (others : List Outcome → Type 0) → ((os : List Outcome) (fs : List Field) → AllZip IsFieldOf ks fs → AreOutcomesOf names os fs → others os)
    → (os : List Outcome) (fs : List Field) → AllZip IsFieldOf (filled_kind s ∷ ks) fs → AreOutcomesOf names os fs → BeginsWith true s others os
begins names s ks others next [] [] kinds all = absurd kinds
begins names s ks others next [] (f ∷ fs) kinds all = absurd all
begins names s ks others next (o ∷ os) [] kinds all = absurd all
begins names s ks others next (o ∷ os) (f ∷ fs) kinds all = (all.0.kind (filled_kind s) kinds.0, next os fs kinds.1 all.1)

-- and are of the inputs' kinds
pub of-inputs : (names : Naming) (ss : List Stream) (os : List Outcome) (fs : List Field) → AllZip IsFieldOf (input_kinds ss) fs → AreOutcomesOf names os fs → AreOfInputs ss os
of-inputs names [] [] [] kinds all = refl
of-inputs names [] (o ∷ os) [] kinds all = absurd all
of-inputs names [] os (f ∷ fs) kinds all = absurd kinds
of-inputs names (s ∷ ss) os fs kinds all = elim (cases_Bool (is_input s)) [
  | inl hit ↦ let kinds' = rw hit at kinds in rw hit (begins names s (input_kinds ss) (AreOfInputs ss) (λ qs gs a b. of-inputs names ss qs gs a b) os fs kinds' all)
  | inr miss ↦ let kinds' = rw miss at kinds in rw miss (of-inputs names ss os fs kinds' all)
]

-- a text, by a number under which it is held
pub text-outcome : (names : Naming) (f : Field) (t bytes : List ℕ) (id : TextId) → f ≡ field.Text t → bytes ≡ t → text_at names id.0 ≡ Some bytes → IsOutcomeOf names (outcome.Value (value.Text id)) f
text-outcome names f t bytes id is same there =
    let held : text_at names id.0 ≡ Some t = there ∙ ap Some same in
    subst (λ (g : Field). IsOutcomeOf names (outcome.Value (value.Text id)) g) (sym is) (record {
      reads = ap (λ o. Given (the_text o)) held;
      held = (t, held);
      kind = λ k of. of.0;
    })
