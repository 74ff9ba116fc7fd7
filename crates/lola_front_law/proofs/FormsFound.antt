-- Each formula has a normal form, or a part of it is too wide; so have pacings that are joined.
use Rattle.std.proofs.Common.{refl, inl, inr, ℕ, ◌<◌, ◌^◌, List, [], ◌∷◌, ◌&&◌, Result, Ok, Err}
use Rattle.std.proofs.lemmas.Nat.{pow_below}
use Rattle.std.proofs.lemmas.List.Elements.{All-nil, All-cons}
use Rattle.lola_model.specs.Activity.{satisfies_some}
use Rattle.lola_model.specs.Implication.{has_input}
use Rattle.lola_model.specs.NormalForms.{HasInputsBelow}
use Rattle.lola_model.specs.PacingFound.{IsJoined, satisfies_both, too_wide}
use Rattle.lola_model.specs.declared.finding.FoundPacing.{FoundPacing}
use Rattle.lola_model.specs.declared.finding.FoundPacing.TheVariants.{Paced}
use Rattle.lola_model.specs.declared.pacing.InputSet.{InputSet}
use Rattle.lola_model.specs.declared.pacing.Pacing.TheVariants.{Event}
use Rattle.lola_model.specs.declared.spec.Formula.{Formula}
use Rattle.lola_model.specs.declared.spec.Formula.TheVariants.{Input, And', Or'}
use Rattle.lola_pacing_normal.specs.Formulas.{AnswersNormal}
use Rattle.lola_pacing_normal.specs.Least.{AnswersLeast}
use Rattle.lola_pacing_normal.specs.declared.answer.NormalEnd.{NormalEnd}
use Rattle.lola_pacing_normal.specs.declared.answer.NormalEnd.TheVariants as ends
use Rattle.lola_pacing_normal.proofs.FormulaLemmas.{end_of_left, end_of_right, input_passes, normal_and, normal_input, normal_or}
use Rattle.lola_front_law.proofs.LeastFound.{AreSmall, HasLeast, IsAnswer, IsSmall, least_by, least_of_both, least_of_either}

-- ---- formulas

pub record HasNormal (f : Formula) : Type 0 where
  pub result : Result (List InputSet) NormalEnd
  pub answers : AnswersNormal f result
  pub is : IsAnswer result

one_input : (n : ℕ) → n < 64 → HasNormal (Input n)
one_input n low =
    let small : 2 ^ n < 2 ^ 64 = pow_below n 64 low in
    let h = least_by (λ inputs. has_input inputs n) (2 ^ n ∷ []) (All-cons IsSmall (2 ^ n) [] small (All-nil IsSmall)) (input_passes n) in
    record { result = h.result; answers = normal_input n h.result h.answers; is = h.is }

both_normal : (f : Formula) (a b : Formula) → ((end : NormalEnd) → AnswersNormal a (Err end) → AnswersNormal f (Err end)) → ((end : NormalEnd) → AnswersNormal b (Err end) → AnswersNormal f (Err end))
    → ((x y : List InputSet) → AnswersNormal a (Ok x) → AnswersNormal b (Ok y) → AreSmall x → AreSmall y → HasNormal f) → HasNormal a → HasNormal b → HasNormal f
both_normal f a b left right all p q = go p.result q.result p.answers q.answers p.is q.is
  where
    go : (r s : Result (List InputSet) NormalEnd) → AnswersNormal a r → AnswersNormal b s → IsAnswer r → IsAnswer s → HasNormal f
    go (Ok x) (Ok y) g h i j = all x y g h i j
    go (Ok x) (Err ends.TooWide) g h i j = record { result = Err ends.TooWide; answers = right ends.TooWide h; is = tt }
    go (Ok x) (Err ends.Memory) g h i j = absurd j
    go (Err ends.TooWide) s g h i j = record { result = Err ends.TooWide; answers = left ends.TooWide g; is = tt }
    go (Err ends.Memory) s g h i j = absurd i

pub normal_of : (f : Formula) → HasInputsBelow 64 f → HasNormal f
normal_of (Input n) low = one_input n low
normal_of (And' u a v b) low =
    both_normal (And' u a v b) a b (λ end h. end_of_left (And' u a v b) a b end refl h) (λ end h. end_of_right (And' u a v b) a b end refl h)
    (λ x y g h i j.
    let least = least_of_both x y i j in
    record { result = least.result; answers = normal_and (And' u a v b) a b x y least.result refl (λ inputs. refl) g h least.answers; is = least.is })
    (normal_of a low.0) (normal_of b low.1)
normal_of (Or' u a v b) low =
    both_normal (Or' u a v b) a b (λ end h. end_of_left (Or' u a v b) a b end refl h) (λ end h. end_of_right (Or' u a v b) a b end refl h)
    (λ x y g h i j.
    let least = least_of_either x y i j in
    record { result = least.result; answers = normal_or (Or' u a v b) a b x y least.result refl (λ inputs. refl) g h least.answers; is = least.is })
    (normal_of a low.0) (normal_of b low.1)

-- ---- pacings that are joined

abbrev pub AreFormsSmall : List (List InputSet) → Type 0
AreFormsSmall [] = Unit {0}
AreFormsSmall (form ∷ forms) = AreSmall form × AreFormsSmall forms

pub record HasJoined (at : ℕ) (sets : List InputSet) (forms : List (List InputSet)) : Type 0 where
  pub finding : FoundPacing
  pub is : IsJoined at sets forms finding

pub joined_of : (at : ℕ) (sets : List InputSet) (forms : List (List InputSet)) → AreSmall sets → AreFormsSmall forms → HasJoined at sets forms
joined_of at sets [] small all = record { finding = Paced (Event sets); is = refl }
joined_of at sets (form ∷ forms) small all = go (λ next low. joined_of at next forms low all.1) (least_of_both sets form small all.0)
  where
    by : ((next : List InputSet) → AreSmall next → HasJoined at next forms) → (r : Result (List InputSet) NormalEnd) → AnswersLeast (satisfies_both sets form) r → IsAnswer r → HasJoined at sets (form ∷ forms)
    by others (Ok next) h low = let j = others next low in record { finding = j.finding; is = inr (next, h, j.is) }
    by others (Err ends.TooWide) h low = record { finding = too_wide at; is = inl (h, refl) }
    by others (Err ends.Memory) h low = absurd low

    go : ((next : List InputSet) → AreSmall next → HasJoined at next forms) → HasLeast (λ inputs. satisfies_some inputs sets && satisfies_some inputs form) → HasJoined at sets (form ∷ forms)
    go others h = by others h.result h.answers h.is
