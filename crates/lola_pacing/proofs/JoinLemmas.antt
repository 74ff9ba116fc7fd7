-- Pacings of leaves, joined one after another.
use Rattle.std.proofs.Common.{◌≡◌, ◌≢◌, refl, ap, sym, subst, ℕ, ◌+◌, ◌<◌, List, [], ◌∷◌, ◌++◌, Ok, Err, true, false, arith, length, drop, inl, inr}
use Rattle.std.specs.List.{slice_index_or, list_all}
use Rattle.std.proofs.lemmas.List.{drop_more}
use Rattle.lola_model.specs.declared.pacing.InputSet.{InputSet}
use Rattle.lola_model.specs.declared.pacing.Pacing.TheVariants.{Event, Periodic, Local}
use Rattle.lola_pacing_normal.specs.declared.answer.NormalEnd.TheVariants.{TooWide}
use Rattle.lola_model.specs.PacingFound.{finding_at, findings_at, form_of, forms_of, rates_of, is_event, is_periodic, too_wide, IsCombined, IsJoined, IsRateFound}
use Rattle.lola_model.specs.declared.finding.FoundPacing.{FoundPacing}
use Rattle.lola_model.specs.declared.finding.FoundPacing.TheVariants.{Paced, Refused, Unpaced}
use Rattle.lola_pacing.specs.Joins.{AnswersNext}

module _ (at : ℕ) (rest : List (List InputSet)) (finding : FoundPacing) where
  -- after a step that joins
  step_one : (f : FoundPacing) (sets next : List InputSet) → AnswersNext sets (form_of f) (Ok next) → IsJoined at next rest finding → IsJoined at sets (form_of f ++ rest) finding
  step_one (Paced (Event form)) sets next a j = inr (next, a, j)
  step_one (Paced (Periodic r)) sets next a j = let e : next ≡ sets = cc in subst (λ (s : List InputSet). IsJoined at s rest finding) e j
  step_one (Paced (Local r)) sets next a j = let e : next ≡ sets = cc in subst (λ (s : List InputSet). IsJoined at s rest finding) e j
  step_one (Refused r) sets next a j = let e : next ≡ sets = cc in subst (λ (s : List InputSet). IsJoined at s rest finding) e j
  step_one Unpaced sets next a j = let e : next ≡ sets = cc in subst (λ (s : List InputSet). IsJoined at s rest finding) e j

  -- a step that ends
  step_last : (f : FoundPacing) (sets : List InputSet) → AnswersNext sets (form_of f) (Err TooWide) → IsJoined at sets (form_of f ++ rest) (too_wide at)
  step_last (Paced (Event form)) sets a = inl (a, refl)
  step_last (Paced (Periodic r)) sets a = absurd (cc)
  step_last (Paced (Local r)) sets a = absurd (cc)
  step_last (Refused r) sets a = absurd (cc)
  step_last Unpaced sets a = absurd (cc)

-- the forms of the streams from one on
pub forms_drop : (fs : List FoundPacing) (ns : List ℕ) (i : ℕ) → i < length ns
    → forms_of (findings_at fs (drop i ns)) ≡ form_of (finding_at fs (slice_index_or ns i 0)) ++ forms_of (findings_at fs (drop (i + 1) ns))
forms_drop fs ns i lt = ap (λ (ms : List ℕ). forms_of (findings_at fs ms)) (drop_more ns i 0 lt)

module _ (at : ℕ) (fs : List FoundPacing) (ns : List ℕ) (i : ℕ) (lt : i < length ns) where
  -- one more leaf is joined
  pub joins_more : (sets next : List InputSet) (finding : FoundPacing) → AnswersNext sets (form_of (finding_at fs (slice_index_or ns i 0))) (Ok next)
      → IsJoined at next (forms_of (findings_at fs (drop (i + 1) ns))) finding → IsJoined at sets (forms_of (findings_at fs (drop i ns))) finding
  joins_more sets next finding a j =
      subst (λ (forms : List (List InputSet)). IsJoined at sets forms finding) (sym (forms_drop fs ns i lt))
      (step_one at (forms_of (findings_at fs (drop (i + 1) ns))) finding (finding_at fs (slice_index_or ns i 0)) sets next a j)

  -- or cannot be
  pub joins_last : (sets : List InputSet) → AnswersNext sets (form_of (finding_at fs (slice_index_or ns i 0))) (Err TooWide)
      → IsJoined at sets (forms_of (findings_at fs (drop i ns))) (too_wide at)
  joins_last sets a =
      subst (λ (forms : List (List InputSet)). IsJoined at sets forms (too_wide at)) (sym (forms_drop fs ns i lt))
      (step_last at (forms_of (findings_at fs (drop (i + 1) ns))) (too_wide at) (finding_at fs (slice_index_or ns i 0)) sets a)

-- periodic pacings have rates
pub some_rate : (f : FoundPacing) (fs : List FoundPacing) → list_all is_periodic (f ∷ fs) ≡ true → rates_of (f ∷ fs) ≢ []
some_rate (Paced (Event sets)) fs h e = absurd (cc)
some_rate (Paced (Periodic r)) fs h e = absurd (cc)
some_rate (Paced (Local r)) fs h e = absurd (cc)
some_rate (Refused r) fs h e = absurd (cc)
some_rate Unpaced fs h e = absurd (cc)

some_rates : (fs : List FoundPacing) (ns : List ℕ) → 0 < length ns → list_all is_periodic (findings_at fs ns) ≡ true → rates_of (findings_at fs ns) ≢ []
some_rates fs [] lt h = absurd (omega arith)
some_rates fs (n ∷ ns) lt h = some_rate (finding_at fs n) (findings_at fs ns) h

-- leaves whose pacings are all periodic
pub combined_rates : (at : ℕ) (fs : List FoundPacing) (ns : List ℕ) (finding : FoundPacing) → 0 < length ns
    → list_all is_event (findings_at fs ns) ≡ false → list_all is_periodic (findings_at fs ns) ≡ true
    → (rates_of (findings_at fs ns) ≢ [] → IsRateFound at (rates_of (findings_at fs ns)) finding) → IsCombined at (findings_at fs ns) finding
combined_rates at fs ns finding lt h k g = rw (h, k) (g (some_rates fs ns lt k))
