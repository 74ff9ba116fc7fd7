-- Where nothing is refused.
use Rattle.std.proofs.Common.{◌≡◌, ◌≢◌, refl, subst, ℕ, zero, suc, ◌<◌, List, [], ◌∷◌, ◌++◌, Option, Some, None, Bool, true, false, if◌then◌else◌, arith, length, slice_get, unwrap_or}
use Rattle.std.specs.List.{Contains, slice_index_or, flat_map}
use Rattle.lola_value.specs.declared.front.Code.{Code}
use Rattle.lola_value.specs.declared.front.Code.TheVariants as code
use Rattle.lola_value.specs.declared.front.Refusal.{Refusal}
use Rattle.lola_model.specs.Implication.{Implies}
use Rattle.lola_model.specs.Parts.{listed_clause}
use Rattle.lola_model.specs.declared.pacing.Pacing.{Pacing}
use Rattle.lola_model.specs.declared.spec.Clause.{Clause}
use Rattle.lola_model.specs.declared.spec.Stream.{Stream}
use Rattle.lola_model.specs.PacingFound.{finding_at}
use Rattle.lola_pacing.specs.Laws.{IsFine, AcceptsFine}
use Rattle.lola_model.specs.PacingRefused.{does_imply, not_implied, refusal_where, refusal_of_window, is_filtered, used, use_refusals, finding_refusal, clause_refusals}
use Rattle.lola_model.specs.declared.finding.FoundPacing.{FoundPacing}
use Rattle.lola_model.specs.declared.finding.FoundPacing.TheVariants.{Paced, Refused, Unpaced}
use Rattle.lola_model.specs.declared.uses.Use.{Use}
use Rattle.lola_model.specs.declared.uses.Use.TheVariants.{OfStream, OfWindow}
use Rattle.lola_pacing.proofs.LawLemmas.{told}

empty_left : (xs ys : List Refusal) → xs ++ ys ≡ [] → xs ≡ []
empty_left [] ys h = refl
empty_left (x ∷ xs) ys h = absurd (cc)

empty_right : (xs ys : List Refusal) → xs ++ ys ≡ [] → ys ≡ []
empty_right [] ys h = h
empty_right (x ∷ xs) ys h = absurd (cc)

flat_empty : (f : Use → List Refusal) (us : List Use) (k : ℕ) (u : Use) → flat_map f us ≡ [] → k < length us → slice_index_or us k u ≡ u → f u ≡ []
flat_empty f [] k u h lt e = absurd (omega arith)
flat_empty f (x ∷ xs) zero u h lt e = subst (λ (v : Use). f v ≡ []) e (empty_left (f x) (flat_map f xs) h)
flat_empty f (x ∷ xs) (suc k) u h lt e = flat_empty f xs k u (empty_right (f x) (flat_map f xs) h) (omega arith) e

is_implied : (b : Bool) (r : Refusal) → (if b then [] else r ∷ []) ≡ [] → b ≡ true
is_implied true r h = refl
is_implied false r h = absurd (cc)

is_no : (b : Bool) (c : Code) (at : ℕ) → refusal_where b c at ≡ [] → b ≡ false
is_no true c at h = absurd (cc)
is_no false c at h = refl

implied : (own read : FoundPacing) (at : ℕ) → not_implied own read at ≡ [] → (p q : Pacing) → own ≡ Paced p → read ≡ Paced q → Implies p q
implied own read at h p q e f =
    let first : not_implied (Paced p) read at ≡ [] = subst (λ (x : FoundPacing). not_implied x read at ≡ []) e h in
    let both : not_implied (Paced p) (Paced q) at ≡ [] = subst (λ (x : FoundPacing). not_implied (Paced p) x at ≡ []) f first in
    (told p q).0 (is_implied (does_imply p q) (record { code = code.NotImplied; at = at }) both)

no_window_refusal : (v : Option Code) (at : ℕ) → refusal_of_window v at ≡ [] → v ≡ None
no_window_refusal None at h = refl
no_window_refusal (Some c) at h = absurd (cc)

not_refused : (own : FoundPacing) → finding_refusal own ≡ [] → (r : Refusal) → own ≢ Refused r
not_refused (Paced p) h r e = absurd (cc)
not_refused (Refused q) h r e = absurd (cc)
not_refused Unpaced h r e = absurd (cc)

module _ (streams : List Stream) (evals : List FoundPacing) (window_refusals : List (Option Code)) (own : FoundPacing) where
  fine_use : (u : Use) → use_refusals streams evals window_refusals own u ≡ [] → IsFine streams evals window_refusals own u
  fine_use (OfStream at n) h =
      let a = not_implied own (finding_at evals n) at in
      let b = refusal_where (is_filtered (slice_get streams n)) code.DirectToFiltered at in
      (implied own (finding_at evals n) at (empty_left a b h), is_no (is_filtered (slice_get streams n)) code.DirectToFiltered at (empty_right a b h))
  fine_use (OfWindow at w) h = no_window_refusal (unwrap_or (slice_get window_refusals w) None) at h

  all_fine : (clause : Option Clause) → clause_refusals streams evals window_refusals own clause ≡ [] → (u : Use) → Contains (listed_clause used clause) u → IsFine streams evals window_refusals own u
  all_fine clause h u c =
      let rest = empty_right (finding_refusal own) (flat_map (use_refusals streams evals window_refusals own) (listed_clause used clause)) h in
      fine_use u (flat_empty (use_refusals streams evals window_refusals own) (listed_clause used clause) c.0 u rest c.1 c.2)

  own_found : (clause : Option Clause) → clause_refusals streams evals window_refusals own clause ≡ [] → (r : Refusal) → own ≢ Refused r
  own_found clause h r = not_refused own (empty_left (finding_refusal own) (flat_map (use_refusals streams evals window_refusals own) (listed_clause used clause)) h) r

pub accepts_fine : AcceptsFine
accepts_fine = record {
  fine = λ streams evals window_refusals own clause h u c. all_fine streams evals window_refusals own clause h u c;
  found = λ streams evals window_refusals own clause h r. own_found streams evals window_refusals own clause h r;
}
