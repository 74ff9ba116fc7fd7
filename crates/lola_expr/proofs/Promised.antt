-- What a store's window answers, by its number.
use Rattle.std.proofs.Common.{◌≡◌, ℕ, zero, suc, ◌<◌, refl, arith, List, [], ◌∷◌, length, Option, Some, None, slice_get, subst, MatchOption}
use Rattle.lola_value.specs.declared.text.Field.{Field}
use Rattle.lola_value.specs.declared.value.Params.{Params}
use Rattle.lola_value.specs.declared.value.Outcome.{Outcome}
use Rattle.lola_value.specs.Naming.{Naming, IsNaming, read_params, read_outcome, the_values, AreHeld}
use Rattle.lola_model.specs.Content.{Content}
use Rattle.lola_model.specs.Windows.{window_answer}
use Rattle.lola_model.specs.Reading.{window_over}
use Rattle.lola_model.specs.Store.{Seen, Memories, Stands, place_of, now_of, target_of, kind_in}
use Rattle.lola_model.specs.declared.spec.WindowSpec.{WindowSpec}
use Rattle.lola_expr.proofs.Located.{window_answers}

-- within a list stands something
pub there : {A : Type 0} (xs : List A) (i : ℕ) → i < length xs → slice_get xs i ≡ None → ⊥
there [] i h e = omega (arith, h)
there (x ∷ xs) zero h e = absurd (cc)
there (x ∷ xs) (suc i) h e = there xs i (omega (arith, h)) e

module _ (remembers : Memories) (s : Seen) (n : ℕ) (p : Params) (r : Outcome) where
  -- what a store promises of a window, by what stands at its number
  abbrev Promises : Option WindowSpec → Type 0
  Promises o =
      MatchOption (place_of s (target_of o) p)
      ((names : Naming) → read_outcome names r ≡ window_over s o (kind_in (slice_get s.layout.streams (target_of o))) (read_outcome names (now_of s (target_of o) p)) [])
      (λ i. (names : Naming) (values : List (ℕ × Field)) → remembers names (target_of o) i values → read_outcome names r ≡ window_over s o (kind_in (slice_get s.layout.streams (target_of o))) (read_outcome names (now_of s (target_of o) p)) values)

  -- what a store promises of a window is what the window of the content answers
  pub window_told : n < length s.layout.windows → Promises (slice_get s.layout.windows n)
      → (names : Naming) (c : Content) → IsNaming names → AreHeld names (the_values p) → Stands names remembers s c
      → MatchOption (slice_get s.layout.windows n) ⊥ (λ w. read_outcome names r ≡ window_answer c w (kind_in (slice_get s.layout.streams w.target)) (read_params names p))
  window_told lt m names c h held stands = by_spec (slice_get s.layout.windows n) refl
    where
      by_spec : (o : Option WindowSpec) → slice_get s.layout.windows n ≡ o → MatchOption o ⊥ (λ w. read_outcome names r ≡ window_answer c w (kind_in (slice_get s.layout.streams w.target)) (read_params names p))
      by_spec None e = there s.layout.windows n lt e
      by_spec (Some w) e = window_answers names h remembers s c stands w (kind_in (slice_get s.layout.streams w.target)) p held r (subst (λ (o : Option WindowSpec). Promises o) e m)
