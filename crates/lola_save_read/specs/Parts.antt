-- The partial results of a line.
use Rattle.std.specs.Prelude.{ℕ, ◌≡◌, ◌≢◌, ◌<◌, ◌≤◌, ◌*◌, ◌^◌, List, ◌∷◌, ◌++◌, Option, Some, None, Bool, true, false, ◌&&◌, length, nat_le, unsigned_abs, MatchOption}
use Rattle.std.specs.List.{list_all, sum_by}
use Rattle.lola_value.specs.declared.value.Kind.{Kind}
use Rattle.lola_model.specs.declared.spec.Agg.{Agg}
use Rattle.lola_model.specs.declared.spec.Agg.TheVariants as agg
use Rattle.lola_panes.specs.declared.partial.Partial.{Partial}
use Rattle.lola_panes.specs.declared.partial.Partial.TheVariants.{Number, Extreme, Mean, Truth}
use Rattle.lola_save_text.specs.Fitting.{counted, is_last, is_partial, most_steps, total_size}
use Rattle.lola_save_text.specs.declared.state.Times.{Times}
use Rattle.lola_save_text.specs.Lines.{partial_text}
use Rattle.lola_save_read.specs.Words.{IsWordEnd}

-- a partial result has the form of an aggregation
abbrev pub has_form : Agg → Partial → Bool
has_form agg.Count (Number z) = true
has_form agg.Sum (Number z) = true
has_form agg.Min (Extreme o) = true
has_form agg.Max (Extreme o) = true
has_form agg.Avg (Mean total count) = true
has_form agg.Forall (Truth b) = true
has_form agg.Exists (Truth b) = true
has_form _ _ = false

-- its numbers have less than 127 bits, and what it counts less than 64
abbrev pub IsNarrow : Partial → Type 0
IsNarrow (Number z) = unsigned_abs z < 2 ^ 127
IsNarrow (Extreme None) = Unit {0}
IsNarrow (Extreme (Some z)) = unsigned_abs z < 2 ^ 127
IsNarrow (Mean total count) = (unsigned_abs total < 2 ^ 127) × (count < 2 ^ 64)
IsNarrow (Truth b) = Unit {0}

-- what is read of a word: a partial result of this form, which is spelled so; none where no such one is
abbrev pub ReadsPartial : Agg → List ℕ → Option Partial → Type 0
ReadsPartial how word r =
    MatchOption r ((q : Partial) → has_form how q ≡ true → IsNarrow q → word ≢ partial_text q) (λ q. (has_form how q ≡ true) × IsNarrow q × (word ≡ partial_text q))

-- a partial result of an aggregation over values of a kind, which counts at most so many and whose total is at most so large
abbrev pub fits : Agg → Kind → ℕ → ℕ → Partial → Bool
fits how k counts totals q = nat_le (counted how q) counts && (nat_le (total_size how q) totals && is_partial how k q)

-- so many partial results of an aggregation, which count no more values than there were steps, with totals no larger than so many make
pub record ArePartials (how : Agg) (k : Kind) (number steps : ℕ) (qs : List Partial) : Type 0 where
  pub many : length qs ≡ number
  pub are : list_all (is_partial how k) qs ≡ true
  pub counts : sum_by (counted how) qs ≤ steps
  pub totals : sum_by (total_size how) qs ≤ steps * 2 ^ 64

-- bytes that begin with a space and a partial result behind it, and what stands behind that
pub record IsNextPartial (how : Agg) (k : Kind) (counts totals : ℕ) (bytes : List ℕ) (q : Partial) (rest : List ℕ) : Type 0 where
  pub fit : fits how k counts totals q ≡ true
  pub ends : IsWordEnd rest
  pub whole : bytes ≡ 32 ∷ (partial_text q ++ rest)

-- times that the first three lines of a state tell
pub record AreTimes (t : Times) : Type 0 where
  pub order : is_last t.start t.last ≡ true
  pub few : t.steps ≤ most_steps
