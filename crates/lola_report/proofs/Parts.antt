-- The parts that are read of a line.
use Rattle.std.proofs.Common.{◌≡◌, ℕ, zero, suc, List, [], ◌∷◌, ◌++◌, ◌∙◌, Option, Some, None, option_map, unwrap_or, slice_get, Result, Ok, Err, MatchResult, is_ok, refl, sym, ap, inl, inr}
use Rattle.std.specs.Str.{IsUtf8, is_utf8}
use Rattle.std.proofs.lemmas.Bool.{cases_Bool}
use Rattle.std.proofs.lemmas.Str.{IsUtf8-from_is_utf8, is_utf8-from_IsUtf8}
use Rattle.csv.specs.Records.{field_at}
use Rattle.lola_value.specs.declared.text.Field.{Field}
use Rattle.lola_report.specs.Candidates.{text_at}

field-get : (fields : List (List ℕ)) (i : ℕ) → field_at fields i ≡ slice_get fields i
unfolding field_at
field-get [] i = refl
field-get (f ∷ fs) zero = refl
field-get (f ∷ fs) (suc i) = field-get fs i

-- the field at a place, where it is there and where not
pub text-there : (fields : List (List ℕ)) (i : ℕ) (text : List ℕ) → Some text ≡ field_at fields i → text ≡ text_at fields i
text-there fields i text is = ap (λ (o : Option (List ℕ)). unwrap_or o []) (is ∙ field-get fields i)

pub text-none : (fields : List (List ℕ)) (i : ℕ) → None ≡ field_at fields i → [] ≡ text_at fields i
text-none fields i is = ap (λ (o : Option (List ℕ)). unwrap_or o []) (is ∙ field-get fields i)

-- a test for UTF-8
pub utf8-by : {S E : Type 0} (bytes : List ℕ) (r : Result S E) (P : S → Type 0) (Q : E → Type 0) → MatchResult r (λ s. P s × IsUtf8 bytes) (λ e. (IsUtf8 bytes → ⊥) × Q e) → is_ok r ≡ is_utf8 bytes
utf8-by bytes (Ok s) P Q is = sym (is_utf8-from_IsUtf8 bytes is.1)
utf8-by bytes (Err e) P Q is = elim (cases_Bool (is_utf8 bytes)) [
  | inl hit ↦ absurd (is.0 (IsUtf8-from_is_utf8 bytes hit))
  | inr miss ↦ sym miss
]

-- values, and further ones
abbrev pub led_values : List Field → Option (List Field) → Option (List Field)
led_values front more = option_map (λ vs. front ++ vs) more
