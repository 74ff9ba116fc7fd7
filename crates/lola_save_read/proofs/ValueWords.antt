-- Values are read back from how they are spelled, and each is spelled in one way.
use Rattle.std.proofs.Common.{◌≡◌, ◌≢◌, ◌∷◌, ℕ, ℤ, pos, negsuc, ◌^◌, ◌<◌, ◌≤ℤ◌, ◌++◌, List, Bool, true, false, ◌&&◌, Result, Ok, Err, MatchResult, is_ok, inl, inr, codes, refl, sym, ap, subst, ◌∙◌, arith}
use Rattle.std.specs.Prelude.{unsigned_abs}
use Rattle.std.specs.List.{list_all}
use Rattle.std.specs.Str.{IsUtf8, is_utf8}
use Rattle.std.proofs.lemmas.Bool.{and_parts, cases_Bool}
use Rattle.std.proofs.lemmas.Int.{ints}
use Rattle.std.proofs.lemmas.Str.{IsUtf8-from_is_utf8, is_utf8-from_IsUtf8}
use Rattle.lola_value.specs.declared.text.Field.{Field}
use Rattle.lola_value.specs.declared.text.Field.TheVariants as field
use Rattle.lola_value.specs.declared.value.Kind.{Kind}
use Rattle.lola_value.specs.declared.value.Kind.TheVariants as kind
use Rattle.lola_value.specs.Arithmetic.{is_within}
use Rattle.lola_value.specs.Kinds.{is_bool, is_integer, is_text}
use Rattle.lola_value.specs.Numbers.{integer_text}
use Rattle.lola_value.proofs.Ranges.{small}
use Rattle.lola_model.specs.Texts.{quoted, value_text}
use Rattle.lola_report.specs.Pieces.{bool_name}
use Rattle.lola_report.proofs.Mild.{bool_mild, integer_mild}
use Rattle.lola_save_text.specs.Fitting.{is_value}
use Rattle.lola_save_text.proofs.Numbers.{integer-same}
use Rattle.lola_save_text.proofs.Quotes.{quoted-same}
use Rattle.lola_save_read.specs.Words.{IsNextValue, IsValueRead, IsWordCut, IsWordEnd, is_no_space}
use Rattle.lola_save_read.proofs.WordCuts.{no-space, word-same}

-- truth values
pub no-truth : (word : List ℕ) → (word ≡ codes "true" → ⊥) → (word ≡ codes "false" → ⊥) → (b : Bool) → word ≢ bool_name b
no-truth word a b true e = a e
no-truth word a b false e = b e

-- numbers of a kind have few bits
pub narrow : (k : Kind) (z : ℤ) → is_within k z ≡ true → unsigned_abs z < 2 ^ 127
narrow k (pos n) w = let h : pos n ≤ℤ pos 18446744073709551615 = (small k (pos n) w).high in omega (arith, ints)
narrow k (negsuc n) w = let h : negsuc 9223372036854775807 ≤ℤ negsuc n = (small k (negsuc n) w).low in omega (arith, ints)

pub no-number : (k : Kind) (word : List ℕ) → ((z : ℤ) → unsigned_abs z < 2 ^ 127 → word ≢ integer_text z) → (z : ℤ) → is_within k z ≡ true → word ≢ integer_text z
no-number k word never z w = never z (narrow k z w)

pub other-number : (k : Kind) (word : List ℕ) (y : ℤ) → unsigned_abs y < 2 ^ 127 → word ≡ integer_text y → is_within k y ≡ false → (z : ℤ) → is_within k z ≡ true → word ≢ integer_text z
other-number k word y few e out z w f =
    let lt = narrow k z w in
    let s = integer-same y z (omega (arith, few)) (omega (arith, lt)) (sym e ∙ f) in
    let g : false ≡ true = sym out ∙ ap (is_within k) s ∙ w in
    cc g

-- values of the kind of truth values
pub no-truth-value : (word : List ℕ) → ((b : Bool) → word ≢ bool_name b) → (v : Field) → is_value kind.Bool v ≡ true → word ≢ value_text v
no-truth-value word never field.Absent a e = absurd (cc)
no-truth-value word never (field.Bool b) a e = never b e
no-truth-value word never (field.Int z) a e = absurd (cc)
no-truth-value word never (field.Text t) a e = absurd (cc)

-- kinds

pub number-kind : (k : Kind) → is_text k ≡ false → (k ≡ kind.Bool → ⊥) → is_integer k ≡ true
number-kind kind.Bool e f = absurd (f refl)
number-kind kind.Int8 e f = refl
number-kind kind.Int16 e f = refl
number-kind kind.Int32 e f = refl
number-kind kind.Int64 e f = refl
number-kind kind.UInt8 e f = refl
number-kind kind.UInt16 e f = refl
number-kind kind.UInt32 e f = refl
number-kind kind.UInt64 e f = refl
number-kind kind.Text e f = absurd (cc)

no-bool : (k : Kind) → is_integer k ≡ true → is_bool k ≡ false
no-bool kind.Bool e = absurd (cc)
no-bool _ e = refl

no-texts : (k : Kind) → is_integer k ≡ true → is_text k ≡ false
no-texts kind.Text e = absurd (cc)
no-texts _ e = refl

pub text-kind : (k : Kind) → (k ≡ kind.Text → ⊥) → is_text k ≡ false
text-kind kind.Text f = absurd (f refl)
text-kind _ f = refl

-- values of a kind of numbers
pub no-number-value : (k : Kind) (word : List ℕ) → is_integer k ≡ true → ((z : ℤ) → is_within k z ≡ true → word ≢ integer_text z) → (v : Field) → is_value k v ≡ true → word ≢ value_text v
no-number-value k word i never field.Absent a e = absurd (cc)
no-number-value k word i never (field.Bool b) a e = let f = no-bool k i in absurd (cc)
no-number-value k word i never (field.Int z) a e = never z (and_parts (is_integer k) (is_within k z) a).1 e
no-number-value k word i never (field.Text t) a e = let f = no-texts k i in let g = (and_parts (is_text k) (is_utf8 t) a).0 in absurd (cc)

pub number-fits : (k : Kind) (z : ℤ) → is_integer k ≡ true → is_within k z ≡ true → is_value k (field.Int z) ≡ true
number-fits k z i w = ap (λ b. b && is_within k z) i ∙ w

-- values that are no texts have no space

value-plain : (k : Kind) (v : Field) → is_text k ≡ false → is_value k v ≡ true → list_all is_no_space (value_text v) ≡ true
value-plain k field.Absent n a = absurd (cc)
value-plain k (field.Bool b) n a = no-space (bool_name b) (bool_mild b)
value-plain k (field.Int z) n a = no-space (integer_text z) (integer_mild z)
value-plain k (field.Text t) n a = let g = (and_parts (is_text k) (is_utf8 t) a).0 in absurd (cc)

pub no-first : (k : Kind) (bytes word left : List ℕ) → is_text k ≡ false → IsWordCut bytes word left → ((v : Field) → is_value k v ≡ true → word ≢ value_text v)
    → (v : Field) (rest : List ℕ) → IsValueRead k bytes v rest → ⊥
no-first k bytes word left n cut never v rest r =
    never v r.fits (word-same word (value_text v) left rest cut.plain (value-plain k v n r.fits) cut.ends r.ends (sym cut.whole ∙ r.whole)).0

pub first-there : (k : Kind) (bytes word left : List ℕ) (v : Field) → IsWordCut bytes word left → is_value k v ≡ true → word ≡ value_text v → IsValueRead k bytes v left
first-there k bytes word left v cut a e = record { fits = a; ends = cut.ends; whole = cut.whole ∙ ap (λ (t : List ℕ). t ++ left) e }

-- texts

pub no-first-text : (bytes : List ℕ) → ((text rest : List ℕ) → bytes ≢ quoted text ++ rest) → (v : Field) (rest : List ℕ) → IsValueRead kind.Text bytes v rest → ⊥
no-first-text bytes never field.Absent rest r = let a = r.fits in absurd (cc)
no-first-text bytes never (field.Bool b) rest r = let a = r.fits in absurd (cc)
no-first-text bytes never (field.Int z) rest r = let a = r.fits in absurd (cc)
no-first-text bytes never (field.Text t) rest r = never t rest r.whole

pub other-text : (bytes text left : List ℕ) → bytes ≡ quoted text ++ left → ((is_utf8 text ≡ true) × IsWordEnd left → ⊥) → (v : Field) (rest : List ℕ) → IsValueRead kind.Text bytes v rest → ⊥
other-text bytes text left e never field.Absent rest r = let a = r.fits in absurd (cc)
other-text bytes text left e never (field.Bool b) rest r = let a = r.fits in absurd (cc)
other-text bytes text left e never (field.Int z) rest r = let a = r.fits in absurd (cc)
other-text bytes text left e never (field.Text t) rest r =
    let s = quoted-same text t left rest (sym e ∙ r.whole) in
    never (ap is_utf8 s.0 ∙ r.fits, subst IsWordEnd (sym s.1) r.ends)

pub text-there : (bytes text rest : List ℕ) → bytes ≡ quoted text ++ rest → is_utf8 text ≡ true → IsWordEnd rest → IsValueRead kind.Text bytes (field.Text text) rest
text-there bytes text rest e u w = record { fits = u; ends = w; whole = e }

-- behind a space

pub no-next : (k : Kind) (bytes : List ℕ) → ((rest : List ℕ) → bytes ≢ 32 ∷ rest) → (v : Field) (rest : List ℕ) → IsNextValue k bytes v rest → ⊥
no-next k bytes never v rest n = never (value_text v ++ rest) n.whole

pub no-next-value : (k : Kind) (bytes left : List ℕ) → bytes ≡ 32 ∷ left → ((v : Field) (rest : List ℕ) → IsValueRead k left v rest → ⊥) → (v : Field) (rest : List ℕ) → IsNextValue k bytes v rest → ⊥
no-next-value k bytes left e never v rest n =
    let f : 32 ∷ left ≡ 32 ∷ (value_text v ++ rest) = sym e ∙ n.whole in
    let g : left ≡ value_text v ++ rest = cc f in
    never v rest (record { fits = n.fits; ends = n.ends; whole = g })

pub next-value : (k : Kind) (bytes left : List ℕ) (v : Field) (rest : List ℕ) → bytes ≡ 32 ∷ left → IsValueRead k left v rest → IsNextValue k bytes v rest
next-value k bytes left v rest e r = record { fits = r.fits; ends = r.ends; whole = e ∙ ap (λ (t : List ℕ). 32 ∷ t) r.whole }

-- a test for UTF-8
pub utf8-by : {S E : Type 0} (bytes : List ℕ) (r : Result S E) (P : S → Type 0) (Q : E → Type 0) → MatchResult r (λ s. P s × IsUtf8 bytes) (λ e. (IsUtf8 bytes → ⊥) × Q e) → is_ok r ≡ is_utf8 bytes
utf8-by bytes (Ok s) P Q is = sym (is_utf8-from_IsUtf8 bytes is.1)
utf8-by bytes (Err e) P Q is = elim (cases_Bool (is_utf8 bytes)) [
  | inl hit ↦ absurd (is.0 (IsUtf8-from_is_utf8 bytes hit))
  | inr miss ↦ sym miss
]
