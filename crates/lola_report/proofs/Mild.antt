-- Texts that csv writes as they are, and that have no LF: numbers, times, truth values and marks.
use Rattle.std.proofs.Common.{◌≡◌, ℕ, ℤ, pos, negsuc, ◌+◌, ◌-◌, ◌/◌, ◌%◌, ◌<◌, zero, suc, List, [], ◌∷◌, ◌++◌, Bool, true, false, cond, codes, refl, ap, ◌∙◌, length, replicate, arith}
use Rattle.std.specs.Prelude.{◌&&◌, nat_eq, nat_lt, not, IsTrue}
use Rattle.std.specs.List.{list_all}
use Rattle.std.specs.Fmt.{decimal, digits, digits_onto, digit_glyph}
use Rattle.std.proofs.lemmas.Bool.{and_from, and_parts, or_from, lt-ltb, ltb-true, ne_eqb, cond_both, not-true}
use Rattle.std.proofs.lemmas.List.Folds.{list_all-append}
use Rattle.csv.specs.Writing.{default_writer, needs_byte, needs_quotes}
use Rattle.lola_value.specs.Numbers.{integer_text}
use Rattle.lola_value.specs.Times.{time_text, nine_digits}
use Rattle.lola_model.specs.declared.journal.Mark.{Mark}
use Rattle.lola_model.specs.declared.journal.Mark.TheVariants as mark
use Rattle.lola_model.specs.Trace.{mark_text}
use Rattle.lola_report.specs.Lines.{is_not_lf, has_no_lf}

-- a byte above the double quote that is no comma
abbrev pub is_mild : ℕ → Bool
is_mild b = nat_lt 34 b && not (nat_eq b 44)

-- a text of such bytes
abbrev pub Mild : List ℕ → Type 0
Mild t = IsTrue (list_all is_mild t)

-- of two texts
pub mild_both : (s t : List ℕ) → Mild s → Mild t → Mild (s ++ t)
mild_both s t p q = list_all-append is_mild s t ∙ and_from (list_all is_mild s) (list_all is_mild t) p q

-- of a byte and a text
pub mild_and : (b : ℕ) (t : List ℕ) → is_mild b ≡ true → Mild t → Mild (b ∷ t)
mild_and b t p q = and_from (is_mild b) (list_all is_mild t) p q

-- it has no LF

above : (b : ℕ) → is_mild b ≡ true → 34 < b
above b p = ltb-true 34 b (and_parts (nat_lt 34 b) (not (nat_eq b 44)) p).0

byte_plain : (b : ℕ) → is_mild b ≡ true → is_not_lf b ≡ true
byte_plain b p = let high = above b p in ap not (ne_eqb b 10 (λ e. omega arith))

pub mild_plain : (t : List ℕ) → Mild t → IsTrue (has_no_lf t)
mild_plain [] p = refl
mild_plain (b ∷ t) p =
    let parts = and_parts (is_mild b) (list_all is_mild t) p in
    and_from (is_not_lf b) (has_no_lf t) (byte_plain b parts.0) (mild_plain t parts.1)

-- it calls for no quotes
byte_unquoted : (b : ℕ) → is_mild b ≡ true → needs_byte default_writer b ≡ false
byte_unquoted b p =
    let high = above b p in
    let comma : nat_eq b 44 ≡ false = not-true (nat_eq b 44) (and_parts (nat_lt 34 b) (not (nat_eq b 44)) p).1 in
    let quote : nat_eq b 34 ≡ false = ne_eqb b 34 (λ e. omega arith) in
    let return : nat_eq b 13 ≡ false = ne_eqb b 13 (λ e. omega arith) in
    let feed : nat_eq b 10 ≡ false = ne_eqb b 10 (λ e. omega arith) in
    rw (comma, quote, return, feed) refl

pub mild_unquoted : (t : List ℕ) → Mild t → needs_quotes default_writer t ≡ false
mild_unquoted [] p = refl
mild_unquoted (b ∷ t) p =
    let parts = and_parts (is_mild b) (list_all is_mild t) p in
    or_from (needs_byte default_writer b) (needs_quotes default_writer t) (byte_unquoted b parts.0) (mild_unquoted t parts.1)

-- a digit
digit_mild : (d : ℕ) → d < 10 → is_mild (digit_glyph false d) ≡ true
digit_mild d small =
    let low = lt-ltb d 10 small in
    let glyph : digit_glyph false d ≡ 48 + d = rw low in
    let high : nat_lt 34 (48 + d) ≡ true = lt-ltb 34 (48 + d) (omega arith) in
    let other : nat_eq (48 + d) 44 ≡ false = ne_eqb (48 + d) 44 (λ e. omega arith) in
    ap is_mild glyph ∙ and_from (nat_lt 34 (48 + d)) (not (nat_eq (48 + d) 44)) high (ap not other)

digits_mild : (k n : ℕ) (acc : List ℕ) → Mild acc → Mild (digits_onto k 10 false n acc)
digits_mild zero n acc p = p
digits_mild (suc k) n acc p =
    let digit = digit_glyph false (n % 10) in
    let more = mild_and digit acc (digit_mild (n % 10) (omega arith)) p in
    cond_both (nat_eq (n / 10) 0) (digit ∷ acc) (digits_onto k 10 false (n / 10) (digit ∷ acc)) Mild (λ _. more) (λ _. digits_mild k (n / 10) (digit ∷ acc) more)

pub decimal_mild : (n : ℕ) → Mild (decimal n)
unfolding digits
decimal_mild n = digits_mild 64 n [] refl

zeros_mild : (n : ℕ) → Mild (replicate n 48)
zeros_mild zero = refl
zeros_mild (suc n) = zeros_mild n

pub time_mild : (t : ℕ) → Mild (time_text t)
time_mild t =
    mild_both (decimal (t / 1000000000)) (46 ∷ nine_digits (t % 1000000000)) (decimal_mild (t / 1000000000))
    (mild_and 46 (nine_digits (t % 1000000000)) refl
    (mild_both (replicate (9 - length (decimal (t % 1000000000))) 48) (decimal (t % 1000000000)) (zeros_mild (9 - length (decimal (t % 1000000000)))) (decimal_mild (t % 1000000000))))

pub integer_mild : (z : ℤ) → Mild (integer_text z)
integer_mild (pos n) = decimal_mild n
integer_mild (negsuc n) = mild_and 45 (decimal (n + 1)) refl (decimal_mild (n + 1))

pub bool_mild : (b : Bool) → Mild (cond b (codes "true") (codes "false"))
bool_mild true = refl
bool_mild false = refl

pub mark_mild : (m : Mark) → Mild (mark_text m)
mark_mild mark.Accepted = refl
mark_mild (mark.Late merged) = mild_and 76 (time_text merged) refl (time_mild merged)
