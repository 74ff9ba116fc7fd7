-- Integers and quantities are found, where nothing behind them makes them longer or none.
use Rattle.std.specs.Bool.{if◌then◌else◌}
use Rattle.std.proofs.Common.{◌≡◌, ℕ, ◌+◌, ◌-◌, ◌≤◌, ◌<◌, Bool, true, false, ◌&&◌, ◌==◌, [], ◌∷◌, ◌++◌, length, take, drop, refl, sym, ap, ◌∙◌, true≢false, arith, eqb-true, eq-eqb, ltb-true, append_assoc, length-append}
use Rattle.std.specs.List.{prefix_len, slice_index, All, AllPass, Contains, list_all}
use Rattle.std.specs.Prelude.{nat_lt, codes}
use Rattle.std.specs.Char.{is_ascii_digit}
use Rattle.std.proofs.lemmas.List.{take_at, drop_at, get_or-append_right, drop-drop}
use Rattle.std.proofs.lemmas.List.Elements.{All-contains, All-head, All-nil, All-cons}
use Rattle.std.proofs.lemmas.List.Sums.{AllPass-from_list_all}
use Rattle.std.proofs.lemmas.Bool.{false_from_ne_true, or_parts}
use Rattle.lola_lexer.specs.declared.shape.TokenShape.TheVariants as is
use Rattle.lola_lexer.specs.declared.scan.thing.Thing.TheVariants as thing
use Rattle.lola_lexer.specs.Spelling.{Bytes, begins_name, in_name, units, pointed, IsDigits, IsQuantity}
use Rattle.lola_lexer.specs.Lexical.{is_unit, run, measured, number, thing_at}
use Rattle.lola_lexer.specs.Longest.{goes_on}
use Rattle.lola_lexer.proofs.Runs.{run_whole}
use Rattle.lola_lexer.proofs.Classes.{differs, digit_in, digit_begins_none}
use Rattle.lola_lexer.proofs.Numbers.{unit_Decides}
use Rattle.lola_lexer.proofs.Fixed.{front_number, first_of_front}

-- a byte that is in no name is no digit
pub outside : (b : ℕ) → in_name b ≡ false → is_ascii_digit b ≡ false
outside b h = false_from_ne_true (is_ascii_digit b) (λ e. true≢false (sym (digit_in b e) ∙ h))

not_below : (a b : ℕ) → b ≤ a → nat_lt a b ≡ false
not_below a b h = false_from_ne_true (nat_lt a b) (λ e. absurd (omega (arith, h, ltb-true a b e)))

-- what stands at the place behind the front
behind_front : (w rest : Bytes) (n i k : ℕ) → length w ≡ n → k ≡ n + i → slice_index (w ++ rest) k ≡ slice_index rest i
behind_front w rest n i k long is =
    get_or-append_right w rest n k 0 long (omega (arith, is)) ∙ ap (λ j. slice_index rest j) (omega (arith, is))

digits_first : (w rest : Bytes) → IsDigits w → is_ascii_digit (slice_index (w ++ rest) 0) ≡ true
digits_first [] rest h = absurd (omega (arith, h.0))
digits_first (b ∷ w) rest h = All-head (λ b. is_ascii_digit b ≡ true) b w h.1

-- a number, by how many digits it begins with, and whether a point and a digit follow
number_by : (z : Bytes) (n : ℕ) (x : Bool) → prefix_len is_ascii_digit z ≡ n → (slice_index z n == 46 && is_ascii_digit (slice_index z (n + 1))) ≡ x
    → number z ≡ (let end = if x then n + 1 + run is_ascii_digit (n + 1) z else n in measured (if end == n then end else end - 1) end z)
unfolding number
number_by z n x is h = rw (is, h) refl

plain_number : (z : Bytes) (n : ℕ) → prefix_len is_ascii_digit z ≡ n → (slice_index z n == 46 && is_ascii_digit (slice_index z (n + 1))) ≡ false
    → number z ≡ measured n n z
plain_number z n is no_point = number_by z n false is no_point ∙ ap (λ b. measured (if b then n else n - 1) n z) (eq-eqb n n refl)

pointed_number : (z : Bytes) (n m : ℕ) → prefix_len is_ascii_digit z ≡ n → (slice_index z n == 46 && is_ascii_digit (slice_index z (n + 1))) ≡ true
    → run is_ascii_digit (n + 1) z ≡ m → number z ≡ measured (n + m) (n + 1 + m) z
pointed_number z n m is point m_is =
    let other : (n + 1 + m == n) ≡ false = false_from_ne_true (n + 1 + m == n) (λ e. absurd (omega (arith, eqb-true (n + 1 + m) n e))) in
    let count : n + 1 + m - 1 ≡ n + m = omega arith in
    number_by z n true is point ∙ ap (λ k. measured (if n + 1 + k == n then n + 1 + k else n + 1 + k - 1) (n + 1 + k) z) m_is
    ∙ ap (λ b. measured (if b then n + 1 + m else n + 1 + m - 1) (n + 1 + m) z) other ∙ ap (λ k. measured k (n + 1 + m) z) count

-- ---- integers

integer_measured : (z : Bytes) (n : ℕ) → n ≤ 38 → run in_name n z ≡ 0 → measured n n z ≡ thing.Token is.Integer n
integer_measured z n few none = rw (not_below 38 n few, none, eq-eqb n n refl) refl

pub integer_complete : (w rest : Bytes) → IsDigits w → length w ≤ 38 → goes_on is.Integer (slice_index rest 0) (slice_index rest 1) ≡ false
    → thing_at (w ++ rest) ≡ thing.Token is.Integer (length w)
integer_complete w rest digits few ends =
    let stops = or_parts (in_name (slice_index rest 0)) (slice_index rest 0 == 46 && is_ascii_digit (slice_index rest 1)) ends in
    let n = length w in
    let whole : prefix_len is_ascii_digit (w ++ rest) ≡ n = run_whole is_ascii_digit w rest digits.1 (outside (slice_index rest 0) stops.0) in
    let first : slice_index (w ++ rest) n ≡ slice_index rest 0 = behind_front w rest n 0 n refl (omega arith) in
    let second : slice_index (w ++ rest) (n + 1) ≡ slice_index rest 1 = behind_front w rest n 1 (n + 1) refl (omega arith) in
    let no_point : (slice_index (w ++ rest) n == 46 && is_ascii_digit (slice_index (w ++ rest) (n + 1))) ≡ false = rw (first, second) stops.1 in
    let no_unit : run in_name n (w ++ rest) ≡ 0 = rw (drop_at w rest n refl) (run_whole in_name [] rest (All-nil (λ b. in_name b ≡ true)) stops.0) in
    front_number (w ++ rest) (digits_first w rest digits) ∙ plain_number (w ++ rest) n whole no_point ∙ integer_measured (w ++ rest) n few no_unit

-- ---- quantities

-- a unit is letters, which are in names
pub record IsLetters (u : Bytes) : Type 0 where
  pub some : 0 < length u
  pub begins : begins_name (slice_index u 0) ≡ true
  pub all : AllPass in_name u

letters : (u : Bytes) → nat_lt 0 (length u) ≡ true → begins_name (slice_index u 0) ≡ true → list_all in_name u ≡ true → IsLetters u
letters u some begins all = record { some = ltb-true 0 (length u) some; begins = begins; all = AllPass-from_list_all in_name u all }

units_letters : All IsLetters units
units_letters =
    All-cons IsLetters (codes "ns") (codes "us" ∷ codes "ms" ∷ codes "s" ∷ codes "min" ∷ codes "h" ∷ codes "d" ∷ codes "mHz" ∷ codes "Hz" ∷ codes "kHz" ∷ codes "MHz" ∷ []) (letters (codes "ns") refl refl refl) (All-cons IsLetters (codes "us") (codes "ms" ∷ codes "s" ∷ codes "min" ∷ codes "h" ∷ codes "d" ∷ codes "mHz" ∷ codes "Hz" ∷ codes "kHz" ∷ codes "MHz" ∷ []) (letters (codes "us") refl refl refl) (All-cons IsLetters (codes "ms") (codes "s" ∷ codes "min" ∷ codes "h" ∷ codes "d" ∷ codes "mHz" ∷ codes "Hz" ∷ codes "kHz" ∷ codes "MHz" ∷ []) (letters (codes "ms") refl refl refl) (All-cons IsLetters (codes "s") (codes "min" ∷ codes "h" ∷ codes "d" ∷ codes "mHz" ∷ codes "Hz" ∷ codes "kHz" ∷ codes "MHz" ∷ []) (letters (codes "s") refl refl refl) (All-cons IsLetters (codes "min") (codes "h" ∷ codes "d" ∷ codes "mHz" ∷ codes "Hz" ∷ codes "kHz" ∷ codes "MHz" ∷ []) (letters (codes "min") refl refl refl) (All-cons IsLetters (codes "h") (codes "d" ∷ codes "mHz" ∷ codes "Hz" ∷ codes "kHz" ∷ codes "MHz" ∷ []) (letters (codes "h") refl refl refl) (All-cons IsLetters (codes "d") (codes "mHz" ∷ codes "Hz" ∷ codes "kHz" ∷ codes "MHz" ∷ []) (letters (codes "d") refl refl refl) (All-cons IsLetters (codes "mHz") (codes "Hz" ∷ codes "kHz" ∷ codes "MHz" ∷ []) (letters (codes "mHz") refl refl refl) (All-cons IsLetters (codes "Hz") (codes "kHz" ∷ codes "MHz" ∷ []) (letters (codes "Hz") refl refl refl) (All-cons IsLetters (codes "kHz") (codes "MHz" ∷ []) (letters (codes "kHz") refl refl refl) (All-cons IsLetters (codes "MHz") ([]) (letters (codes "MHz") refl refl refl) (All-nil IsLetters)))))))))))

quantity_measured : (z unit rest : Bytes) (digits end : ℕ) → drop end z ≡ unit ++ rest → digits ≤ 38 → Contains units unit → in_name (slice_index rest 0) ≡ false
    → measured digits end z ≡ thing.Token is.Quantity (end + length unit)
quantity_measured z unit rest digits end tail few is ends =
    let u : IsLetters unit = All-contains IsLetters units unit units_letters is in
    let long : run in_name end z ≡ length unit = rw tail (run_whole in_name unit rest u.all ends) in
    let some : (length unit == 0) ≡ false = false_from_ne_true (length unit == 0) (λ e. absurd (omega (arith, u.some, eqb-true (length unit) 0 e))) in
    let known : is_unit (take (length unit) (drop end z)) ≡ true = rw (tail, take_at unit rest (length unit) refl) ((unit_Decides unit).1 is) in
    rw (not_below 38 digits few, long, some, known) refl

plain_quantity : (whole unit rest : Bytes) → IsDigits whole → length whole ≤ 38 → Contains units unit → in_name (slice_index rest 0) ≡ false
    → thing_at (whole ++ (unit ++ rest)) ≡ thing.Token is.Quantity (length whole + length unit)
plain_quantity whole unit rest digits few is ends =
    let u : IsLetters unit = All-contains IsLetters units unit units_letters is in
    let n = length whole in
    let z = whole ++ (unit ++ rest) in
    let letter : slice_index (unit ++ rest) 0 ≡ slice_index unit 0 = first_of_front unit rest u.some in
    let begins : begins_name (slice_index (unit ++ rest) 0) ≡ true = rw letter u.begins in
    let no_digit : is_ascii_digit (slice_index (unit ++ rest) 0) ≡ false =
    false_from_ne_true (is_ascii_digit (slice_index (unit ++ rest) 0)) (λ e. true≢false (sym begins ∙ digit_begins_none (slice_index (unit ++ rest) 0) e)) in
    let run_is : prefix_len is_ascii_digit z ≡ n = run_whole is_ascii_digit whole (unit ++ rest) digits.1 no_digit in
    let first : slice_index z n ≡ slice_index (unit ++ rest) 0 = behind_front whole (unit ++ rest) n 0 n refl (omega arith) in
    let no_point : (slice_index z n == 46 && is_ascii_digit (slice_index z (n + 1))) ≡ false =
    rw (first, differs begins_name (slice_index (unit ++ rest) 0) 46 begins refl) refl in
    front_number z (digits_first whole (unit ++ rest) digits) ∙ plain_number z n run_is no_point
    ∙ quantity_measured z unit rest n n (drop_at whole (unit ++ rest) n refl) few is ends

-- the parts of a number with a point, and what is behind it
pointed_quantity : (whole fraction unit rest : Bytes) → IsDigits whole → IsDigits fraction → length whole + length fraction ≤ 38 → Contains units unit
    → in_name (slice_index rest 0) ≡ false
    → thing_at (whole ++ (46 ∷ (fraction ++ (unit ++ rest)))) ≡ thing.Token is.Quantity (length whole + 1 + length fraction + length unit)
pointed_quantity whole fraction unit rest digits decimals few is ends =
    let u : IsLetters unit = All-contains IsLetters units unit units_letters is in
    let n = length whole in
    let m = length fraction in
    let behind = fraction ++ (unit ++ rest) in
    let z = whole ++ (46 ∷ behind) in
    let begins : begins_name (slice_index (unit ++ rest) 0) ≡ true = rw (first_of_front unit rest u.some) u.begins in
    let no_digit : is_ascii_digit (slice_index (unit ++ rest) 0) ≡ false =
    false_from_ne_true (is_ascii_digit (slice_index (unit ++ rest) 0)) (λ e. true≢false (sym begins ∙ digit_begins_none (slice_index (unit ++ rest) 0) e)) in
    let run_is : prefix_len is_ascii_digit z ≡ n = run_whole is_ascii_digit whole (46 ∷ behind) digits.1 refl in
    let first : slice_index z n ≡ 46 = behind_front whole (46 ∷ behind) n 0 n refl (omega arith) in
    let second : slice_index z (n + 1) ≡ slice_index behind 0 = behind_front whole (46 ∷ behind) n 1 (n + 1) refl (omega arith) in
    let point : (slice_index z n == 46 && is_ascii_digit (slice_index z (n + 1))) ≡ true =
    rw (first, second) (digits_first fraction (unit ++ rest) decimals) in
    let split : z ≡ (whole ++ 46 ∷ []) ++ behind = sym (append_assoc whole (46 ∷ []) behind) in
    let one_more : length (whole ++ 46 ∷ []) ≡ n + 1 = simp length-append (omega arith) in
    let tail : drop (n + 1) z ≡ behind = rw split (drop_at (whole ++ 46 ∷ []) behind (n + 1) one_more) in
    let tail_run : run is_ascii_digit (n + 1) z ≡ m = rw tail (run_whole is_ascii_digit fraction (unit ++ rest) decimals.1 no_digit) in
    let rest_is : drop (n + 1 + m) z ≡ unit ++ rest = sym (drop-drop m (n + 1) z) ∙ ap (drop m) tail ∙ drop_at fraction (unit ++ rest) m refl in
    front_number z (digits_first whole (46 ∷ behind) digits) ∙ pointed_number z n m run_is point tail_run
    ∙ quantity_measured z unit rest (n + m) (n + 1 + m) rest_is few is ends

by_fraction : (whole fraction unit rest : Bytes) → IsDigits whole → AllPass is_ascii_digit fraction → length whole + length fraction ≤ 38 → Contains units unit
    → in_name (slice_index rest 0) ≡ false
    → thing_at ((whole ++ (pointed fraction ++ unit)) ++ rest) ≡ thing.Token is.Quantity (length (whole ++ (pointed fraction ++ unit)))
by_fraction whole [] unit rest digits decimals few is ends =
    rw (append_assoc, length-append) (plain_quantity whole unit rest digits (omega (arith, few)) is ends)
by_fraction whole (d ∷ ds) unit rest digits decimals few is ends =
    let long : length (whole ++ (46 ∷ (d ∷ (ds ++ unit)))) ≡ length whole + 1 + length (d ∷ ds) + length unit = simp length-append (omega arith) in
    let split : (whole ++ (46 ∷ (d ∷ (ds ++ unit)))) ++ rest ≡ whole ++ (46 ∷ ((d ∷ ds) ++ (unit ++ rest))) =
    append_assoc whole (46 ∷ (d ∷ (ds ++ unit))) rest ∙ ap (λ l. whole ++ (46 ∷ (d ∷ l))) (append_assoc ds unit rest) in
    rw (split, long) (pointed_quantity whole (d ∷ ds) unit rest digits (omega arith, decimals) few is ends)

pub quantity_complete : (w rest : Bytes) → IsQuantity w → in_name (slice_index rest 0) ≡ false → thing_at (w ++ rest) ≡ thing.Token is.Quantity (length w)
quantity_complete w rest q ends =
    rw (q.spelled) (by_fraction q.whole q.fraction q.unit rest q.digits q.fraction_digits q.few q.is_unit ends)
