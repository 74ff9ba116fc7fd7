-- Integers and quantities.
use Rattle.std.specs.Bool.{if◌then◌else◌}
use Rattle.std.proofs.Common.{◌≡◌, ℕ, suc, ◌+◌, ◌-◌, ◌≤◌, ◌<◌, Bool, true, false, ◌&&◌, ◌==◌, [], ◌∷◌, ◌++◌, length, take, drop, refl, sym, ap, ◌∙◌, true≢false, inl, inr, arith, eqb-true, eq-eqb, ltb-false, take-add, get_or-drop, length-take-le, length-drop, add-zero, append_assoc, append-nil}
use Rattle.std.specs.List.{prefix_len, slice_index, AllPass, Contains, list_any}
use Rattle.std.specs.Prelude.{nat_lt}
use Rattle.std.specs.Char.{is_ascii_digit}
use Rattle.std.specs.Bool.{Decides}
use Rattle.std.specs.Str.{bytes_eq}
use Rattle.std.proofs.lemmas.Slice.Eq.{bytes_eq-Decides}
use Rattle.std.proofs.lemmas.List.{drop_more, get_or_past}
use Rattle.std.proofs.lemmas.List.Elements.{Decides-contains, All-nil}
use Rattle.std.proofs.lemmas.List.Sums.{prefix_len-le-length}
use Rattle.std.proofs.lemmas.Bool.Decides.{Decides-by_or, Decides-like, leb_tells}
use Rattle.std.proofs.lemmas.Bool.{false_from_ne_true, and_parts}
use Rattle.lola_lexer.specs.declared.shape.TokenShape.TheVariants as is
use Rattle.lola_lexer.specs.Spelling.{Bytes, in_name, units, pointed, IsDigits}
use Rattle.lola_lexer.specs.Lexical.{is_unit, run, measured, number}
use Rattle.lola_lexer.specs.Longest.{StandsAt, IsSound}
use Rattle.lola_lexer.proofs.Runs.{run_stops, run_moves, run_passes}
use Rattle.lola_lexer.proofs.Signs.{if_goes}

pub unit_Decides : (u : Bytes) → Decides (is_unit u) (Contains units u)
unit_Decides u =
    Decides-contains units u (is_unit u)
    (Decides-by_or (λ v. bytes_eq u v) (λ v. v ≡ u) (list_any (bytes_eq u)) (λ v. Decides-like (bytes_eq u v) (λ e. sym e) (λ e. sym e) (bytes_eq-Decides u v)) refl (λ _ _. refl) units)

pub pointed_some : (f : Bytes) → 0 < length f → pointed f ≡ 46 ∷ f
pointed_some [] h = absurd (omega (arith, h))
pointed_some (d ∷ f) h = refl

-- where a byte stands that is not 0, the text goes on
pub inside : (z : Bytes) (i k : ℕ) → (0 == k) ≡ false → (slice_index z i == k) ≡ true → i < length z
inside z i k some h =
    elim (leb_tells (length z) i) [
      | inl p ↦ absurd (true≢false (sym h ∙ ap (λ b. b == k) (get_or_past z i 0 p.1) ∙ some))
      | inr p ↦ p.1
    ]

-- the byte behind a run that begins further on
pub stops_behind : (p : ℕ → Bool) → p 0 ≡ false → (at : ℕ) (z : Bytes) → p (slice_index z (at + run p at z)) ≡ false
stops_behind p none at z = rw (← get_or-drop) (run_stops p none (drop at z))

-- What a number is that ends at the place, by the parts that it has: the digits before a point and those behind it.
pub record IsMeasured (z whole fraction : Bytes) (digits end : ℕ) : Type 0 where
  pub fits : end ≤ length z
  pub some : 1 ≤ end
  pub parts : take end z ≡ whole ++ pointed fraction
  pub whole_digits : IsDigits whole
  pub fraction_digits : AllPass is_ascii_digit fraction
  pub count : digits ≡ length whole + length fraction
  pub integer : digits ≡ end → (take end z ≡ whole) × ((slice_index z end == 46 && is_ascii_digit (slice_index z (end + 1))) ≡ false)

integer_stands : (z whole fraction : Bytes) (digits end : ℕ) → IsMeasured z whole fraction digits end → digits ≤ 38 → (run in_name end z == 0) ≡ true
    → (digits == end) ≡ true → StandsAt z is.Integer end
integer_stands z whole fraction digits end m few none is =
    let e : digits ≡ end = eqb-true digits end is in
    let no_unit : run in_name end z ≡ 0 = eqb-true (run in_name end z) 0 none in
    let stop : in_name (slice_index z end) ≡ false = rw (no_unit, add-zero) at (stops_behind in_name refl end z) in
    let n : length (take end z) ≡ end = length-take-le end z m.fits in
    record {
      fits = m.fits;
      some = m.some;
      token = (rw ((m.integer e).0) m.whole_digits, omega (arith, n));
      ends = rw (stop, (m.integer e).1) refl;
    }

quantity_stands : (z whole fraction : Bytes) (digits end : ℕ) → IsMeasured z whole fraction digits end → digits ≤ 38
    → is_unit (take (run in_name end z) (drop end z)) ≡ true → StandsAt z is.Quantity (end + run in_name end z)
quantity_stands z whole fraction digits end m few is =
    let unit = run in_name end z in
    let short : unit ≤ length (drop end z) = prefix_len-le-length in_name (drop end z) in
    record {
      fits = omega (arith, short, length-drop end z, m.fits);
      some = omega (arith, m.some);
      token = record {
        whole = whole;
        fraction = fraction;
        unit = take unit (drop end z);
        spelled = take-add end unit z ∙ ap (λ front. front ++ take unit (drop end z)) m.parts ∙ append_assoc whole (pointed fraction) (take unit (drop end z));
        digits = m.whole_digits;
        fraction_digits = m.fraction_digits;
        few = omega (arith, few, m.count);
        is_unit = (unit_Decides (take unit (drop end z))).0 is;
      };
      ends = stops_behind in_name refl end z;
    }

pub measured_sound : (z whole fraction : Bytes) (digits end : ℕ) → IsMeasured z whole fraction digits end → IsSound z (measured digits end z)
measured_sound z whole fraction digits end m =
    let unit = run in_name end z in
    if_goes (nat_lt 38 digits) _ _ (IsSound z) (λ many. tt) (λ few.
    let most : digits ≤ 38 = ltb-false 38 digits few in
    if_goes (unit == 0) _ _ (IsSound z)
    (λ none. if_goes (digits == end) _ _ (IsSound z) (λ is. integer_stands z whole fraction digits end m most none is) (λ no_integer. tt))
    (λ some. if_goes (is_unit (take unit (drop end z))) _ _ (IsSound z) (λ is. quantity_stands z whole fraction digits end m most is) (λ no_unit. tt)))

-- a number without a point
plain_measured : (z : Bytes) (n : ℕ) → n ≡ prefix_len is_ascii_digit z → 0 < n → (slice_index z n == 46 && is_ascii_digit (slice_index z (n + 1))) ≡ false
    → IsMeasured z (take n z) [] n n
plain_measured z n is some no_point =
    let fits : n ≤ length z = rw is (prefix_len-le-length is_ascii_digit z) in
    let long : length (take n z) ≡ n = length-take-le n z fits in
    record {
      fits = fits;
      some = omega (arith, some);
      parts = sym (append-nil (take n z));
      whole_digits = (omega (arith, long, some), rw is (run_passes is_ascii_digit z));
      fraction_digits = All-nil (λ b. is_ascii_digit b ≡ true);
      count = rw add-zero (sym long);
      integer = λ _. (refl, no_point);
    }

-- a number with a point: so many digits before it and so many behind it
pointed_measured : (z : Bytes) (n m : ℕ) → n ≡ prefix_len is_ascii_digit z → 0 < n → (slice_index z n == 46) ≡ true
    → m ≡ run is_ascii_digit (n + 1) z → 0 < m → IsMeasured z (take n z) (take m (drop (n + 1) z)) (n + m) (n + 1 + m)
pointed_measured z n m is some point m_is m_some =
    let inner : n < length z = inside z n 46 refl point in
    let short : m ≤ length (drop (n + 1) z) = rw m_is (prefix_len-le-length is_ascii_digit (drop (n + 1) z)) in
    let fits : n + 1 + m ≤ length z = omega (arith, short, length-drop (n + 1) z, inner) in
    let long : length (take n z) ≡ n = length-take-le n z (omega (arith, inner)) in
    let tail : length (take m (drop (n + 1) z)) ≡ m = length-take-le m (drop (n + 1) z) short in
    let front : drop n z ≡ 46 ∷ drop (n + 1) z = drop_more z n 0 inner ∙ ap (λ b. b ∷ drop (n + 1) z) (eqb-true (slice_index z n) 46 point) in
    let turned : n + 1 + m ≡ n + suc m = omega arith in
    record {
      fits = fits;
      some = omega (arith, some);
      parts = ap (λ k. take k z) turned ∙ take-add n (suc m) z ∙ ap (λ l. take n z ++ take (suc m) l) front
          ∙ ap (λ l. take n z ++ l) (sym (pointed_some (take m (drop (n + 1) z)) (omega (arith, tail, m_some))));
      whole_digits = (omega (arith, long, some), rw is (run_passes is_ascii_digit z));
      fraction_digits = rw m_is (run_passes is_ascii_digit (drop (n + 1) z));
      count = omega (arith, long, tail);
      integer = λ e. absurd (omega (arith, e));
    }

number_of : (z : Bytes) (n : ℕ) (x : Bool) → n ≡ prefix_len is_ascii_digit z → 0 < n → (slice_index z n == 46 && is_ascii_digit (slice_index z (n + 1))) ≡ x
    → IsSound z (let end = if x then n + 1 + run is_ascii_digit (n + 1) z else n in measured (if end == n then end else end - 1) end z)
number_of z n false is some no_point =
    rw (eq-eqb n n refl) (measured_sound z (take n z) [] n n (plain_measured z n is some no_point))
number_of z n true is some point =
    let parts = and_parts (slice_index z n == 46) (is_ascii_digit (slice_index z (n + 1))) point in
    let m = run is_ascii_digit (n + 1) z in
    let m_some : 0 < m = run_moves is_ascii_digit refl (drop (n + 1) z) (rw (get_or-drop, add-zero) parts.1) in
    let other : (n + 1 + m == n) ≡ false = false_from_ne_true (n + 1 + m == n) (λ e. absurd (omega (arith, m_some, eqb-true (n + 1 + m) n e))) in
    let count : n + 1 + m - 1 ≡ n + m = omega arith in
    rw (other, count) (measured_sound z (take n z) (take m (drop (n + 1) z)) (n + m) (n + 1 + m) (pointed_measured z n m is some parts.0 refl m_some))

pub number_sound : (z : Bytes) → is_ascii_digit (slice_index z 0) ≡ true → IsSound z (number z)
unfolding number
number_sound z h =
    number_of z (prefix_len is_ascii_digit z) (slice_index z (prefix_len is_ascii_digit z) == 46 && is_ascii_digit (slice_index z (prefix_len is_ascii_digit z + 1)))
    refl (run_moves is_ascii_digit refl z h) refl
