-- Numbers, times and fields of numbers are read back from what is written of them.
use Rattle.std.proofs.Common.{◌≡◌, ◌≢◌, ◌<◌, ◌≤◌, ◌+◌, ◌-◌, ◌*◌, ◌/◌, ◌%◌, ◌^◌, ℕ, ℤ, zero, suc, pos, negsuc, neg_ℤ, ◌≤ℤ◌, List, [], ◌∷◌, ◌++◌, ◌∙◌, true, false, Option, Some, None, option_map, if◌then◌else◌, refl, ap, subst, arith, take, length, replicate, add-one, decimal}
use Rattle.std.specs.Prelude.{nat_eq, nat_lt}
use Rattle.std.specs.List.{list_all, after_first}
use Rattle.std.proofs.Math.Seq.{take-append_seam}
use Rattle.std.proofs.lemmas.Bool.{and_from, and_parts, le-leb, leb-true, lt-ltb, ne_eqb}
use Rattle.std.proofs.lemmas.Fmt.{decimal_by_steps, decimal_nonempty}
use Rattle.std.proofs.lemmas.Int.{ints}
use Rattle.std.proofs.lemmas.List.{length-append, length-replicate}
use Rattle.lola_value.specs.declared.value.Kind.{Kind}
use Rattle.lola_value.specs.declared.value.Kind.TheVariants as kind
use Rattle.lola_value.specs.Arithmetic.{is_within}
use Rattle.lola_value.specs.Numbers.{integer_text}
use Rattle.lola_value.specs.Times.{is_digit, is_point, is_time, latest, nanoseconds, nine_digits, number_after, number_of, read_time, time_text, up_to_latest}
use Rattle.lola_value.proofs.Printing.{nine_at_most}
use Rattle.lola_value.proofs.Ranges.{small}
use Rattle.lola_rows.specs.Values.{and_then, in_range, read_digits, read_integer, read_number}
use Rattle.lola_report.specs.Candidates.{natural, read_natural}
use Rattle.lola_report.proofs.Bytes.{digits-no-point, first-after, first-before}

-- digits that spell a number
pub record Spell (n : ℕ) (ds : List ℕ) : Type 0 where
  pub all : list_all is_digit ds ≡ true
  pub value : number_of ds ≡ n

digit-yes : (b : ℕ) → 48 ≤ b → b ≤ 57 → is_digit b ≡ true
digit-yes b low high = and_from _ _ (le-leb 48 b low) (le-leb b 57 high)

number-more : (m : ℕ) (ds : List ℕ) (d : ℕ) → number_after m (ds ++ (d ∷ [])) ≡ number_after m ds * 10 + (d - 48)
number-more m [] d = refl
number-more m (x ∷ ds) d = number-more (m * 10 + (x - 48)) ds d

all-more : (ds : List ℕ) (d : ℕ) → list_all is_digit ds ≡ true → is_digit d ≡ true → list_all is_digit (ds ++ (d ∷ [])) ≡ true
all-more [] d a h = and_from _ _ h refl
all-more (x ∷ ds) d a h = let p = and_parts _ _ a in and_from _ _ p.0 (all-more ds d p.1 h)

-- the digits of a number spell it
pub decimal-spells : (n : ℕ) → n < 2 ^ 64 → Spell n (decimal n)
decimal-spells = decimal_by_steps (λ n ds. Spell n ds)
    (λ n lt. record { all = and_from _ _ (digit-yes (48 + n) (omega arith) (omega arith)) refl; value = omega arith })
    (λ n ds big was. record {
      all = all-more ds (48 + n % 10) was.all (digit-yes (48 + n % 10) (omega arith) (omega arith));
      value = number-more 0 ds (48 + n % 10) ∙ ap (λ k. k * 10 + (48 + n % 10 - 48)) was.value ∙ (let e : n / 10 * 10 + (48 + n % 10 - 48) ≡ n = omega arith in e);
    })

pub decimal-some : (n : ℕ) → n < 2 ^ 64 → decimal n ≢ []
decimal-some n lt e = let some = decimal_nonempty n lt in absurd (omega (arith, ap length e))

-- zeros before digits
zeros-all : (k : ℕ) (ds : List ℕ) → list_all is_digit ds ≡ true → list_all is_digit (replicate k 48 ++ ds) ≡ true
zeros-all zero ds h = h
zeros-all (suc k) ds h = zeros-all k ds h

zeros-value : (k : ℕ) (ds : List ℕ) → number_of (replicate k 48 ++ ds) ≡ number_of ds
zeros-value zero ds = refl
zeros-value (suc k) ds = zeros-value k ds

-- nine digits
module _ (m : ℕ) (lt : m < 1000000000) where
  fits : m < 2 ^ 64
  fits = omega arith

  nine-all : list_all is_digit (nine_digits m) ≡ true
  nine-all = zeros-all (9 - length (decimal m)) (decimal m) (decimal-spells m fits).all

  nine-value : number_of (nine_digits m) ≡ m
  nine-value = zeros-value (9 - length (decimal m)) (decimal m) ∙ (decimal-spells m fits).value

  nine-length : length (decimal m) ≤ 9 → length (nine_digits m) ≡ 9
  nine-length short =
      let sum = length-append (replicate (9 - length (decimal m)) 48) (decimal m) in
      let zeros = length-replicate {A = ℕ} (9 - length (decimal m)) 48 in
      omega (arith, sum, zeros, short)

-- what is read of the digits before and behind a point
abbrev timed : List ℕ → List ℕ → Option ℕ
timed whole decimals = if is_time whole decimals then up_to_latest (nanoseconds whole decimals) else None

-- a time
module _ (t : ℕ) (in_time : t ≤ latest) where
  seconds-fit : t / 1000000000 < 2 ^ 64
  seconds-fit = omega arith

  part-fits : t % 1000000000 < 1000000000
  part-fits = omega arith

  whole-spells : Spell (t / 1000000000) (decimal (t / 1000000000))
  whole-spells = decimal-spells (t / 1000000000) seconds-fit

  timed-is : timed (decimal (t / 1000000000)) (nine_digits (t % 1000000000)) ≡ Some t
  timed-is =
      let m = t % 1000000000 in
      let w = decimal (t / 1000000000) in
      let some = decimal_nonempty (t / 1000000000) seconds-fit in
      let long : length (nine_digits m) ≡ 9 = nine-length m part-fits (nine_at_most t) in
      let nine : take 9 (nine_digits m ++ replicate 9 48) ≡ nine_digits m =
      subst (λ (k : ℕ). take k (nine_digits m ++ replicate 9 48) ≡ nine_digits m) long (take-append_seam (nine_digits m) (replicate 9 48)) in
      let digits : is_time w (nine_digits m) ≡ true =
      and_from _ _ (and_from _ _ whole-spells.all (nine-all m part-fits)) (lt-ltb 0 (length w + length (nine_digits m)) (omega (arith, some))) in
      let value : nanoseconds w (nine_digits m) ≡ t =
      ap (λ k. number_of w * 1000000000 + number_of k) nine ∙ ap (λ k. number_of w * 1000000000 + k) (nine-value m part-fits)
      ∙ ap (λ k. k * 1000000000 + m) whole-spells.value ∙ (let e : t / 1000000000 * 1000000000 + t % 1000000000 ≡ t = omega arith in e) in
      rw digits (ap up_to_latest value ∙ rw (le-leb t latest in_time) refl)

  pub time-back : read_time (time_text t) ≡ Some t
  time-back =
      let w = decimal (t / 1000000000) in
      let d = nine_digits (t % 1000000000) in
      let none = digits-no-point w whole-spells.all in
      ap (λ b. timed b (after_first is_point (w ++ (46 ∷ d)))) (first-before is_point w d 46 none refl)
      ∙ ap (timed w) (first-after is_point w d 46 none refl)
      ∙ timed-is

-- digits without a sign
digits-integer : (ds : List ℕ) → ds ≢ [] → list_all is_digit ds ≡ true → read_integer ds ≡ Some (pos (number_of ds))
digits-integer [] some all = absurd (some refl)
digits-integer (d ∷ ds) some all =
    let p = and_parts _ _ all in
    let r = and_parts _ _ p.0 in
    let low : 48 ≤ d = leb-true 48 d r.0 in
    let minus : nat_eq d 45 ≡ false = ne_eqb d 45 (λ e. absurd (omega (arith, e))) in
    let plus : nat_eq d 43 ≡ false = ne_eqb d 43 (λ e. absurd (omega (arith, e))) in
    let long : nat_lt 0 (length (d ∷ ds)) ≡ true = lt-ltb 0 (length (d ∷ ds)) (omega arith) in
    rw (minus, plus, all, long) refl

digits-read : (ds : List ℕ) → ds ≢ [] → list_all is_digit ds ≡ true → read_digits ds ≡ Some (number_of ds)
digits-read [] some all = absurd (some refl)
digits-read (d ∷ ds) some all =
    let long : nat_lt 0 (length (d ∷ ds)) ≡ true = lt-ltb 0 (length (d ∷ ds)) (omega arith) in
    rw (all, long) refl

natural-read : (n : ℕ) → n < 2 ^ 64 → read_integer (decimal n) ≡ Some (pos n)
natural-read n lt = let s = decimal-spells n lt in digits-integer (decimal n) (decimal-some n lt) s.all ∙ ap (λ k. Some (pos k)) s.value

negative-read : (n : ℕ) → n + 1 < 2 ^ 64 → read_integer (45 ∷ decimal (n + 1)) ≡ Some (negsuc n)
negative-read n lt =
    let s = decimal-spells (n + 1) lt in
    ap (option_map (λ k. neg_ℤ (pos k))) (digits-read (decimal (n + 1)) (decimal-some (n + 1) lt) s.all ∙ ap (λ k. Some k) s.value)
    ∙ ap (λ k. Some (neg_ℤ (pos k))) (add-one n)

-- numbers of kinds are below 2^64 in size
pub pos-fits : (k : Kind) (n : ℕ) → is_within k (pos n) ≡ true → n < 2 ^ 64
pos-fits k n within = let h : pos n ≤ℤ pos 18446744073709551615 = (small k (pos n) within).high in omega (arith, ints)

neg-fits : (k : Kind) (n : ℕ) → is_within k (negsuc n) ≡ true → n + 1 < 2 ^ 64
neg-fits k n within = let h : negsuc 9223372036854775807 ≤ℤ negsuc n = (small k (negsuc n) within).low in omega (arith, ints)

-- a number of a kind
integer-read : (k : Kind) (z : ℤ) → is_within k z ≡ true → read_integer (integer_text z) ≡ Some z
integer-read k (pos n) within = natural-read n (pos-fits k n within)
integer-read k (negsuc n) within = negative-read n (neg-fits k n within)

pub number-back : (k : Kind) (z : ℤ) → is_within k z ≡ true → read_number k (integer_text z) ≡ Some z
number-back k z within = ap (λ o. and_then o (in_range k)) (integer-read k z within) ∙ rw within refl

pub natural-back : (k : Kind) (n : ℕ) → is_within k (pos n) ≡ true → read_natural k (decimal n) ≡ Some n
natural-back k n within = ap (λ o. and_then o natural) (number-back k (pos n) within)

-- the numbers of a source and of a row
pub source-within : (n : ℕ) → n < 2 ^ 32 → is_within kind.UInt32 (pos n) ≡ true
source-within n lt = grind (arith, ints)

pub number-within : (n : ℕ) → n < 2 ^ 64 → is_within kind.UInt64 (pos n) ≡ true
number-within n lt = grind (arith, ints)
