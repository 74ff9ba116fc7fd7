-- Greatest common divisors of multiples, and fractions in lowest terms.
use Rattle.std.proofs.Common.{◌≡◌, ℕ, zero, suc, ◌+◌, ◌*◌, ◌^◌, ◌/◌, ◌%◌, ◌<◌, ◌≤◌, sym, ap, ◌∙◌, arith, subst, ⊎_elim}
use Rattle.std.specs.Int.{◌∣◌, IsGcd}
use Rattle.std.proofs.lemmas.Bool.{cases_lt}
use Rattle.std.proofs.lemmas.Nat.{div-add-mod', mod_below}
use Rattle.std.proofs.lemmas.Nat.Gcd.{IsGcd-from_zero, IsGcd-from_mod, same_from_IsGcd, dvd_antisymm, le_of_dvd}
use Rattle.std.proofs.Math.Nat.{mul-div-mul_right, div-mul_cancel, dvd-mul_left, dvd-mul_right, mul-dvd-mul_right, one-dvd, one-mul, mul-le-mul_right, pos_of_dvd_of_pos}
use Rattle.lola_value.specs.Ratio.{Ratio}
use Rattle.lola_value.specs.Rate.{IsLowest}

-- the remainder of multiples
scaled_rest : (a b k : ℕ) → 0 < k → (a % b) * k ≡ (a * k) % (b * k)
scaled_rest a b k h =
    let whole : (a / b * b + a % b) * k ≡ a * k = ap (λ n. n * k) (div-add-mod' a b) in
    let both : a * k / (b * k) * (b * k) + (a * k) % (b * k) ≡ a * k = div-add-mod' (a * k) (b * k) in
    let same : a / b * (b * k) + (a * k) % (b * k) ≡ a * k = subst (λ q. q * (b * k) + (a * k) % (b * k) ≡ a * k) (mul-div-mul_right a b h) both in
    omega (arith, whole, same)

-- a greatest common divisor, here and of the multiples
record IsScaledGcd (a b k g : ℕ) : Type 0 where
  here : IsGcd a b g
  scaled : IsGcd (a * k) (b * k) (g * k)

-- there is one, by the remainders of the two numbers
scaled_up_to : (most a b k : ℕ) → 0 < k → b < most → (g : ℕ) × IsScaledGcd a b k g
scaled_up_to zero a b k h few = absurd (omega arith)
scaled_up_to (suc most) a b k h few = ⊎_elim
    (λ some.
    let less : a % b < b = mod_below a b some in
    let rest = scaled_up_to most b (a % b) k h (omega arith) in (
      rest.0,
      record {
        here = IsGcd-from_mod a b rest.0 rest.1.here;
        scaled = IsGcd-from_mod (a * k) (b * k) (rest.0 * k) (subst (λ n. IsGcd (b * k) n (rest.0 * k)) (scaled_rest a b k h) rest.1.scaled);
      },
    ))
    (λ none.
    let no : b ≡ 0 = omega arith in
    (a, record { here = IsGcd-from_zero a b no; scaled = IsGcd-from_zero (a * k) (b * k) (ap (λ n. n * k) no ∙ (let z : 0 * k ≡ 0 = omega arith in z)) }))
    (cases_lt 0 b)

-- what divides a multiple, and has no factor in common with the one, divides the other
pub divides_other : (n d q : ℕ) → 0 < q → IsGcd n d 1 → d ∣ n * q → d ∣ q
divides_other n d q h coprime divides =
    let g = scaled_up_to (d + 1) n d q h (omega arith) in
    let is_one : g.0 ≡ 1 = same_from_IsGcd n d g.0 1 g.1.here coprime in
    let of_both : d ∣ g.0 * q = g.1.scaled.2 d divides (dvd-mul_right d q) in
    subst (λ x. d ∣ x) (ap (λ x. x * q) is_one ∙ one-mul q) of_both

-- the greatest common divisor of parts in lowest terms is 1
pub gcd_of_lowest : (r : Ratio) → IsLowest r → IsGcd r.num r.den 1
gcd_of_lowest r lowest = (one-dvd r.num, one-dvd r.den, λ d a b. subst (λ x. x ∣ 1) (sym (lowest d a b)) (one-dvd 1))

-- a part by its divisor is not 0
pub part_positive : (a g : ℕ) → 0 < a → g ∣ a → 0 < a / g
part_positive a g h divides = ⊎_elim
    (λ some. some)
    (λ none.
    let no : a / g ≡ 0 = omega arith in
    let whole : 0 * g ≡ a = subst (λ q. q * g ≡ a) no (div-mul_cancel g divides) in
    absurd (omega (arith, whole)))
    (cases_lt 0 (a / g))

-- the parts by their greatest common divisor are in lowest terms
pub lowest_by_gcd : (a b g : ℕ) → 0 < g → 0 < a → IsGcd a b g → IsLowest (record { num = a / g; den = b / g })
lowest_by_gcd a b g h ha gcd d da db =
    let of_a : d * g ∣ a = subst (λ x. d * g ∣ x) (div-mul_cancel g gcd.0) (mul-dvd-mul_right d da g) in
    let of_b : d * g ∣ b = subst (λ x. d * g ∣ x) (div-mul_cancel g gcd.1) (mul-dvd-mul_right d db g) in
    let small : d * g ≤ g = le_of_dvd h (gcd.2 (d * g) of_a of_b) in
    let positive : 0 < d = pos_of_dvd_of_pos da (part_positive a g ha gcd.0) in
    ⊎_elim
    (λ below. omega arith)
    (λ above. let more : 2 * g ≤ d * g = mul-le-mul_right g above in absurd (omega (arith, more, small)))
    (cases_lt d 2)

-- a factor on both sides
pub cancel_right : (x y g : ℕ) → 0 < g → x * g ≡ y * g → x ≡ y
cancel_right x y g h same = ⊎_elim
    (λ below. let less : suc x * g ≤ y * g = mul-le-mul_right g below in absurd (omega (arith, less, same)))
    (λ above. ⊎_elim
    (λ over. let less : suc y * g ≤ x * g = mul-le-mul_right g over in absurd (omega (arith, less, same)))
    (λ under. omega arith)
    (cases_lt y x))
    (cases_lt x y)

-- two fractions in lowest terms that are one number are one fraction
pub record IsSameRatio (r q : Ratio) : Type 0 where
  pub num : r.num ≡ q.num
  pub den : r.den ≡ q.den

-- in lowest terms there is one fraction of a number
pub lowest_is_one : (r q : Ratio) → 0 < r.den → 0 < q.den → IsLowest r → IsLowest q → r.num * q.den ≡ q.num * r.den → IsSameRatio r q
lowest_is_one r q hr hq lr lq same =
    let q_in_r : q.den ∣ r.den = divides_other q.num q.den r.den hr (gcd_of_lowest q lq) (subst (λ n. q.den ∣ n) same (dvd-mul_left q.den r.num)) in
    let r_in_q : r.den ∣ q.den = divides_other r.num r.den q.den hq (gcd_of_lowest r lr) (subst (λ n. r.den ∣ n) (sym same) (dvd-mul_left r.den q.num)) in
    let den : r.den ≡ q.den = dvd_antisymm r_in_q q_in_r in
    record {
      num = cancel_right r.num q.num q.den hq (same ∙ ap (λ d. q.num * d) den);
      den = den;
    }

-- fractions with the same parts are one
pub same_ratio : (r q : Ratio) → IsSameRatio r q → r ≡ q
same_ratio r q same = ap (λ n. let x : Ratio = record { num = n; den = r.den } in x) same.num ∙ ap (λ d. let x : Ratio = record { num = q.num; den = d } in x) same.den

-- the greatest common divisor of two numbers is that of others that are equal to them
pub same_divisor : (m n g a b : ℕ) → m ≡ a → n ≡ b → IsGcd m n g → IsGcd a b g
same_divisor m n g a b first second is = subst (λ k. IsGcd k b g) first (subst (λ k. IsGcd m k g) second is)

-- it is not above a number that is not 0, so it has no more bits than the two
pub divisor_below : (a b g : ℕ) → 0 < a + b → a < 2 ^ 64 → b < 2 ^ 64 → IsGcd a b g → g < 2 ^ 64
divisor_below a zero g some a-fits b-fits is = let below : g ≤ a = le_of_dvd (omega (arith, some)) is.0 in omega (arith, below, a-fits)
divisor_below a (suc b) g some a-fits b-fits is = let below : g ≤ suc b = le_of_dvd (omega arith) is.1 in omega (arith, below, b-fits)
