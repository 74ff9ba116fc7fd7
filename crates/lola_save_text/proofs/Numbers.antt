-- Numbers and times have different texts.
use Rattle.std.proofs.Common.{◌≡◌, ℕ, ℤ, zero, suc, pos, negsuc, ◌+◌, ◌-◌, ◌*◌, ◌/◌, ◌%◌, ◌^◌, ◌<◌, ◌≤◌, List, [], ◌∷◌, ◌++◌, true, false, refl, sym, ap, ◌∙◌, arith, length, replicate, decimal}
use Rattle.std.specs.List.{list_all}
use Rattle.std.specs.Prelude.{unsigned_abs}
use Rattle.std.proofs.lemmas.Bool.{and_from, and_parts, le-leb}
use Rattle.std.proofs.lemmas.Fmt.{decimal_by_steps_wide}
use Rattle.lola_value.specs.Numbers.{integer_text}
use Rattle.lola_value.specs.Times.{is_digit, latest, nine_digits, number_after, number_of, time_text}
use Rattle.lola_save_text.proofs.SameCuts.{cut-same}

-- digits that spell a number
record Spell (n : ℕ) (ds : List ℕ) : Type 0 where
  pub all : list_all is_digit ds ≡ true
  pub value : number_of ds ≡ n
  pub some : ds ≡ [] → ⊥

digit-yes : (b : ℕ) → 48 ≤ b → b ≤ 57 → is_digit b ≡ true
digit-yes b low high = and_from _ _ (le-leb 48 b low) (le-leb b 57 high)

number-more : (m : ℕ) (ds : List ℕ) (d : ℕ) → number_after m (ds ++ (d ∷ [])) ≡ number_after m ds * 10 + (d - 48)
number-more m [] d = refl
number-more m (x ∷ ds) d = number-more (m * 10 + (x - 48)) ds d

all-more : (ds : List ℕ) (d : ℕ) → list_all is_digit ds ≡ true → is_digit d ≡ true → list_all is_digit (ds ++ (d ∷ [])) ≡ true
all-more [] d a h = and_from _ _ h refl
all-more (x ∷ ds) d a h = let p = and_parts _ _ a in and_from _ _ p.0 (all-more ds d p.1 h)

push-some : (ds : List ℕ) (d : ℕ) → ds ++ (d ∷ []) ≡ [] → ⊥
push-some [] d e = cc e
push-some (x ∷ ds) d e = cc e

spells : (n : ℕ) → n < 10 ^ 64 → Spell n (decimal n)
spells = decimal_by_steps_wide (λ n ds. Spell n ds)
    (λ n lt. record { all = and_from _ _ (digit-yes (48 + n) (omega arith) (omega arith)) refl; value = omega arith; some = λ e. absurd (cc e) })
    (λ n ds big was. record {
      all = all-more ds (48 + n % 10) was.all (digit-yes (48 + n % 10) (omega arith) (omega arith));
      value = number-more 0 ds (48 + n % 10) ∙ ap (λ k. k * 10 + (48 + n % 10 - 48)) was.value ∙ (let e : n / 10 * 10 + (48 + n % 10 - 48) ≡ n = omega arith in e);
      some = push-some ds (48 + n % 10);
    })

pub decimal-digits : (n : ℕ) → n < 10 ^ 64 → list_all is_digit (decimal n) ≡ true
decimal-digits n lt = (spells n lt).all

pub decimal-some : (n : ℕ) → n < 10 ^ 64 → decimal n ≡ [] → ⊥
decimal-some n lt = (spells n lt).some

pub decimal-value : (n : ℕ) → n < 10 ^ 64 → number_of (decimal n) ≡ n
decimal-value n lt = (spells n lt).value

pub decimal-same : (m n : ℕ) → m < 10 ^ 64 → n < 10 ^ 64 → decimal m ≡ decimal n → m ≡ n
decimal-same m n a b e = sym (spells m a).value ∙ ap number_of e ∙ (spells n b).value

-- digits do not begin with a minus sign
pub no-sign : (ds es : List ℕ) → list_all is_digit ds ≡ true → ds ≡ 45 ∷ es → ⊥
no-sign ds es a e = let f : list_all is_digit ds ≡ false = ap (list_all is_digit) e in cc

pub integer-same : (y z : ℤ) → unsigned_abs y < 10 ^ 64 → unsigned_abs z < 10 ^ 64 → integer_text y ≡ integer_text z → y ≡ z
integer-same (pos m) (pos n) a b e = ap pos (decimal-same m n a b e)
integer-same (pos m) (negsuc n) a b e = absurd (no-sign (decimal m) (decimal (n + 1)) (decimal-digits m a) e)
integer-same (negsuc m) (pos n) a b e = absurd (no-sign (decimal n) (decimal (m + 1)) (decimal-digits n b) (sym e))
integer-same (negsuc m) (negsuc n) a b e =
    let t : decimal (m + 1) ≡ decimal (n + 1) = cc in
    let s : m + 1 ≡ n + 1 = decimal-same (m + 1) (n + 1) (omega (arith, a)) (omega (arith, b)) t in
    ap negsuc (omega (arith, s))

-- zeros before digits
zeros-all : (k : ℕ) (ds : List ℕ) → list_all is_digit ds ≡ true → list_all is_digit (replicate k 48 ++ ds) ≡ true
zeros-all zero ds h = h
zeros-all (suc k) ds h = zeros-all k ds h

zeros-value : (k : ℕ) (ds : List ℕ) → number_of (replicate k 48 ++ ds) ≡ number_of ds
zeros-value zero ds = refl
zeros-value (suc k) ds = zeros-value k ds

pub nine-all : (m : ℕ) → m < 10 ^ 64 → list_all is_digit (nine_digits m) ≡ true
nine-all m lt = zeros-all (9 - length (decimal m)) (decimal m) (spells m lt).all

pub nine-value : (m : ℕ) → m < 10 ^ 64 → number_of (nine_digits m) ≡ m
nine-value m lt = zeros-value (9 - length (decimal m)) (decimal m) ∙ (spells m lt).value

nine-same : (m n : ℕ) → m < 10 ^ 64 → n < 10 ^ 64 → nine_digits m ≡ nine_digits n → m ≡ n
nine-same m n a b e =
    sym (nine-value m a) ∙ ap number_of e ∙ nine-value n b

pub time-same : (t u : ℕ) → t ≤ latest → u ≤ latest → time_text t ≡ time_text u → t ≡ u
time-same t u a b e =
    let cut = cut-same is_digit (decimal (t / 1000000000)) (decimal (u / 1000000000)) (46 ∷ nine_digits (t % 1000000000)) (46 ∷ nine_digits (u % 1000000000))
    (decimal-digits (t / 1000000000) (omega arith)) (decimal-digits (u / 1000000000) (omega arith)) refl refl e in
    let behind = cut.1 in
    let nine : nine_digits (t % 1000000000) ≡ nine_digits (u % 1000000000) = cc behind in
    let whole : t / 1000000000 ≡ u / 1000000000 = decimal-same (t / 1000000000) (u / 1000000000) (omega arith) (omega arith) cut.0 in
    let part : t % 1000000000 ≡ u % 1000000000 = nine-same (t % 1000000000) (u % 1000000000) (omega arith) (omega arith) nine in
    omega (arith, whole, part)
