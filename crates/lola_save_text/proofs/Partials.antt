-- Partial results of an aggregation have different texts, and so do the panes of a window.
use Rattle.std.proofs.Common.{◌≡◌, ◌∷◌, ℕ, ℤ, pos, negsuc, ◌+◌, ◌-◌, ◌*◌, ◌^◌, ◌<◌, ◌≤◌, List, [], ◌++◌, Bool, true, false, Option, Some, None, codes, refl, sym, ap, ◌∙◌, arith, decimal, nat_le, nat_eq}
use Rattle.std.specs.Prelude.{◌||◌, unsigned_abs}
use Rattle.std.specs.List.{list_all, sum_by}
use Rattle.std.proofs.lemmas.Bool.{and_from, and_parts, leb-true, leb-false, ltb-true}
use Rattle.std.proofs.lemmas.List.Sums.{sum_by-cons}
use Rattle.lola_value.specs.declared.value.Kind.{Kind}
use Rattle.lola_value.specs.Numbers.{integer_text}
use Rattle.lola_value.specs.Times.{is_digit, latest}
use Rattle.lola_model.specs.declared.spec.Agg.{Agg}
use Rattle.lola_model.specs.declared.spec.Agg.TheVariants as agg
use Rattle.lola_report.proofs.Mild.{Mild, is_mild, decimal_mild, integer_mild, mild_both, mild_and}
use Rattle.lola_save_text.specs.Fitting.{Times, are_panes, counted, is_last, is_partial, most_steps, time_or, total_size}
use Rattle.lola_save_text.specs.Forms.{WindowForm}
use Rattle.std.proofs.Math.Nat.{mul-le-mul_left}
use Rattle.lola_save_text.specs.Lines.{panes_text, partial_text, partials_text}
use Rattle.lola_save_text.specs.States.{Partial, Number, Extreme, Mean, Truth, SavedPanes}
use Rattle.lola_save_text.proofs.SameCuts.{Stops, cut-same}
use Rattle.lola_save_text.proofs.Numbers.{decimal-digits, decimal-same, decimal-some, integer-same}
use Rattle.lola_save_text.proofs.Values.{bool-cut, integer-cut, within-small}

-- the variant of a partial result, and that of an aggregation
abbrev pub variant : Partial → ℕ
variant (Number z) = 0
variant (Extreme o) = 1
variant (Mean s n) = 2
variant (Truth b) = 3

abbrev pub variant_of : Agg → ℕ
variant_of agg.Count = 0
variant_of agg.Sum = 0
variant_of agg.Min = 1
variant_of agg.Max = 1
variant_of agg.Avg = 2
variant_of agg.Forall = 3
variant_of agg.Exists = 3

pub variant-is : (how : Agg) (k : Kind) (q : Partial) → is_partial how k q ≡ true → variant q ≡ variant_of how
variant-is agg.Count k (Number z) e = refl
variant-is agg.Count k (Extreme None) e = absurd (cc)
variant-is agg.Count k (Extreme (Some z)) e = absurd (cc)
variant-is agg.Count k (Mean s n) e = absurd (cc)
variant-is agg.Count k (Truth b) e = absurd (cc)
variant-is agg.Sum k (Number z) e = refl
variant-is agg.Sum k (Extreme None) e = absurd (cc)
variant-is agg.Sum k (Extreme (Some z)) e = absurd (cc)
variant-is agg.Sum k (Mean s n) e = absurd (cc)
variant-is agg.Sum k (Truth b) e = absurd (cc)
variant-is agg.Min k (Number z) e = absurd (cc)
variant-is agg.Min k (Extreme None) e = refl
variant-is agg.Min k (Extreme (Some z)) e = refl
variant-is agg.Min k (Mean s n) e = absurd (cc)
variant-is agg.Min k (Truth b) e = absurd (cc)
variant-is agg.Max k (Number z) e = absurd (cc)
variant-is agg.Max k (Extreme None) e = refl
variant-is agg.Max k (Extreme (Some z)) e = refl
variant-is agg.Max k (Mean s n) e = absurd (cc)
variant-is agg.Max k (Truth b) e = absurd (cc)
variant-is agg.Avg k (Number z) e = absurd (cc)
variant-is agg.Avg k (Extreme None) e = absurd (cc)
variant-is agg.Avg k (Extreme (Some z)) e = absurd (cc)
variant-is agg.Avg k (Mean s n) e = refl
variant-is agg.Avg k (Truth b) e = absurd (cc)
variant-is agg.Forall k (Number z) e = absurd (cc)
variant-is agg.Forall k (Extreme None) e = absurd (cc)
variant-is agg.Forall k (Extreme (Some z)) e = absurd (cc)
variant-is agg.Forall k (Mean s n) e = absurd (cc)
variant-is agg.Forall k (Truth b) e = refl
variant-is agg.Exists k (Number z) e = absurd (cc)
variant-is agg.Exists k (Extreme None) e = absurd (cc)
variant-is agg.Exists k (Extreme (Some z)) e = absurd (cc)
variant-is agg.Exists k (Mean s n) e = absurd (cc)
variant-is agg.Exists k (Truth b) e = refl

-- numbers with few digits
abbrev pub IsShort : Partial → Type 0
IsShort (Number z) = unsigned_abs z < 10 ^ 64
IsShort (Extreme None) = Unit {0}
IsShort (Extreme (Some z)) = unsigned_abs z < 10 ^ 64
IsShort (Mean total count) = (unsigned_abs total < 10 ^ 64) × (count < 10 ^ 64)
IsShort (Truth b) = Unit {0}

-- a partial result that counts so few values, and whose total is so small, is short
pub short-is : (how : Agg) (k : Kind) (q : Partial) → is_partial how k q ≡ true → counted how q < 10 ^ 64 → total_size how q < 10 ^ 64 → IsShort q
short-is agg.Count k (Number z) e a b = a
short-is agg.Sum k (Number z) e a b = b
short-is agg.Min k (Number z) e a b = absurd (cc)
short-is agg.Max k (Number z) e a b = absurd (cc)
short-is agg.Avg k (Number z) e a b = absurd (cc)
short-is agg.Forall k (Number z) e a b = absurd (cc)
short-is agg.Exists k (Number z) e a b = absurd (cc)
short-is how k (Extreme None) e a b = tt
short-is agg.Min k (Extreme (Some z)) e a b = within-small k z e
short-is agg.Max k (Extreme (Some z)) e a b = within-small k z e
short-is agg.Count k (Extreme (Some z)) e a b = absurd (cc)
short-is agg.Sum k (Extreme (Some z)) e a b = absurd (cc)
short-is agg.Avg k (Extreme (Some z)) e a b = absurd (cc)
short-is agg.Forall k (Extreme (Some z)) e a b = absurd (cc)
short-is agg.Exists k (Extreme (Some z)) e a b = absurd (cc)
short-is agg.Count k (Mean total count) e a b = absurd (cc)
short-is agg.Sum k (Mean total count) e a b = absurd (cc)
short-is agg.Min k (Mean total count) e a b = absurd (cc)
short-is agg.Max k (Mean total count) e a b = absurd (cc)
short-is agg.Avg k (Mean total count) e a b = (b, a)
short-is agg.Forall k (Mean total count) e a b = absurd (cc)
short-is agg.Exists k (Mean total count) e a b = absurd (cc)
short-is how k (Truth b) e a c = tt

-- the minus sign alone is no number
pub no-dash : (z : ℤ) → unsigned_abs z < 10 ^ 64 → codes "-" ≡ integer_text z → ⊥
no-dash (pos n) a e =
    let f : list_all is_digit (codes "-") ≡ true = ap (list_all is_digit) e ∙ decimal-digits n a in cc
no-dash (negsuc n) a e =
    let f : [] ≡ decimal (n + 1) = cc in
    let some = decimal-some (n + 1) (omega (arith, a)) in some (sym f)

-- the bytes of a total
abbrev pub is_signed : ℕ → Bool
is_signed b = is_digit b || nat_eq b 45

digits-signed : (ds : List ℕ) → list_all is_digit ds ≡ true → list_all is_signed ds ≡ true
digits-signed [] e = refl
digits-signed (d ∷ ds) e =
    let p = and_parts (is_digit d) (list_all is_digit ds) e in
    and_from (is_signed d) (list_all is_signed ds) (ap (λ b. b || nat_eq d 45) p.0) (digits-signed ds p.1)

pub integer-signed : (z : ℤ) → unsigned_abs z < 10 ^ 64 → list_all is_signed (integer_text z) ≡ true
integer-signed (pos n) a = digits-signed (decimal n) (decimal-digits n a)
integer-signed (negsuc n) a = and_from (is_signed 45) (list_all is_signed (decimal (n + 1))) refl (digits-signed (decimal (n + 1)) (decimal-digits (n + 1) (omega (arith, a))))

pub mean-mild : (z : ℤ) (n : ℕ) → Mild (partial_text (Mean z n))
mean-mild z n = mild_both (integer_text z) (47 ∷ decimal n) (integer_mild z) (mild_and 47 (decimal n) refl (decimal_mild n))

-- a partial result with what stands behind it
module _ (u v : List ℕ) (s : Stops is_mild u) (t : Stops is_mild v) where
  pub same-cut : (q r : Partial) → IsShort q → IsShort r → variant q ≡ variant r → partial_text q ++ u ≡ partial_text r ++ v → (q ≡ r) × (u ≡ v)
  same-cut (Number y) (Number z) a b n e = let r = integer-cut y z u v a b s t e in (ap (λ w. Number w) r.0, r.1)
  same-cut (Extreme None) (Extreme None) a b n e = (refl, let f : u ≡ v = cc in f)
  same-cut (Extreme None) (Extreme (Some z)) a b n e =
      let r = cut-same is_mild (codes "-") (integer_text z) u v refl (integer_mild z) s t e in absurd (no-dash z b r.0)
  same-cut (Extreme (Some y)) (Extreme None) a b n e =
      let r = cut-same is_mild (integer_text y) (codes "-") u v (integer_mild y) refl s t e in absurd (no-dash y a (sym r.0))
  same-cut (Extreme (Some y)) (Extreme (Some z)) a b n e = let r = integer-cut y z u v a b s t e in (ap (λ w. Extreme (Some w)) r.0, r.1)
  same-cut (Mean y m) (Mean z n) a b o e =
      let r = cut-same is_mild (partial_text (Mean y m)) (partial_text (Mean z n)) u v (mean-mild y m) (mean-mild z n) s t e in
      let c = cut-same is_signed (integer_text y) (integer_text z) (47 ∷ decimal m) (47 ∷ decimal n) (integer-signed y a.0) (integer-signed z b.0) refl refl r.0 in
      let d = c.1 in
      let w : decimal m ≡ decimal n = cc d in
      let f : y ≡ z = integer-same y z a.0 b.0 c.0 in
      let g : m ≡ n = decimal-same m n a.1 b.1 w in
      (λ i. Mean (f i) (g i), r.1)
  same-cut (Truth b) (Truth c) x y n e = let r = bool-cut b c u v s t e in (ap (λ w. Truth w) r.0, r.1)
  same-cut (Number y) (Extreme p) a b n e = absurd (omega (arith, n))
  same-cut (Number y) (Mean z l) a b n e = absurd (omega (arith, n))
  same-cut (Number y) (Truth d) a b n e = absurd (omega (arith, n))
  same-cut (Extreme o) (Number z) a b n e = absurd (omega (arith, n))
  same-cut (Extreme o) (Mean z l) a b n e = absurd (omega (arith, n))
  same-cut (Extreme o) (Truth d) a b n e = absurd (omega (arith, n))
  same-cut (Mean y m) (Number z) a b n e = absurd (omega (arith, n))
  same-cut (Mean y m) (Extreme p) a b n e = absurd (omega (arith, n))
  same-cut (Mean y m) (Truth d) a b n e = absurd (omega (arith, n))
  same-cut (Truth c) (Number z) a b n e = absurd (omega (arith, n))
  same-cut (Truth c) (Extreme p) a b n e = absurd (omega (arith, n))
  same-cut (Truth c) (Mean z l) a b n e = absurd (omega (arith, n))

-- all in a line
abbrev pub AllShort : List Partial → Type 0
AllShort [] = Unit {0}
AllShort (q ∷ qs) = IsShort q × AllShort qs

pub partials-stop : (qs : List Partial) → Stops is_mild (partials_text qs)
partials-stop [] = tt
partials-stop (q ∷ qs) = refl

partials-same : (how : Agg) (k : Kind) (qs rs : List Partial) → AllShort qs → AllShort rs → list_all (is_partial how k) qs ≡ true → list_all (is_partial how k) rs ≡ true
    → partials_text qs ≡ partials_text rs → qs ≡ rs
partials-same how k [] [] a b c d e = refl
partials-same how k (q ∷ qs) [] a b c d e = absurd (cc)
partials-same how k [] (r ∷ rs) a b c d e = absurd (cc)
partials-same how k (q ∷ qs) (r ∷ rs) a b c d e =
    let g : partial_text q ++ partials_text qs ≡ partial_text r ++ partials_text rs = cc in
    let x = and_parts (is_partial how k q) (list_all (is_partial how k) qs) c in
    let y = and_parts (is_partial how k r) (list_all (is_partial how k) rs) d in
    let one = same-cut (partials_text qs) (partials_text rs) (partials-stop qs) (partials-stop rs) q r a.0 b.0 (variant-is how k q x.0 ∙ sym (variant-is how k r y.0)) g in
    let h = one.0 in
    let m = partials-same how k qs rs a.1 b.1 x.1 y.1 one.1 in
    λ i. h i ∷ m i

-- few values and small totals make each partial result short
pub all-short : (how : Agg) (k : Kind) (qs : List Partial) → list_all (is_partial how k) qs ≡ true → sum_by (counted how) qs < 10 ^ 64 → sum_by (total_size how) qs < 10 ^ 64 → AllShort qs
all-short how k [] c a b = tt
all-short how k (q ∷ qs) c a b =
    let x = and_parts (is_partial how k q) (list_all (is_partial how k) qs) c in
    let f = sum_by-cons (counted how) q qs in
    let g = sum_by-cons (total_size how) q qs in
    (short-is how k q x.0 (omega (arith, f, a)) (omega (arith, g, b)), all-short how k qs x.1 (omega (arith, f, a)) (omega (arith, g, b)))

-- the number of the newest pane

newest-fits : (m g d : ℕ) → 1 ≤ g → m * g < d + g → m ≤ d
newest-fits m g d l h = by (nat_le m d) refl
  where
    by : (b : Bool) → nat_le m d ≡ b → m ≤ d
    by true e = leb-true m d e
    by false e =
        let past = leb-false m d e in
        let far : d + 1 ≤ m = omega (arith, past) in
        let one = mul-le-mul_left g far in
        let two = mul-le-mul_left d l in
        absurd (omega (arith, one, two, h))

last-small : (a l : Option ℕ) → is_last a l ≡ true → time_or 0 l - time_or 0 a ≤ latest
last-small a None e = omega arith
last-small None (Some l) e = absurd (cc)
last-small (Some a) (Some l) e = let h = leb-true l latest (and_parts (nat_le a l) (nat_le l latest) e).1 in omega (arith, h)

-- what the test of panes says, part by part
pub record HasPanes (t : Times) (k : Kind) (w : WindowForm) (p : SavedPanes) : Type 0 where
  pub newest : p.last * w.pane < (time_or 0 t.last - time_or 0 t.start) + w.pane
  pub are : list_all (is_partial w.how k) p.partials ≡ true
  pub counts : sum_by (counted w.how) p.partials ≤ t.steps
  pub totals : sum_by (total_size w.how) p.partials ≤ t.steps * 2 ^ 64

pub has-panes : (t : Times) (k : Kind) (w : WindowForm) (p : SavedPanes) → are_panes t k w (Some p) ≡ true → HasPanes t k w p
has-panes t k w p e =
    let e5 = and_parts _ _ e in
    let e4 = and_parts _ _ e5.0 in
    let e3 = and_parts _ _ e4.0 in
    let e2 = and_parts _ _ e3.0 in
    let e1 = and_parts _ _ e2.0 in
    record {
      newest = ltb-true (p.last * w.pane) ((time_or 0 t.last - time_or 0 t.start) + w.pane) e1.1;
      are = e3.1;
      counts = leb-true (sum_by (counted w.how) p.partials) t.steps e4.1;
      totals = leb-true (sum_by (total_size w.how) p.partials) (t.steps * 2 ^ 64) e5.1;
    }

-- panes of a window in a line
module _ (t : Times) (k : Kind) (w : WindowForm) (order : is_last t.start t.last ≡ true) (few : t.steps ≤ most_steps) (length-of : 1 ≤ w.pane) where
  pub small-number : (p : SavedPanes) → HasPanes t k w p → p.last < 10 ^ 64
  small-number p h =
      let a = newest-fits p.last w.pane (time_or 0 t.last - time_or 0 t.start) length-of h.newest in
      let b = last-small t.start t.last order in
      omega (arith, a, b)

  all-are-short : (p : SavedPanes) → HasPanes t k w p → AllShort p.partials
  all-are-short p h =
      let a = h.counts in
      let b = h.totals in
      all-short w.how k p.partials h.are (omega (arith, a, few)) (omega (arith, b, few))

  pub panes-same : (p q : Option SavedPanes) → are_panes t k w p ≡ true → are_panes t k w q ≡ true → panes_text p ≡ panes_text q → p ≡ q
  panes-same None None a b e = refl
  panes-same None (Some q) a b e =
      let g : codes "-" ++ [] ≡ decimal q.last ++ partials_text q.partials = cc in
      let c = cut-same is_mild (codes "-") (decimal q.last) [] (partials_text q.partials) refl (decimal_mild q.last) tt (partials-stop q.partials) g in
      absurd (no-dash (pos q.last) (small-number q (has-panes t k w q b)) c.0)
  panes-same (Some p) None a b e =
      let g : codes "-" ++ [] ≡ decimal p.last ++ partials_text p.partials = cc in
      let c = cut-same is_mild (codes "-") (decimal p.last) [] (partials_text p.partials) refl (decimal_mild p.last) tt (partials-stop p.partials) g in
      absurd (no-dash (pos p.last) (small-number p (has-panes t k w p a)) c.0)
  panes-same (Some p) (Some q) a b e =
      let x = has-panes t k w p a in
      let y = has-panes t k w q b in
      let g : decimal p.last ++ partials_text p.partials ≡ decimal q.last ++ partials_text q.partials = cc in
      let c = cut-same is_mild (decimal p.last) (decimal q.last) (partials_text p.partials) (partials_text q.partials) (decimal_mild p.last) (decimal_mild q.last)
      (partials-stop p.partials) (partials-stop q.partials) g in
      let n = decimal-same p.last q.last (small-number p x) (small-number q y) c.0 in
      let m = partials-same w.how k p.partials q.partials (all-are-short p x) (all-are-short q y) x.are y.are c.1 in
      λ i. Some (record { last = n i; partials = m i })
