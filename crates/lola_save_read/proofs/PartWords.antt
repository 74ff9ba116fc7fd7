-- A partial result is read back from how it is spelled.
use Rattle.std.proofs.Common.{◌≡◌, ◌≢◌, ◌∷◌, ℕ, ℤ, ◌^◌, ◌<◌, ◌≤◌, ◌++◌, List, [], Bool, true, false, not, ◌&&◌, Option, Some, None, codes, decimal, refl, sym, ap, ◌∙◌, arith, nat_le, nat_eq}
use Rattle.std.specs.Prelude.{unsigned_abs, ◌||◌}
use Rattle.std.specs.List.{list_all}
use Rattle.std.proofs.lemmas.Bool.{and_from, and_parts, ne_eqb, eqb-true, leb-true}
use Rattle.lola_value.specs.declared.value.Kind.{Kind}
use Rattle.lola_value.specs.Numbers.{integer_text}
use Rattle.lola_value.specs.Times.{is_digit}
use Rattle.lola_model.specs.declared.spec.Agg.{Agg}
use Rattle.lola_model.specs.declared.spec.Agg.TheVariants as agg
use Rattle.lola_report.specs.Pieces.{bool_name}
use Rattle.lola_report.proofs.Mild.{bool_mild, integer_mild}
use Rattle.lola_panes.specs.declared.partial.Partial.{Partial}
use Rattle.lola_panes.specs.declared.partial.Partial.TheVariants.{Number, Extreme, Mean, Truth}
use Rattle.lola_save_text.specs.Fitting.{counted, is_partial, total_size}
use Rattle.lola_save_text.specs.Lines.{partial_text}
use Rattle.lola_save_text.proofs.Partials.{IsShort, integer-signed, is_signed, mean-mild, same-cut, variant, variant_of}
use Rattle.lola_save_text.proofs.SameCuts.{cut-same}
use Rattle.lola_save_read.specs.Parts.{IsNarrow, IsNextPartial, ReadsPartial, fits, has_form}
use Rattle.lola_save_read.specs.Words.{IsCutAtSlash, IsNextWord, is_no_slash, is_no_space}
use Rattle.lola_save_read.proofs.ValueWords.{narrow}
use Rattle.lola_save_read.proofs.WordCuts.{next-same, no-space}

-- numbers

pub no-number : (word : List ℕ) → ((z : ℤ) → unsigned_abs z < 2 ^ 127 → word ≢ integer_text z) → (q : Partial) → has_form agg.Count q ≡ true → IsNarrow q → word ≢ partial_text q
no-number word never (Number z) f n e = never z n e
no-number word never (Extreme o) f n e = absurd (cc)
no-number word never (Mean t c) f n e = absurd (cc)
no-number word never (Truth b) f n e = absurd (cc)

-- extremes

pub no-extreme : (word : List ℕ) → (word ≡ codes "-" → ⊥) → ((z : ℤ) → unsigned_abs z < 2 ^ 127 → word ≢ integer_text z) → (q : Partial) → has_form agg.Min q ≡ true → IsNarrow q → word ≢ partial_text q
no-extreme word dash never (Number z) f n e = absurd (cc)
no-extreme word dash never (Extreme None) f n e = dash e
no-extreme word dash never (Extreme (Some z)) f n e = never z n e
no-extreme word dash never (Mean t c) f n e = absurd (cc)
no-extreme word dash never (Truth b) f n e = absurd (cc)

-- means

digit-no-slash : (b : ℕ) → is_digit b ≡ true → is_no_slash b ≡ true
digit-no-slash b e = let low : 48 ≤ b = leb-true 48 b (and_parts (nat_le 48 b) (nat_le b 57) e).0 in ap not (ne_eqb b 47 (λ f. absurd (omega (arith, low, f))))

signed-no-slash : (b : ℕ) → is_signed b ≡ true → is_no_slash b ≡ true
signed-no-slash b e = by (is_digit b) refl
  where
    by : (t : Bool) → is_digit b ≡ t → is_no_slash b ≡ true
    by true f = digit-no-slash b f
    by false f =
        let g : nat_eq b 45 ≡ true = sym (ap (λ t. t || nat_eq b 45) f) ∙ e in
        let h = eqb-true b 45 g in
        ap not (ne_eqb b 47 (λ x. absurd (omega (arith, h, x))))

all-no-slash : (t : List ℕ) → list_all is_signed t ≡ true → list_all is_no_slash t ≡ true
all-no-slash [] e = refl
all-no-slash (b ∷ t) e = let p = and_parts (is_signed b) (list_all is_signed t) e in and_from (is_no_slash b) (list_all is_no_slash t) (signed-no-slash b p.0) (all-no-slash t p.1)

total-plain : (z : ℤ) → unsigned_abs z < 2 ^ 127 → list_all is_no_slash (integer_text z) ≡ true
total-plain z n = all-no-slash (integer_text z) (integer-signed z (omega (arith, n)))

-- where a slash stands
mean-cut : (word front back : List ℕ) (z : ℤ) (c : ℕ) → IsCutAtSlash word front back → unsigned_abs z < 2 ^ 127 → word ≡ integer_text z ++ (47 ∷ decimal c) → (front ≡ integer_text z) × (back ≡ decimal c)
mean-cut word front back z c cut n e =
    let r = cut-same is_no_slash front (integer_text z) (47 ∷ back) (47 ∷ decimal c) cut.plain (total-plain z n) refl refl (sym cut.whole ∙ e) in
    let g = r.1 in
    let h : back ≡ decimal c = cc g in
    (r.0, h)

slash-in : (t u : List ℕ) → list_all is_no_slash (t ++ (47 ∷ u)) ≡ true → ⊥
slash-in [] u e = absurd (cc)
slash-in (b ∷ t) u e = slash-in t u (and_parts (is_no_slash b) (list_all is_no_slash (t ++ (47 ∷ u))) e).1

-- from what is said of means to what is said of partial results
only-mean : (word : List ℕ) → ((z : ℤ) (c : ℕ) → unsigned_abs z < 2 ^ 127 → c < 2 ^ 64 → word ≢ integer_text z ++ (47 ∷ decimal c)) → (q : Partial) → has_form agg.Avg q ≡ true → IsNarrow q → word ≢ partial_text q
only-mean word never (Number z) f n e = absurd (cc)
only-mean word never (Extreme o) f n e = absurd (cc)
only-mean word never (Mean t c) f n e = never t c n.0 n.1 e
only-mean word never (Truth b) f n e = absurd (cc)

pub no-slash : (word : List ℕ) → list_all is_no_slash word ≡ true → (q : Partial) → has_form agg.Avg q ≡ true → IsNarrow q → word ≢ partial_text q
no-slash word plain = only-mean word (λ z c n m e. slash-in (integer_text z) (decimal c) (sym (ap (list_all is_no_slash) e) ∙ plain))

pub no-total : (word front back : List ℕ) → IsCutAtSlash word front back → ((z : ℤ) → unsigned_abs z < 2 ^ 127 → front ≢ integer_text z) → (q : Partial) → has_form agg.Avg q ≡ true → IsNarrow q → word ≢ partial_text q
no-total word front back cut never = only-mean word (λ z c n m e. never z n (mean-cut word front back z c cut n e).0)

pub no-count : (word front back : List ℕ) → IsCutAtSlash word front back → ((c : ℕ) → c < 2 ^ 64 → back ≢ decimal c) → (q : Partial) → has_form agg.Avg q ≡ true → IsNarrow q → word ≢ partial_text q
no-count word front back cut never = only-mean word (λ z c n m e. never c m (mean-cut word front back z c cut n e).1)

pub mean-there : (word front back : List ℕ) (z : ℤ) (c : ℕ) → IsCutAtSlash word front back → front ≡ integer_text z → back ≡ decimal c → word ≡ partial_text (Mean z c)
mean-there word front back z c cut e f = cut.whole ∙ (λ i. e i ++ (47 ∷ f i))

-- truth values

pub no-truth : (word : List ℕ) → ((b : Bool) → word ≢ bool_name b) → (q : Partial) → has_form agg.Forall q ≡ true → IsNarrow q → word ≢ partial_text q
no-truth word never (Number z) f n e = absurd (cc)
no-truth word never (Extreme o) f n e = absurd (cc)
no-truth word never (Mean t c) f n e = absurd (cc)
no-truth word never (Truth b) f n e = never b e

-- aggregations with the same form

reads-as : (how by : Agg) (word : List ℕ) (r : Option Partial) → ((q : Partial) → has_form how q ≡ has_form by q) → ReadsPartial how word r → ReadsPartial by word r
reads-as how by word None same m = λ q f n. m q (same q ∙ f) n
reads-as how by word (Some q) same m = (sym (same q) ∙ m.0, m.1, m.2)

pub sum-as : (word : List ℕ) (r : Option Partial) → ReadsPartial agg.Count word r → ReadsPartial agg.Sum word r
sum-as word r = reads-as agg.Count agg.Sum word r same
  where
    same : (q : Partial) → has_form agg.Count q ≡ has_form agg.Sum q
    same (Number z) = refl
    same (Extreme o) = refl
    same (Mean t c) = refl
    same (Truth b) = refl

pub max-as : (word : List ℕ) (r : Option Partial) → ReadsPartial agg.Min word r → ReadsPartial agg.Max word r
max-as word r = reads-as agg.Min agg.Max word r same
  where
    same : (q : Partial) → has_form agg.Min q ≡ has_form agg.Max q
    same (Number z) = refl
    same (Extreme o) = refl
    same (Mean t c) = refl
    same (Truth b) = refl

pub exists-as : (word : List ℕ) (r : Option Partial) → ReadsPartial agg.Forall word r → ReadsPartial agg.Exists word r
exists-as word r = reads-as agg.Forall agg.Exists word r same
  where
    same : (q : Partial) → has_form agg.Forall q ≡ has_form agg.Exists q
    same (Number z) = refl
    same (Extreme o) = refl
    same (Mean t c) = refl
    same (Truth b) = refl

-- a partial result that fits has the form, and is narrow

form-of : (how : Agg) (k : Kind) (q : Partial) → is_partial how k q ≡ true → has_form how q ≡ true
form-of agg.Count k (Number z) e = refl
form-of agg.Count k (Extreme o) e = absurd (cc)
form-of agg.Count k (Mean t c) e = absurd (cc)
form-of agg.Count k (Truth b) e = absurd (cc)
form-of agg.Sum k (Number z) e = refl
form-of agg.Sum k (Extreme o) e = absurd (cc)
form-of agg.Sum k (Mean t c) e = absurd (cc)
form-of agg.Sum k (Truth b) e = absurd (cc)
form-of agg.Min k (Number z) e = absurd (cc)
form-of agg.Min k (Extreme o) e = refl
form-of agg.Min k (Mean t c) e = absurd (cc)
form-of agg.Min k (Truth b) e = absurd (cc)
form-of agg.Max k (Number z) e = absurd (cc)
form-of agg.Max k (Extreme o) e = refl
form-of agg.Max k (Mean t c) e = absurd (cc)
form-of agg.Max k (Truth b) e = absurd (cc)
form-of agg.Avg k (Number z) e = absurd (cc)
form-of agg.Avg k (Extreme o) e = absurd (cc)
form-of agg.Avg k (Mean t c) e = refl
form-of agg.Avg k (Truth b) e = absurd (cc)
form-of agg.Forall k (Number z) e = absurd (cc)
form-of agg.Forall k (Extreme o) e = absurd (cc)
form-of agg.Forall k (Mean t c) e = absurd (cc)
form-of agg.Forall k (Truth b) e = refl
form-of agg.Exists k (Number z) e = absurd (cc)
form-of agg.Exists k (Extreme o) e = absurd (cc)
form-of agg.Exists k (Mean t c) e = absurd (cc)
form-of agg.Exists k (Truth b) e = refl

narrow-is : (how : Agg) (k : Kind) (q : Partial) → is_partial how k q ≡ true → counted how q ≤ 2 ^ 62 → total_size how q ≤ 2 ^ 126 → IsNarrow q
narrow-is agg.Count k (Number z) e a b = omega (arith, a)
narrow-is agg.Sum k (Number z) e a b = omega (arith, b)
narrow-is agg.Min k (Number z) e a b = absurd (cc)
narrow-is agg.Max k (Number z) e a b = absurd (cc)
narrow-is agg.Avg k (Number z) e a b = absurd (cc)
narrow-is agg.Forall k (Number z) e a b = absurd (cc)
narrow-is agg.Exists k (Number z) e a b = absurd (cc)
narrow-is how k (Extreme None) e a b = tt
narrow-is agg.Count k (Extreme (Some z)) e a b = absurd (cc)
narrow-is agg.Sum k (Extreme (Some z)) e a b = absurd (cc)
narrow-is agg.Min k (Extreme (Some z)) e a b = narrow k z e
narrow-is agg.Max k (Extreme (Some z)) e a b = narrow k z e
narrow-is agg.Avg k (Extreme (Some z)) e a b = absurd (cc)
narrow-is agg.Forall k (Extreme (Some z)) e a b = absurd (cc)
narrow-is agg.Exists k (Extreme (Some z)) e a b = absurd (cc)
narrow-is agg.Count k (Mean t c) e a b = absurd (cc)
narrow-is agg.Sum k (Mean t c) e a b = absurd (cc)
narrow-is agg.Min k (Mean t c) e a b = absurd (cc)
narrow-is agg.Max k (Mean t c) e a b = absurd (cc)
narrow-is agg.Avg k (Mean t c) e a b = (omega (arith, b), omega (arith, a))
narrow-is agg.Forall k (Mean t c) e a b = absurd (cc)
narrow-is agg.Exists k (Mean t c) e a b = absurd (cc)
narrow-is how k (Truth b) e a c = tt

-- how it is spelled tells it

form-variant : (how : Agg) (q : Partial) → has_form how q ≡ true → variant q ≡ variant_of how
form-variant agg.Count (Number z) e = refl
form-variant agg.Count (Extreme o) e = absurd (cc)
form-variant agg.Count (Mean t c) e = absurd (cc)
form-variant agg.Count (Truth b) e = absurd (cc)
form-variant agg.Sum (Number z) e = refl
form-variant agg.Sum (Extreme o) e = absurd (cc)
form-variant agg.Sum (Mean t c) e = absurd (cc)
form-variant agg.Sum (Truth b) e = absurd (cc)
form-variant agg.Min (Number z) e = absurd (cc)
form-variant agg.Min (Extreme o) e = refl
form-variant agg.Min (Mean t c) e = absurd (cc)
form-variant agg.Min (Truth b) e = absurd (cc)
form-variant agg.Max (Number z) e = absurd (cc)
form-variant agg.Max (Extreme o) e = refl
form-variant agg.Max (Mean t c) e = absurd (cc)
form-variant agg.Max (Truth b) e = absurd (cc)
form-variant agg.Avg (Number z) e = absurd (cc)
form-variant agg.Avg (Extreme o) e = absurd (cc)
form-variant agg.Avg (Mean t c) e = refl
form-variant agg.Avg (Truth b) e = absurd (cc)
form-variant agg.Forall (Number z) e = absurd (cc)
form-variant agg.Forall (Extreme o) e = absurd (cc)
form-variant agg.Forall (Mean t c) e = absurd (cc)
form-variant agg.Forall (Truth b) e = refl
form-variant agg.Exists (Number z) e = absurd (cc)
form-variant agg.Exists (Extreme o) e = absurd (cc)
form-variant agg.Exists (Mean t c) e = absurd (cc)
form-variant agg.Exists (Truth b) e = refl

short-of : (q : Partial) → IsNarrow q → IsShort q
short-of (Number z) n = omega (arith, n)
short-of (Extreme None) n = tt
short-of (Extreme (Some z)) n = omega (arith, n)
short-of (Mean t c) n = let x = n.0 in let y = n.1 in (omega (arith, x), omega (arith, y))
short-of (Truth b) n = tt

part-same : (how : Agg) (q r : Partial) → has_form how q ≡ true → has_form how r ≡ true → IsNarrow q → IsNarrow r → partial_text q ≡ partial_text r → q ≡ r
part-same how q r a b x y e = (same-cut [] [] tt tt q r (short-of q x) (short-of r y) (form-variant how q a ∙ sym (form-variant how r b)) (ap (λ (t : List ℕ). t ++ []) e)).0

-- what the test of a partial result says, part by part
pub record HasFit (how : Agg) (k : Kind) (counts totals : ℕ) (q : Partial) : Type 0 where
  pub few : counted how q ≤ counts
  pub small : total_size how q ≤ totals
  pub is : is_partial how k q ≡ true

pub has-fit : (how : Agg) (k : Kind) (counts totals : ℕ) (q : Partial) → fits how k counts totals q ≡ true → HasFit how k counts totals q
has-fit how k counts totals q e =
    let a = and_parts (nat_le (counted how q) counts) (nat_le (total_size how q) totals && is_partial how k q) e in
    let b = and_parts (nat_le (total_size how q) totals) (is_partial how k q) a.1 in
    record { few = leb-true (counted how q) counts a.0; small = leb-true (total_size how q) totals b.0; is = b.1 }

-- a partial result behind a space

-- partial results have no space
part-plain : (q : Partial) → list_all is_no_space (partial_text q) ≡ true
part-plain (Number z) = no-space (integer_text z) (integer_mild z)
part-plain (Extreme None) = refl
part-plain (Extreme (Some z)) = no-space (integer_text z) (integer_mild z)
part-plain (Mean t c) = no-space (partial_text (Mean t c)) (mean-mild t c)
part-plain (Truth b) = no-space (bool_name b) (bool_mild b)

module _ (how : Agg) (k : Kind) (counts totals : ℕ) (bytes : List ℕ) where
  as-next : (q : Partial) (rest : List ℕ) → IsNextPartial how k counts totals bytes q rest → IsNextWord bytes (partial_text q) rest
  as-next q rest n = record { whole = n.whole; plain = part-plain q; ends = n.ends }

  pub no-word : ((front rest : List ℕ) → IsNextWord bytes front rest → ⊥) → (q : Partial) (rest : List ℕ) → IsNextPartial how k counts totals bytes q rest → ⊥
  no-word never q rest n = never (partial_text q) rest (as-next q rest n)

  pub no-part : (word left : List ℕ) → counts ≤ 2 ^ 62 → totals ≤ 2 ^ 126 → IsNextWord bytes word left → ((q : Partial) → has_form how q ≡ true → IsNarrow q → word ≢ partial_text q)
      → (q : Partial) (rest : List ℕ) → IsNextPartial how k counts totals bytes q rest → ⊥
  no-part word left a b w never q rest n =
      let h = has-fit how k counts totals q n.fit in
      let x = h.few in
      let y = h.small in
      never q (form-of how k q h.is) (narrow-is how k q h.is (omega (arith, a, x)) (omega (arith, b, y))) (next-same bytes word left (partial_text q) rest w (as-next q rest n)).0

  pub other-part : (word left : List ℕ) (r : Partial) → counts ≤ 2 ^ 62 → totals ≤ 2 ^ 126 → IsNextWord bytes word left → has_form how r ≡ true → IsNarrow r → word ≡ partial_text r → fits how k counts totals r ≡ false
      → (q : Partial) (rest : List ℕ) → IsNextPartial how k counts totals bytes q rest → ⊥
  other-part word left r a b w form few e out q rest n =
      let h = has-fit how k counts totals q n.fit in
      let x = h.few in
      let y = h.small in
      let s = part-same how r q form (form-of how k q h.is) few (narrow-is how k q h.is (omega (arith, a, x)) (omega (arith, b, y)))
      (sym e ∙ (next-same bytes word left (partial_text q) rest w (as-next q rest n)).0) in
      let g : false ≡ true = sym out ∙ ap (fits how k counts totals) s ∙ n.fit in
      cc g

  pub part-there : (word rest : List ℕ) (q : Partial) → IsNextWord bytes word rest → word ≡ partial_text q → fits how k counts totals q ≡ true → IsNextPartial how k counts totals bytes q rest
  part-there word rest q w e f = record { fit = f; ends = w.ends; whole = w.whole ∙ ap (λ (t : List ℕ). 32 ∷ (t ++ rest)) e }
