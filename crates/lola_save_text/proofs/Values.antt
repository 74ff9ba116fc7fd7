-- Values of a kind have different texts, and rows of them too.
use Rattle.std.proofs.Common.{◌≡◌, ◌∷◌, ℕ, ℤ, pos, negsuc, ◌^◌, ◌<◌, ◌≤ℤ◌, List, [], ◌++◌, Bool, true, false, refl, ap, arith, length}
use Rattle.std.specs.List.{list_all}
use Rattle.std.specs.Prelude.{unsigned_abs}
use Rattle.std.proofs.lemmas.Bool.{and_parts}
use Rattle.std.proofs.lemmas.Int.{ints}
use Rattle.std.specs.Str.{is_utf8}
use Rattle.lola_value.specs.declared.text.Field.{Field}
use Rattle.lola_value.specs.declared.text.Field.TheVariants as field
use Rattle.lola_value.specs.declared.value.Kind.{Kind}
use Rattle.lola_value.specs.declared.value.Kind.TheVariants as kind
use Rattle.lola_value.specs.Arithmetic.{is_within}
use Rattle.lola_value.specs.Kinds.{is_bool, is_integer, is_text}
use Rattle.lola_value.specs.Numbers.{integer_text}
use Rattle.lola_value.proofs.Ranges.{small}
use Rattle.lola_model.specs.Texts.{value_text}
use Rattle.lola_report.specs.Pieces.{bool_name}
use Rattle.lola_report.proofs.Mild.{is_mild, bool_mild, integer_mild}
use Rattle.lola_save_text.specs.Fitting.{are_values, is_value}
use Rattle.lola_save_text.specs.Lines.{values_text}
use Rattle.lola_save_text.proofs.SameCuts.{Stops, cut-same}
use Rattle.lola_save_text.proofs.Numbers.{integer-same}
use Rattle.lola_save_text.proofs.Quotes.{quoted-same}

-- numbers of a kind have few digits
pub within-small : (k : Kind) (z : ℤ) → is_within k z ≡ true → unsigned_abs z < 10 ^ 64
within-small k (pos n) w = let h : pos n ≤ℤ pos 18446744073709551615 = (small k (pos n) w).high in omega (arith, ints)
within-small k (negsuc n) w = let h : negsuc 9223372036854775807 ≤ℤ negsuc n = (small k (negsuc n) w).low in omega (arith, ints)

only-bool : (k : Kind) → is_bool k ≡ true → (is_integer k ≡ false) × (is_text k ≡ false)
only-bool kind.Bool e = (refl, refl)
only-bool _ e = absurd (cc)

only-text : (k : Kind) → is_text k ≡ true → is_integer k ≡ false
only-text kind.Text e = refl
only-text _ e = absurd (cc)

pub bool-same : (b c : Bool) → bool_name b ≡ bool_name c → b ≡ c
bool-same true true e = refl
bool-same false false e = refl
bool-same true false e = absurd (let h = ap length e in omega (arith, h))
bool-same false true e = absurd (let h = ap length e in omega (arith, h))

-- a truth value with what stands behind it
pub bool-cut : (b c : Bool) (u v : List ℕ) → Stops is_mild u → Stops is_mild v → bool_name b ++ u ≡ bool_name c ++ v → (b ≡ c) × (u ≡ v)
bool-cut b c u v s t e =
    let r = cut-same is_mild (bool_name b) (bool_name c) u v (bool_mild b) (bool_mild c) s t e in
    (bool-same b c r.0, r.1)

-- a number with what stands behind it
pub integer-cut : (y z : ℤ) (u v : List ℕ) → unsigned_abs y < 10 ^ 64 → unsigned_abs z < 10 ^ 64 → Stops is_mild u → Stops is_mild v
    → integer_text y ++ u ≡ integer_text z ++ v → (y ≡ z) × (u ≡ v)
integer-cut y z u v a b s t e =
    let r = cut-same is_mild (integer_text y) (integer_text z) u v (integer_mild y) (integer_mild z) s t e in
    (integer-same y z a b r.0, r.1)

-- a value with what stands behind it
module _ (k : Kind) (u v : List ℕ) (s : Stops is_mild u) (t : Stops is_mild v) where
  pub value-cut : (x y : Field) → is_value k x ≡ true → is_value k y ≡ true → value_text x ++ u ≡ value_text y ++ v → (x ≡ y) × (u ≡ v)
  value-cut field.Absent y a b e = absurd (cc)
  value-cut x field.Absent a b e = absurd (cc)
  value-cut (field.Bool x) (field.Bool y) a b e = let r = bool-cut x y u v s t e in (ap (λ w. field.Bool w) r.0, r.1)
  value-cut (field.Int x) (field.Int y) a b e =
      let r = integer-cut x y u v (within-small k x (and_parts (is_integer k) (is_within k x) a).1) (within-small k y (and_parts (is_integer k) (is_within k y) b).1) s t e in
      (ap (λ w. field.Int w) r.0, r.1)
  value-cut (field.Text x) (field.Text y) a b e = let r = quoted-same x y u v e in (ap (λ w. field.Text w) r.0, r.1)
  value-cut (field.Bool x) (field.Int y) a b e = let h = (and_parts (is_integer k) (is_within k y) b).0 in let n = (only-bool k a).0 in absurd (cc)
  value-cut (field.Int x) (field.Bool y) a b e = let h = (and_parts (is_integer k) (is_within k x) a).0 in let n = (only-bool k b).0 in absurd (cc)
  value-cut (field.Bool x) (field.Text y) a b e = let h = (and_parts (is_text k) (is_utf8 y) b).0 in let n = (only-bool k a).1 in absurd (cc)
  value-cut (field.Text x) (field.Bool y) a b e = let h = (and_parts (is_text k) (is_utf8 x) a).0 in let n = (only-bool k b).1 in absurd (cc)
  value-cut (field.Int x) (field.Text y) a b e =
      let h = (and_parts (is_integer k) (is_within k x) a).0 in let n = only-text k (and_parts (is_text k) (is_utf8 y) b).0 in absurd (cc)
  value-cut (field.Text x) (field.Int y) a b e =
      let h = (and_parts (is_integer k) (is_within k y) b).0 in let n = only-text k (and_parts (is_text k) (is_utf8 x) a).0 in absurd (cc)

-- behind a word another word begins, or the line ends
pub values-stop : (vs : List Field) → Stops is_mild (values_text vs)
values-stop [] = tt
values-stop (v ∷ vs) = refl

-- values of these kinds
pub params-same : (ks : List Kind) (vs ws : List Field) → are_values ks vs ≡ true → are_values ks ws ≡ true → values_text vs ≡ values_text ws → vs ≡ ws
params-same [] [] [] a b e = refl
params-same [] (v ∷ vs) ws a b e = absurd (cc)
params-same [] [] (w ∷ ws) a b e = absurd (cc)
params-same (k ∷ ks) [] ws a b e = absurd (cc)
params-same (k ∷ ks) (v ∷ vs) [] a b e = absurd (cc)
params-same (k ∷ ks) (v ∷ vs) (w ∷ ws) a b e =
    let g : value_text v ++ values_text vs ≡ value_text w ++ values_text ws = cc in
    let p = and_parts (is_value k v) (are_values ks vs) a in
    let q = and_parts (is_value k w) (are_values ks ws) b in
    let r = value-cut k (values_text vs) (values_text ws) (values-stop vs) (values-stop ws) v w p.0 q.0 g in
    let h = r.0 in
    let m = params-same ks vs ws p.1 q.1 r.1 in
    λ i. h i ∷ m i

-- values of one kind
pub ring-same : (k : Kind) (vs ws : List Field) → list_all (is_value k) vs ≡ true → list_all (is_value k) ws ≡ true → values_text vs ≡ values_text ws → vs ≡ ws
ring-same k [] [] a b e = refl
ring-same k (v ∷ vs) [] a b e = absurd (cc)
ring-same k [] (w ∷ ws) a b e = absurd (cc)
ring-same k (v ∷ vs) (w ∷ ws) a b e =
    let g : value_text v ++ values_text vs ≡ value_text w ++ values_text ws = cc in
    let p = and_parts (is_value k v) (list_all (is_value k) vs) a in
    let q = and_parts (is_value k w) (list_all (is_value k) ws) b in
    let r = value-cut k (values_text vs) (values_text ws) (values-stop vs) (values-stop ws) v w p.0 q.0 g in
    let h = r.0 in
    let m = ring-same k vs ws p.1 q.1 r.1 in
    λ i. h i ∷ m i
