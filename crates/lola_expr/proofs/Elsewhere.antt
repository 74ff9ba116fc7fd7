-- The condition is false for each instance whose parameters are not those that its keys have.
use Rattle.std.proofs.Common.{◌≡◌, refl, ap, sym, ◌∙◌, subst, ℕ, zero, suc, ◌≤◌, ◌⊎◌, inl, inr, List, [], ◌∷◌, Option, Some, Bool, true, false, ◌&&◌, length, map, slice_get, take, arith, eq-eqb}
use Rattle.std.proofs.lemmas.Int.{ints}
use Rattle.std.proofs.lemmas.Option.{slice_get-map}
use Rattle.std.specs.Option.{option_map}
use Rattle.lola_value.specs.declared.value.Kind.{Kind}
use Rattle.lola_value.specs.declared.value.Params.{Params}
use Rattle.lola_value.specs.declared.value.Value.{Value}
use Rattle.lola_value.specs.declared.value.Value.TheVariants as value
use Rattle.lola_value.specs.Kinds.{all_same, are_of_kinds, is_of_kind, same_params, values_same}
use Rattle.lola_value.specs.Naming.{Naming, AreHeld, IsHeld, IsNaming, read, read_params, the_values}
use Rattle.lola_value.proofs.ParamsLemmas.{same_values}
use Rattle.lola_model.specs.Content.{Content}
use Rattle.lola_model.specs.Denotation.{den, truth}
use Rattle.lola_model.specs.declared.expr.Expr.{Expr}
use Rattle.lola_model.specs.declared.spec.Spec.{Spec}
use Rattle.lola_model.proofs.Lookups.{values_same-read}
use Rattle.lola_expr.specs.Keys.{AddsKeys, Binds, RulesOut}
use Rattle.lola_expr.proofs.OperandLemmas.{second}

-- values that are not the same, either way round

self : (v : Value) → values_same v v ≡ true
self (value.Bool true) = refl
self (value.Bool false) = refl
self (value.Int z) = grind (arith, ints)
self (value.Text id) = eq-eqb id.0 id.0 refl

other_back : (v w : Value) → values_same v w ≡ false → values_same w v ≡ false
other_back v w h = by (values_same w v) refl
  where
    by : (b : Bool) → values_same w v ≡ b → values_same w v ≡ false
    by true e =
        let same : w ≡ v = same_values w v e in
        let own : values_same v w ≡ true = subst (λ x. values_same v x ≡ true) (sym same) (self v) in
        absurd (cc)
    by false e = e

-- lists of one length that are not the same differ somewhere
record Differ (xs ys : List Value) : Type 0 where
  pub place : ℕ
  pub left : Value
  pub right : Value
  pub left_at : slice_get xs place ≡ Some left
  pub right_at : slice_get ys place ≡ Some right
  pub other : values_same left right ≡ false

one_later : (x y : Value) (xs ys : List Value) → Differ xs ys → Differ (x ∷ xs) (y ∷ ys)
one_later x y xs ys d = record { place = suc d.place; left = d.left; right = d.right; left_at = d.left_at; right_at = d.right_at; other = d.other }

after_same : (a b : Bool) → a ≡ true → (a && b) ≡ false → b ≡ false
after_same true b e h = h
after_same false b e h = absurd (cc)

-- the heads decide, or else the rest
differ_at : (x y : Value) (xs ys : List Value) (b : Bool) → values_same x y ≡ b → (all_same xs ys ≡ false → Differ xs ys) → (values_same x y && all_same xs ys) ≡ false → Differ (x ∷ xs) (y ∷ ys)
differ_at x y xs ys true e rest h = one_later x y xs ys (rest (after_same (values_same x y) (all_same xs ys) e h))
differ_at x y xs ys false e rest h = record { place = 0; left = x; right = y; left_at = refl; right_at = refl; other = e }

differ : (xs ys : List Value) → length xs ≡ length ys → all_same xs ys ≡ false → Differ xs ys
differ [] [] e h = absurd (cc)
differ [] (y ∷ ys) e h = absurd (omega (arith, e))
differ (x ∷ xs) [] e h = absurd (omega (arith, e))
differ (x ∷ xs) (y ∷ ys) e h = differ_at x y xs ys (values_same x y) refl (λ g. differ xs ys (omega (arith, e)) g) h

-- as many values as are counted
long_take : (n : ℕ) (xs : List Value) → n ≤ length xs → length (take n xs) ≡ n
long_take zero xs h = refl
long_take (suc n) [] h = absurd (omega (arith, h))
long_take (suc n) (x ∷ xs) h = ap suc (long_take n xs (omega (arith, h)))

pub long_values : (p : Params) → p.count ≤ 4 → length (the_values p) ≡ p.count
long_values p h = long_take p.count (p.at0 ∷ p.at1 ∷ p.at2 ∷ p.at3 ∷ []) h

long_map : (names : Naming) (vs : List Value) → length (map (read names) vs) ≡ length vs
long_map names [] = refl
long_map names (v ∷ vs) = ap suc (long_map names vs)

-- each of the values is held
held_at : (names : Naming) (vs : List Value) → AreHeld names vs → (i : ℕ) (v : Value) → slice_get vs i ≡ Some v → IsHeld names v
held_at names [] h i v e = absurd (cc)
held_at names (x ∷ vs) h zero v e = let q : x ≡ v = cc in subst (IsHeld names) q h.0
held_at names (x ∷ vs) h (suc i) v e = held_at names vs h.1 i v e

-- what stands among the first stands there
taken_at : {A : Type 0} (n : ℕ) (xs : List A) (i : ℕ) (x : A) → slice_get (take n xs) i ≡ Some x → slice_get xs i ≡ Some x
taken_at zero xs i x e = absurd (cc)
taken_at (suc n) [] i x e = absurd (cc)
taken_at (suc n) (y ∷ xs) zero x e = e
taken_at (suc n) (y ∷ xs) (suc i) x e = taken_at n xs i x e

-- nothing is bound at first
abbrev pub NoneBound : List (Option Value) → Type 0
NoneBound old = (i : ℕ) (v : Value) → slice_get old i ≡ Some (Some v) → ⊥

pub adds_of : (spec : Spec) (names : Naming) (c : Content) (count : ℕ) (e : Expr) (r : Bool) (old new : List (Option Value)) → Binds spec names c count r e old new → AddsKeys spec names c count e old new
adds_of spec names c count e true old new h = h.1
adds_of spec names c count e false old new h = h

-- as many values as kinds
pub as_many : (ks : List Kind) (vs : List Value) → are_of_kinds ks vs ≡ true → length vs ≡ length ks
as_many [] [] h = refl
as_many [] (v ∷ vs) h = absurd (cc)
as_many (k ∷ ks) [] h = absurd (cc)
as_many (k ∷ ks) (v ∷ vs) h = ap suc (as_many ks vs (second (is_of_kind k v) (are_of_kinds ks vs) h))

module _ (spec : Spec) (names : Naming) (c : Content) (count : ℕ) (e : Expr) (old new : List (Option Value)) (naming : IsNaming names) (none : NoneBound old) (adds : AddsKeys spec names c count e old new) where
  rules : (i : ℕ) (v : Value) → (slice_get old i ≡ Some (Some v)) ⊎ RulesOut spec names c count e i v → RulesOut spec names c count e i v
  rules i v (inl before) = absurd (none i v before)
  rules i v (inr r) = r

  pub false_elsewhere : (wanted : Params) → map Some (the_values wanted) ≡ take count new → wanted.count ≡ length (take count new) → count ≤ 4 → count ≤ length new
      → (x : Params) → length (the_values x) ≡ count → same_params wanted x ≡ false → AreHeld names (the_values x) → den spec c (read_params names x) e ≡ truth false
  false_elsewhere wanted bound counted few room x same other held =
      let long_new : length (take count new) ≡ count = long_of count new room in
      let long_wanted : length (the_values wanted) ≡ wanted.count = long_values wanted (omega (arith, counted, long_new, few)) in
      let d = differ (the_values wanted) (the_values x) (omega (arith, long_wanted, same, counted, long_new)) other in
      let bound_at : slice_get (take count new) d.place ≡ Some (Some d.left) =
      ap (λ ys. slice_get ys d.place) (sym bound) ∙ (slice_get-map Some (the_values wanted) d.place ∙ ap (option_map Some) d.left_at) in
      let there : slice_get new d.place ≡ Some (Some d.left) = taken_at count new d.place (Some d.left) bound_at in
      let r = rules d.place d.left (adds d.place d.left there) in
      let right_held = held_at names (the_values x) held d.place d.right d.right_at in
      r.others (read_params names x) (read names d.right) (long_map names (the_values x) ∙ same)
      (slice_get-map (read names) (the_values x) d.place ∙ ap (option_map (read names)) d.right_at)
      (sym (values_same-read names naming d.right d.left right_held r.held) ∙ other_back d.left d.right d.other)
      (sym (values_same-read names naming d.left d.right r.held right_held) ∙ d.other)
    where
      long_of : {A : Type 0} (n : ℕ) (ys : List A) → n ≤ length ys → length (take n ys) ≡ n
      long_of zero ys h = refl
      long_of (suc n) [] h = absurd (omega (arith, h))
      long_of (suc n) (y ∷ ys) h = ap suc (long_of n ys (omega (arith, h)))
