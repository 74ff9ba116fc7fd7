-- The keys that a condition begins with are found.
use Rattle.std.proofs.Common.{◌≡◌, refl, ap, sym, ◌∙◌, subst, ℕ, zero, suc, ◌<◌, ◌≤◌, List, [], ◌∷◌, ◌++◌, Option, Some, None, Bool, true, false, ◌&&◌, ◌||◌, nat_eq, nat_lt, if◌then◌else◌, length, slice_get, slice_set, take, arith, Box, Global}
use Rattle.std.proofs.lemmas.Bool.{eqb-true, le-ltb, lt-ltb}
use Rattle.lola_value.specs.declared.text.Field.{Field}
use Rattle.lola_value.specs.declared.value.Outcome.{Outcome}
use Rattle.lola_value.specs.declared.value.Outcome.TheVariants as outcome
use Rattle.lola_value.specs.declared.value.Value.{Value}
use Rattle.lola_value.specs.Answer.{Given}
use Rattle.lola_value.specs.Naming.{Naming, read_outcome}
use Rattle.lola_model.specs.Content.{Content}
use Rattle.lola_model.specs.Denotation.{den}
use Rattle.lola_model.specs.declared.expr.Binary.{Binary}
use Rattle.lola_model.specs.declared.expr.Binary.TheVariants as binary
use Rattle.lola_model.specs.declared.expr.Expr.{Expr}
use Rattle.lola_model.specs.declared.expr.Expr.TheVariants.{Literal, Parameter, Read, Window, Defaults', Unary', Both', Choice'}
use Rattle.lola_model.specs.declared.expr.Place.{Place}
use Rattle.lola_model.specs.declared.spec.Spec.{Spec}
use Rattle.lola_expr.specs.Keys.{AllBound, AllGiven, Finds, Stay, all_noted, has_key, is_and, is_equal, is_fixed, is_keys, is_no_parameter, is_some_key, key_between, key_if, keys_of, own_key, right_key}

abbrev Around : Type 0
Around = Box (Unit {0}) Global

pub and_is : (s : Binary) → is_and s ≡ true → s ≡ binary.And
and_is binary.And h = refl
and_is binary.Add h = absurd (cc)
and_is binary.Sub h = absurd (cc)
and_is binary.Mul h = absurd (cc)
and_is binary.Div h = absurd (cc)
and_is binary.Rem h = absurd (cc)
and_is binary.Less h = absurd (cc)
and_is binary.LessEqual h = absurd (cc)
and_is binary.Greater h = absurd (cc)
and_is binary.GreaterEqual h = absurd (cc)
and_is binary.Equal h = absurd (cc)
and_is binary.Different h = absurd (cc)
and_is binary.Or h = absurd (cc)

pub equal_is : (s : Binary) → is_equal s ≡ true → s ≡ binary.Equal
equal_is binary.Equal h = refl
equal_is binary.Add h = absurd (cc)
equal_is binary.Sub h = absurd (cc)
equal_is binary.Mul h = absurd (cc)
equal_is binary.Div h = absurd (cc)
equal_is binary.Rem h = absurd (cc)
equal_is binary.Less h = absurd (cc)
equal_is binary.LessEqual h = absurd (cc)
equal_is binary.Greater h = absurd (cc)
equal_is binary.GreaterEqual h = absurd (cc)
equal_is binary.And h = absurd (cc)
equal_is binary.Different h = absurd (cc)
equal_is binary.Or h = absurd (cc)

-- what is noted

pub set_there : {A : Type 0} (xs : List A) (i : ℕ) (x : A) → i < length xs → slice_get (slice_set xs i x) i ≡ Some x
set_there [] i x h = absurd (omega (arith, h))
set_there (y ∷ xs) zero x h = refl
set_there (y ∷ xs) (suc i) x h = set_there xs i x (omega (arith, h))

pub stay_on : (old mid new : List (Option Value)) → Stay old mid → Stay mid new → Stay old new
stay_on old mid new h g = λ i v e. g i v (h i v e)

bound_later : (ks : List (ℕ × Expr)) (mid new : List (Option Value)) → Stay mid new → AllBound ks mid → AllBound ks new
bound_later [] mid new s h = tt
bound_later (k ∷ ks) mid new s h = ((h.0.0, s k.0 h.0.0 h.0.1), bound_later ks mid new s h.1)

bound_both : (xs ys : List (ℕ × Expr)) (new : List (Option Value)) → AllBound xs new → AllBound ys new → AllBound (xs ++ ys) new
bound_both [] ys new h g = g
bound_both (x ∷ xs) ys new h g = (h.0, bound_both xs ys new h.1 g)

one_key : (count number : ℕ) (e : Expr) → number < count → is_fixed e ≡ true → own_key count number e ≡ (number, e) ∷ []
one_key count number e few fixed = by (nat_lt number count) (is_fixed e) (lt-ltb number count few) fixed
  where
    by : (a b : Bool) → a ≡ true → b ≡ true → key_if (a && b) number e ≡ (number, e) ∷ []
    by true true h g = refl
    by true false h g = absurd (cc)
    by false b h g = absurd (cc)

module _ (spec : Spec) (c : Content) (q : List Field) where
  given_parts : (xs ys : List (ℕ × Expr)) → AllGiven spec c q (xs ++ ys) → AllGiven spec c q xs × AllGiven spec c q ys
  given_parts [] ys h = (tt, h)
  given_parts (x ∷ xs) ys h = let k = given_parts xs ys h.1 in ((h.0, k.0), k.1)

  -- where the left side is keys alone, the right side is looked at too
  pub finds_both : (ka kb : List (ℕ × Expr)) (aa ab r : Bool) (mid new : List (Option Value)) → Stay mid new → Finds spec c q ka aa true mid → Finds spec c q kb ab r new
      → Finds spec c q (ka ++ (if aa then kb else [])) (aa && ab) r new
  finds_both ka kb true ab r mid new s h g given =
      let parts = given_parts ka kb given in
      let left = h parts.0 in
      let right = g parts.1 in
      (right.0, bound_both ka kb new (bound_later ka mid new s left.1) right.1)
  finds_both ka kb false ab r mid new s h g given =
      let left = h (given_parts ka [] given).0 in
      absurd (let e = left.0 in cc)

  -- and else it is not
  pub finds_left : (ka kb : List (ℕ × Expr)) (aa ab : Bool) (new : List (Option Value)) → Finds spec c q ka aa false new → Finds spec c q (ka ++ (if aa then kb else [])) (aa && ab) false new
  finds_left ka kb true ab new h given = let left = h (given_parts ka kb given).0 in absurd (let e = left.0 in cc)
  finds_left ka kb false ab new h given = let left = h (given_parts ka [] given).0 in (refl, bound_both ka [] new left.1 tt)

  -- of the same keys
  pub finds_as : (ks ls : List (ℕ × Expr)) (all every r : Bool) (new : List (Option Value)) → ks ≡ ls → all ≡ every → Finds spec c q ls every r new → Finds spec c q ks all r new
  finds_as ks ls all every r new e f h =
      subst (λ ys. Finds spec c q ys all r new) (sym e) (subst (λ b. Finds spec c q ls b r new) (sym f) h)

  -- no key
  pub finds_none : (ks : List (ℕ × Expr)) (all : Bool) (new : List (Option Value)) → ks ≡ [] → all ≡ false → Finds spec c q ks all false new
  finds_none ks all new e f given = (sym f, subst (λ ys. AllBound ys new) (sym e) tt)

  -- a key whose value is noted
  pub finds_one : (count number : ℕ) (e : Expr) (v : Value) (new : List (Option Value)) → number < count → is_fixed e ≡ true → slice_get new number ≡ Some (Some v)
      → Finds spec c q (own_key count number e) (is_some_key (own_key count number e)) true new
  finds_one count number e v new few fixed at given =
      let one : own_key count number e ≡ (number, e) ∷ [] = one_key count number e few fixed in
      (sym (ap is_some_key one), subst (λ ys. AllBound ys new) (sym one) ((v, at), tt))

  -- one without a value
  pub finds_no_value : (names : Naming) (count number : ℕ) (e : Expr) (r : Outcome) (new : List (Option Value)) → number < count → is_fixed e ≡ true
      → ((v : Value) → r ≡ outcome.Value v → ⊥) → read_outcome names r ≡ den spec c q e
      → Finds spec c q (own_key count number e) (is_some_key (own_key count number e)) false new
  finds_no_value names count number e r new few fixed never is given =
      let one : own_key count number e ≡ (number, e) ∷ [] = one_key count number e few fixed in
      let has = (subst (λ ys. AllGiven spec c q ys) one given).0 in
      absurd (by r never (is ∙ has.1))
    where
      by : (o : Outcome) → ((v : Value) → o ≡ outcome.Value v → ⊥) → {f : Field} → read_outcome names o ≡ Given f → ⊥
      by (outcome.Value v) ne e = ne v refl
      by outcome.Missing ne e = cc
      by (outcome.Fault k) ne e = cc
      by outcome.Poison ne e = cc

-- past all parameters, or of an expression with a parameter, there is no key
pub none_own : (count number : ℕ) (e : Expr) → count ≤ number → own_key count number e ≡ []
none_own count number e h = ap (λ b. key_if (b && is_fixed e) number e) (le-ltb number count h)

pub none_unfixed : (count number : ℕ) (e : Expr) → is_fixed e ≡ false → own_key count number e ≡ []
none_unfixed count number e h = by (nat_lt number count) (is_fixed e) h
  where
    by : (a b : Bool) → b ≡ false → key_if (a && b) number e ≡ []
    by true true g = absurd (cc)
    by true false g = refl
    by false b g = refl

-- the keys of a comparison, by which side is a parameter

pub key_left : (count number : ℕ) (place : Place) (a b : Expr) → a ≡ Parameter place number → key_between count a b ≡ own_key count number b
key_left count number place a b e = ap (λ x. key_between count x b) e

key_other : (count : ℕ) (a b : Expr) → is_no_parameter a ≡ true → key_between count a b ≡ right_key count b a
key_other count (Literal place v) b h = refl
key_other count (Parameter place i) b h = absurd (cc)
key_other count (Read place n how args) b h = refl
key_other count (Window place w args) b h = refl
key_other count (Defaults' place u x v y) b h = refl
key_other count (Unary' place operator u x) b h = refl
key_other count (Both' place operator u x v y) b h = refl
key_other count (Choice' place u x v y w z) b h = refl

right_none : (count : ℕ) (b a : Expr) → is_no_parameter b ≡ true → right_key count b a ≡ []
right_none count (Literal place v) a h = refl
right_none count (Parameter place i) a h = absurd (cc)
right_none count (Read place n how args) a h = refl
right_none count (Window place w args) a h = refl
right_none count (Defaults' place u x v y) a h = refl
right_none count (Unary' place operator u x) a h = refl
right_none count (Both' place operator u x v y) a h = refl
right_none count (Choice' place u x v y w z) a h = refl

pub key_right : (count number : ℕ) (place : Place) (a b : Expr) → is_no_parameter a ≡ true → b ≡ Parameter place number → key_between count a b ≡ own_key count number a
key_right count number place a b h e = key_other count a b h ∙ ap (λ x. right_key count x a) e

pub key_neither : (count : ℕ) (a b : Expr) → is_no_parameter a ≡ true → is_no_parameter b ≡ true → key_between count a b ≡ []
key_neither count a b h g = key_other count a b h ∙ right_none count b a g

-- the keys of a condition, by its operator

module _ (count : ℕ) (e : Expr) (place : Place) (operator : Binary) (u v : Around) (a b x y : Expr) (is : e ≡ Both' place operator u a v b) (left : x ≡ a) (right : y ≡ b) where
  pub keys_and : operator ≡ binary.And → (keys_of count e ≡ keys_of count x ++ (if is_keys count x then keys_of count y else [])) × (is_keys count e ≡ (is_keys count x && is_keys count y))
  keys_and s =
      let l = sym left in
      let r = sym right in
      let all : e ≡ Both' place binary.And u x v y = is ∙ (λ i. Both' place (s i) u (l i) v (r i)) in
      (ap (keys_of count) all, ap (is_keys count) all)

  pub keys_equal : operator ≡ binary.Equal → (keys_of count e ≡ key_between count x y) × (is_keys count e ≡ is_some_key (key_between count x y))
  keys_equal s =
      let l = sym left in
      let r = sym right in
      let all : e ≡ Both' place binary.Equal u x v y = is ∙ (λ i. Both' place (s i) u (l i) v (r i)) in
      (ap (keys_of count) all, ap (is_keys count) all)

  pub keys_none : is_and operator ≡ false → is_equal operator ≡ false → (keys_of count e ≡ []) × (is_keys count e ≡ false)
  keys_none h g = let k = by operator h g in (ap (keys_of count) is ∙ k.0, ap (is_keys count) is ∙ k.1)
    where
      by : (s : Binary) → is_and s ≡ false → is_equal s ≡ false → (keys_of count (Both' place s u a v b) ≡ []) × (is_keys count (Both' place s u a v b) ≡ false)
      by binary.And p q = absurd (cc)
      by binary.Equal p q = absurd (cc)
      by binary.Add p q = (refl, refl)
      by binary.Sub p q = (refl, refl)
      by binary.Mul p q = (refl, refl)
      by binary.Div p q = (refl, refl)
      by binary.Rem p q = (refl, refl)
      by binary.Less p q = (refl, refl)
      by binary.LessEqual p q = (refl, refl)
      by binary.Greater p q = (refl, refl)
      by binary.GreaterEqual p q = (refl, refl)
      by binary.Different p q = (refl, refl)
      by binary.Or p q = (refl, refl)

-- where each parameter has a key whose value is noted, all are noted

noted_by : (ks : List (ℕ × Expr)) (new : List (Option Value)) → AllBound ks new → (i : ℕ) → has_key ks i ≡ true → (v : Value) × (slice_get new i ≡ Some (Some v))
noted_by [] new h i e = absurd (cc)
noted_by (k ∷ ks) new h i e = by (nat_eq k.0 i) refl e (noted_by ks new h.1 i)
  where
    by : (b : Bool) → nat_eq k.0 i ≡ b → (b || has_key ks i) ≡ true → (has_key ks i ≡ true → (v : Value) × (slice_get new i ≡ Some (Some v))) → (v : Value) × (slice_get new i ≡ Some (Some v))
    by true q p rest = subst (λ j. (v : Value) × (slice_get new j ≡ Some (Some v))) (eqb-true k.0 i q) h.0
    by false q p rest = rest p

noted_from : (n : ℕ) (xs : List (Option Value)) → n ≤ length xs → ((i : ℕ) → i < n → (v : Value) × (slice_get xs i ≡ Some (Some v))) → all_noted (take n xs) ≡ true
noted_from zero xs h each = refl
noted_from (suc n) [] h each = refl
noted_from (suc n) (x ∷ xs) h each = by x (each 0 (omega arith)) (noted_from n xs (omega (arith, h)) (λ i l. each (suc i) (omega (arith, l))))
  where
    by : (o : Option Value) → ((v : Value) × (Some o ≡ Some (Some v))) → all_noted (take n xs) ≡ true → all_noted (o ∷ take n xs) ≡ true
    by None g rest = absurd (let e = g.1 in cc)
    by (Some v) g rest = rest

pub all_are_noted : (count : ℕ) (ks : List (ℕ × Expr)) (new : List (Option Value)) → count ≤ length new → AllBound ks new → ((i : ℕ) → i < count → has_key ks i ≡ true) → all_noted (take count new) ≡ true
all_are_noted count ks new room h each = noted_from count new room (λ i l. noted_by ks new h i (each i l))
