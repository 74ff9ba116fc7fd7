-- What is known of keys: an expression without parameters is the same for all instances, and a conjunction is false where a key is.
use Rattle.std.proofs.Common.{◌≡◌, refl, ap, sym, ◌∙◌, subst, ℕ, zero, suc, ◌<◌, ◌⊎◌, inl, inr, List, [], ◌∷◌, Option, Some, Bool, true, false, ◌&&◌, length, slice_get, arith, Box, Global}
use Rattle.lola_value.specs.declared.text.Field.{Field}
use Rattle.lola_value.specs.declared.value.Kind.{Kind}
use Rattle.lola_value.specs.declared.value.Value.{Value}
use Rattle.lola_value.specs.Answer.{Answer, Given}
use Rattle.lola_value.specs.Arithmetic.{fields_equal}
use Rattle.lola_value.specs.Naming.{Naming, IsHeld, read}
use Rattle.lola_model.specs.Accesses.{answer_of}
use Rattle.lola_model.specs.Content.{Content}
use Rattle.lola_model.specs.Denotation.{and_then, chosen, defaulted, den, den_all, given_or_missing, joined, kind_of, negated, truth, window_of, with_argument, with_arguments}
use Rattle.lola_model.specs.declared.expr.Arguments.{Arguments}
use Rattle.lola_model.specs.declared.expr.Arguments.TheVariants.{End, More'}
use Rattle.lola_model.specs.declared.expr.Binary.{Binary}
use Rattle.lola_model.specs.declared.expr.Binary.TheVariants.{And, Equal}
use Rattle.lola_model.specs.declared.expr.Expr.{Expr}
use Rattle.lola_model.specs.declared.expr.Expr.TheVariants.{Literal, Parameter, Read, Window, Defaults', Unary', Both', Choice'}
use Rattle.lola_model.specs.declared.expr.Place.{Place}
use Rattle.lola_model.specs.declared.spec.Spec.{Spec}
use Rattle.lola_expr.specs.Keys.{AddsAt, AddsKeys, Binds, BindsKey, HasValue, IsComparison, IsDecided, RulesOut, are_fixed, is_fixed}
use Rattle.lola_expr.proofs.OperandLemmas.{first, second}

-- what a box has beside what it holds
abbrev Around : Type 0
Around = Box (Unit {0}) Global

module _ (spec : Spec) (c : Content) (p q : List Field) where
  mutual
    -- an expression without parameters is the same for all instances
    pub fixed_same : (e : Expr) → is_fixed e ≡ true → den spec c p e ≡ den spec c q e
    fixed_same (Literal place v) h = refl
    fixed_same (Parameter place i) h = absurd (cc)
    fixed_same (Read place n how args) h = ap (λ r. with_arguments r (λ o. answer_of c how n o)) (fixed_all args h)
    fixed_same (Window place w args) h = ap (λ r. with_arguments r (λ o. window_of spec c (slice_get spec.windows w) o)) (fixed_all args h)
    fixed_same (Defaults' place u a v b) h =
        let x = fixed_same a (first (is_fixed a) (is_fixed b) h) in
        let y = fixed_same b (second (is_fixed a) (is_fixed b) h) in
        λ i. defaulted (x i) (y i)
    fixed_same (Unary' place operator u a) h = ap (λ r. and_then r (λ v. negated operator (kind_of place) v)) (fixed_same a h)
    fixed_same (Both' place operator u a v b) h =
        let x = fixed_same a (first (is_fixed a) (is_fixed b) h) in
        let y = fixed_same b (second (is_fixed a) (is_fixed b) h) in
        λ i. joined operator (kind_of place) (x i) (y i)
    fixed_same (Choice' place u a v b w d) h =
        let rest = second (is_fixed a) (is_fixed b && is_fixed d) h in
        let x = fixed_same a (first (is_fixed a) (is_fixed b && is_fixed d) h) in
        let y = fixed_same b (first (is_fixed b) (is_fixed d) rest) in
        let z = fixed_same d (second (is_fixed b) (is_fixed d) rest) in
        λ i. and_then (x i) (λ t. chosen t (y i) (z i))

    fixed_all : (args : Arguments) → are_fixed args ≡ true → den_all spec c p args ≡ den_all spec c q args
    fixed_all End h = refl
    fixed_all (More' u a v rest) h =
        let x = fixed_same a (first (is_fixed a) (are_fixed rest) h) in
        let y = fixed_all rest (second (is_fixed a) (are_fixed rest) h) in
        λ i. with_argument (x i) (y i)

module _ (spec : Spec) (names : Naming) (c : Content) (count : ℕ) where
  -- nothing is bound
  pub adds_none : (e : Expr) (old : List (Option Value)) → AddsKeys spec names c count e old old
  adds_none e old = λ i v at. inl at

  -- a conjunction

  -- it is false where its left side is
  left_false : (k : Kind) (a b : Answer) → a ≡ truth false → joined And k a b ≡ truth false
  left_false k a b h = ap (λ x. joined And k x b) h

  -- and its right side where the left one is true
  left_true : (k : Kind) (a b : Answer) → a ≡ truth true → joined And k a b ≡ b
  left_true k a b h = ap (λ x. joined And k x b) h

  -- and false where the right side is, if the left one is true or false
  right_false : (k : Kind) (a b : Answer) (t : Bool) → a ≡ truth t → b ≡ truth false → joined And k a b ≡ truth false
  right_false k a b true h g = left_true k a b h ∙ g
  right_false k a b false h g = left_false k a b h

  abbrev pub IsConjunction : Expr → Expr → Expr → Type 0
  IsConjunction a b e = (k : Kind) × ((q : List Field) → den spec c q e ≡ joined And k (den spec c q a) (den spec c q b))

  module _ (a b e : Expr) (is : IsConjunction a b e) where
    rules_left : (i : ℕ) (v : Value) → RulesOut spec names c count a i v → RulesOut spec names c count e i v
    rules_left i v r = record {
      held = r.held;
      others = λ q w long at f g. is.1 q ∙ left_false is.0 (den spec c q a) (den spec c q b) (r.others q w long at f g);
    }

    rules_right : IsDecided spec names c count a → (i : ℕ) (v : Value) → RulesOut spec names c count b i v → RulesOut spec names c count e i v
    rules_right d i v r = record {
      held = r.held;
      others = λ q w long at f g. (let t = d q long in is.1 q ∙ right_false is.0 (den spec c q a) (den spec c q b) t.0 t.1 (r.others q w long at f g));
    }

    -- the keys of the left side are its keys
    pub adds_left : (old new : List (Option Value)) → AddsKeys spec names c count a old new → AddsKeys spec names c count e old new
    adds_left old new h = λ i v at. by i v (h i v at)
      where
        by : (i : ℕ) (v : Value) → (slice_get old i ≡ Some (Some v)) ⊎ RulesOut spec names c count a i v → (slice_get old i ≡ Some (Some v)) ⊎ RulesOut spec names c count e i v
        by i v (inl before) = inl before
        by i v (inr r) = inr (rules_left i v r)

    -- and those of the right side, where the whole left side is keys
    adds_right : IsDecided spec names c count a → (old mid new : List (Option Value)) → AddsKeys spec names c count a old mid → AddsKeys spec names c count b mid new → AddsKeys spec names c count e old new
    adds_right d old mid new h g = λ i v at. by i v (g i v at)
      where
        by : (i : ℕ) (v : Value) → (slice_get mid i ≡ Some (Some v)) ⊎ RulesOut spec names c count b i v → (slice_get old i ≡ Some (Some v)) ⊎ RulesOut spec names c count e i v
        by i v (inl before) = adds_left old mid h i v before
        by i v (inr r) = inr (rules_right d i v r)

    decided_both : IsDecided spec names c count a → IsDecided spec names c count b → IsDecided spec names c count e
    decided_both d f = λ q long. by q (d q long) (f q long)
      where
        by : (q : List Field) → ((t : Bool) × (den spec c q a ≡ truth t)) → ((t : Bool) × (den spec c q b ≡ truth t)) → (t : Bool) × (den spec c q e ≡ truth t)
        by q (true, x) (t, y) = (t, is.1 q ∙ (left_true is.0 (den spec c q a) (den spec c q b) x ∙ y))
        by q (false, x) (t, y) = (false, is.1 q ∙ left_false is.0 (den spec c q a) (den spec c q b) x)

    pub binds_both : (r : Bool) (old mid new : List (Option Value)) → Binds spec names c count true a old mid → Binds spec names c count r b mid new → Binds spec names c count r e old new
    binds_both true old mid new h g = (decided_both h.0 g.0, adds_right h.0 old mid new h.1 g.1)
    binds_both false old mid new h g = adds_right h.0 old mid new h.1 g

    -- where the left side is more than keys, what stands behind it is not looked at
    pub binds_left : (old new : List (Option Value)) → Binds spec names c count false a old new → Binds spec names c count false e old new
    binds_left old new h = adds_left old new h

  -- a comparison

  -- there are as many parameters as are said
  param_there : (q : List Field) (i : ℕ) → i < length q → (w : Field) × (slice_get q i ≡ Some w)
  param_there [] i h = absurd (omega (arith, h))
  param_there (x ∷ q) zero h = (x, refl)
  param_there (x ∷ q) (suc i) h = param_there q i (omega (arith, h))

  left_parameter : (k : Kind) (w v : Field) (a b : Answer) → a ≡ Given w → b ≡ Given v → joined Equal k a b ≡ truth (fields_equal w v)
  left_parameter k w v a b h g = λ i. joined Equal k (h i) (g i)

  module _ (number : ℕ) (place : Place) (a e x : Expr) (is : a ≡ Parameter place number) where
    given_here : (q : List Field) (w : Field) → slice_get q number ≡ Some w → den spec c q a ≡ Given w
    given_here q w at = ap (den spec c q) is ∙ ap given_or_missing at

    module _ (v : Value) (value : HasValue spec names c count e v) (few : number < count) where
      -- the parameter stands left
      module _ (compares : IsComparison spec c a e x) where
        left_is : (q : List Field) (w : Field) → slice_get q number ≡ Some w → den spec c q x ≡ truth (fields_equal w (read names v))
        left_is q w at = compares.1 q ∙ left_parameter compares.0 w (read names v) (den spec c q a) (den spec c q e) (given_here q w at) (value.same q)

        decided_left : IsDecided spec names c count x
        decided_left = λ q long. (let w = param_there q number (omega (arith, few, long)) in (fields_equal w.0 (read names v), left_is q w.0 w.1))

        rules_at_left : (i : ℕ) (u : Value) → i ≡ number → u ≡ v → RulesOut spec names c count x i u
        rules_at_left i u here same = record {
          held = subst (IsHeld names) (sym same) value.held;
          others = λ q w long at f g.
              left_is q w (subst (λ j. slice_get q j ≡ Some w) here at) ∙ ap truth (ap (λ y. fields_equal w (read names y)) (sym same) ∙ f);
        }

      -- or right
      module _ (compares : IsComparison spec c e a x) where
        right_is : (q : List Field) (w : Field) → slice_get q number ≡ Some w → den spec c q x ≡ truth (fields_equal (read names v) w)
        right_is q w at = compares.1 q ∙ left_parameter compares.0 (read names v) w (den spec c q e) (den spec c q a) (value.same q) (given_here q w at)

        decided_right : IsDecided spec names c count x
        decided_right = λ q long. (let w = param_there q number (omega (arith, few, long)) in (fields_equal (read names v) w.0, right_is q w.0 w.1))

        rules_at_right : (i : ℕ) (u : Value) → i ≡ number → u ≡ v → RulesOut spec names c count x i u
        rules_at_right i u here same = record {
          held = subst (IsHeld names) (sym same) value.held;
          others = λ q w long at f g.
              right_is q w (subst (λ j. slice_get q j ≡ Some w) here at) ∙ ap truth (ap (λ y. fields_equal (read names y) w) (sym same) ∙ g);
        }

    adds_at : (v : Value) (old new : List (Option Value)) → ((i : ℕ) (u : Value) → i ≡ number → u ≡ v → RulesOut spec names c count x i u) → AddsAt number v old new → AddsKeys spec names c count x old new
    adds_at v old new rules h = λ i u at. by i u (h i u at)
      where
        by : (i : ℕ) (u : Value) → (slice_get old i ≡ Some (Some u)) ⊎ ((i ≡ number) × (u ≡ v)) → (slice_get old i ≡ Some (Some u)) ⊎ RulesOut spec names c count x i u
        by i u (inl before) = inl before
        by i u (inr r) = inr (rules i u r.0 r.1)

    adds_same : (old new : List (Option Value)) → new ≡ old → AddsKeys spec names c count x old new
    adds_same old new e = subst (AddsKeys spec names c count x old) (sym e) (adds_none x old)

    pub binds_key_left : IsComparison spec c a e x → (r : Bool) (old new : List (Option Value)) → BindsKey spec names c count r number e old new → Binds spec names c count r x old new
    binds_key_left compares true old new (v, h) = (decided_left v h.0 h.1 compares, adds_at v old new (rules_at_left v h.0 h.1 compares) h.2)
    binds_key_left compares false old new h = adds_same old new h

    pub binds_key_right : IsComparison spec c e a x → (r : Bool) (old new : List (Option Value)) → BindsKey spec names c count r number e old new → Binds spec names c count r x old new
    binds_key_right compares true old new (v, h) = (decided_right v h.0 h.1 compares, adds_at v old new (rules_at_right v h.0 h.1 compares) h.2)
    binds_key_right compares false old new h = adds_same old new h

-- what an operator between two operands is, where the operator and the operands are read apart
pub operator_is : (spec : Spec) (c : Content) (e : Expr) (place : Place) (operator want : Binary) (u v : Around) (a b x y : Expr) → e ≡ Both' place operator u a v b → operator ≡ want → x ≡ a → y ≡ b
    → (q : List Field) → den spec c q e ≡ joined want (kind_of place) (den spec c q x) (den spec c q y)
operator_is spec c e place operator want u v a b x y is s h g q =
    let left = sym h in
    let right = sym g in
    ap (den spec c q) is ∙ (λ i. joined (s i) (kind_of place) (den spec c q (left i)) (den spec c q (right i)))
