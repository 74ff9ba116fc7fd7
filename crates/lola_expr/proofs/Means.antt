-- What an expression means of the outcomes of its parts.
use Rattle.std.proofs.Common.{◌≡◌, ℕ, refl, sym, ap, ◌∙◌, subst, arith, Bool, true, false, ◌&&◌, List, [], ◌∷◌, length, map, Option, Some, None, slice_get, Ok, Err, Result, Box, Global}
use Rattle.std.proofs.lemmas.Bool.{and_from}
use Rattle.lola_value.specs.declared.text.Field.{Field}
use Rattle.lola_value.specs.declared.text.Field.TheVariants as field
use Rattle.lola_value.specs.declared.value.Kind.{Kind}
use Rattle.lola_value.specs.declared.value.Kind.TheVariants as kind
use Rattle.lola_value.specs.declared.value.Value.{Value}
use Rattle.lola_value.specs.declared.value.Value.TheVariants as value
use Rattle.lola_value.specs.declared.value.Outcome.{Outcome}
use Rattle.lola_value.specs.declared.value.Outcome.TheVariants as outcome
use Rattle.lola_value.specs.declared.value.Params.{Params}
use Rattle.lola_value.specs.Answer.{Answer, Given}
use Rattle.lola_value.specs.Kinds.{are_of_kinds, is_bool, is_of_kind, is_outcome_of, is_text}
use Rattle.lola_value.specs.Naming.{Naming, AreHeld, IsHeldIn, read, read_outcome, read_params, the_values}
use Rattle.lola_model.specs.Accesses.{answer_of}
use Rattle.lola_model.specs.Content.{Content}
use Rattle.lola_model.specs.Denotation.{chosen, den, den_all, kind_of, negated, with_argument, with_arguments, with_right, window_of}
use Rattle.lola_model.specs.Store.{Memories, Seen, window_kind}
use Rattle.lola_model.specs.Typing.{binary_row, can_ask, count_of, is_value_of, noted, noted_all, same_kind, truth_row}
use Rattle.lola_model.specs.declared.expr.Access.{Access}
use Rattle.lola_model.specs.declared.expr.Arguments.{Arguments}
use Rattle.lola_model.specs.declared.expr.Arguments.TheVariants.{End, More'}
use Rattle.lola_model.specs.declared.expr.Binary.{Binary}
use Rattle.lola_model.specs.declared.expr.Expr.{Expr}
use Rattle.lola_model.specs.declared.expr.Expr.TheVariants.{Literal, Parameter, Read, Window, Defaults', Unary', Both', Choice'}
use Rattle.lola_model.specs.declared.expr.Place.{Place}
use Rattle.lola_model.specs.declared.expr.Prefix.{Prefix}
use Rattle.lola_model.specs.declared.plan.Plan.{Plan}
use Rattle.lola_expr.specs.Evaluation.{Sees, IsDenoted, are_named, part_is_named, value_or_missing}
use Rattle.lola_expr.specs.Operands.{decides, is_truth, operand_fits, operands_fit}
use Rattle.lola_expr.specs.Machine.{Answers, Folds, Negates, Operates}
use Rattle.lola_expr.proofs.OperandLemmas.{first, second, held_by_kind}
use Rattle.lola_expr.proofs.Parts.{same_kind-true, both_facts, choice_facts, defaults_facts, each_both, each_choice, each_defaults, each_more, each_read, each_window, read_facts, unary_facts, window_facts}
use Rattle.lola_expr.proofs.Arms.{binary_fits, chosen_false, chosen_true, defaulted_first, defaulted_second, goes_on, joined_both, joined_stays, literal_held, literal_read, parameter_held, parameter_read, prefix_fits, stays, stays_of_kind, truth_of_kind, window_read}

-- what a box has beside what it holds
abbrev pub Around : Type 0
Around = Box (Unit {0}) Global

-- a parameter of a kind, or none
parameter_kind : (k : Kind) (o : Option Value) → is_value_of k o ≡ true → is_outcome_of k (value_or_missing o) ≡ true
parameter_kind k None h = refl
parameter_kind k (Some v) h = h

-- as many values as arguments
pub as_many : (args : Arguments) (vs : List Value) → are_of_kinds (noted_all args) vs ≡ true → length vs ≡ count_of args
as_many End [] h = refl
as_many End (v ∷ vs) h = absurd (cc)
as_many (More' u a w rest) [] h = absurd (cc)
as_many (More' u a w rest) (v ∷ vs) h = let e = as_many rest vs (second (is_of_kind (noted a) v) (are_of_kinds (noted_all rest) vs) h) in omega (arith, e)

module _ (remembers : Memories) (s : Seen) (p : Params) where
  -- an outcome that an expression may come to: it reads as what the expression means, and is of its kind
  pub record Means (e : Expr) (r : Outcome) : Type 0 where
    pub value : IsDenoted remembers s p e r
    pub kind : is_outcome_of (noted e) r ≡ true

  -- values that arguments may come to
  pub record MeansAll (args : Arguments) (vs : List Value) : Type 0 where
    pub value : (plan : Plan) (names : Naming) (c : Content) → Sees plan names c remembers s p → are_named names plan.spec.texts args ≡ true
        → (den_all plan.spec c (read_params names p) args ≡ Ok (map (read names) vs)) × AreHeld names vs
    pub kinds : are_of_kinds (noted_all args) vs ≡ true

  -- the outcome of the first argument that has no value
  pub record MeansNone (args : Arguments) (r : Outcome) : Type 0 where
    pub value : (plan : Plan) (names : Naming) (c : Content) → Sees plan names c remembers s p → are_named names plan.spec.texts args ≡ true
        → (den_all plan.spec c (read_params names p) args ≡ Err (read_outcome names r)) × IsHeldIn names r
    pub none : (v : Value) → r ≡ outcome.Value v → ⊥

  -- a literal
  pub literal_means : (place : Place) (v : Value) → can_ask s p (Literal place v) ≡ true → Means (Literal place v) (outcome.Value v)
  literal_means place v h = record {
    value = λ plan names c x n. (literal_read names plan.spec.texts v n, literal_held names plan.spec.texts v n);
    kind = first (is_of_kind (kind_of place) v) true h;
  }

  -- a parameter
  pub parameter_means : (place : Place) (i : ℕ) → can_ask s p (Parameter place i) ≡ true → Means (Parameter place i) (value_or_missing (slice_get (the_values p) i))
  parameter_means place i h = record {
    value = λ plan names c x n. (parameter_read names (the_values p) i, parameter_held names (the_values p) i x.held);
    kind = parameter_kind (kind_of place) (slice_get (the_values p) i) (first _ true h);
  }

  -- no arguments
  pub end_means : MeansAll End []
  end_means = record { value = λ plan names c x n. (refl, tt); kinds = refl }

  -- an argument before others
  pub more_means : (u w : Around) (a : Expr) (rest : Arguments) (v : Value) (vs : List Value) → Means a (outcome.Value v) → MeansAll rest vs → MeansAll (More' u a w rest) (v ∷ vs)
  more_means u w a rest v vs d e = record {
    value = λ plan names c x n.
        let m = each_more (part_is_named names plan.spec.texts) (More' u a w rest) u w a rest refl n in
        let l = d.value plan names c x m.0 in
        let r = e.value plan names c x m.1 in (
          ap (λ y. with_argument y (den_all plan.spec c (read_params names p) rest)) (sym l.0) ∙ ap (λ y. with_argument (Given (read names v)) y) r.0,
          (l.1, r.1),
        );
    kinds = and_from (is_of_kind (noted a) v) (are_of_kinds (noted_all rest) vs) d.kind e.kinds;
  }

  -- an argument without a value
  stops : (names : Naming) (r : Outcome) (a : Answer) (vs : Result (List Field) Answer) → ((v : Value) → r ≡ outcome.Value v → ⊥) → read_outcome names r ≡ a → with_argument a vs ≡ Err (read_outcome names r)
  stops names (outcome.Value v) a vs ne e = absurd (ne v refl)
  stops names outcome.Missing a vs ne e = ap (λ y. with_argument y vs) (sym e)
  stops names (outcome.Fault k) a vs ne e = ap (λ y. with_argument y vs) (sym e)
  stops names outcome.Poison a vs ne e = ap (λ y. with_argument y vs) (sym e)

  pub here_means : (u w : Around) (a : Expr) (rest : Arguments) (r : Outcome) → ((v : Value) → r ≡ outcome.Value v → ⊥) → Means a r → MeansNone (More' u a w rest) r
  here_means u w a rest r ne d = record {
    value = λ plan names c x n.
        let m = each_more (part_is_named names plan.spec.texts) (More' u a w rest) u w a rest refl n in
        let l = d.value plan names c x m.0 in
        (stops names r (den plan.spec c (read_params names p) a) (den_all plan.spec c (read_params names p) rest) ne l.0, l.1);
    none = ne;
  }

  -- one among the others
  pub later_means : (u w : Around) (a : Expr) (rest : Arguments) (v : Value) (r : Outcome) → Means a (outcome.Value v) → MeansNone rest r → MeansNone (More' u a w rest) r
  later_means u w a rest v r d e = record {
    value = λ plan names c x n.
        let m = each_more (part_is_named names plan.spec.texts) (More' u a w rest) u w a rest refl n in
        let l = d.value plan names c x m.0 in
        let y = e.value plan names c x m.1 in
        (ap (λ y. with_argument y (den_all plan.spec c (read_params names p) rest)) (sym l.0) ∙ ap (λ y. with_argument (Given (read names v)) y) y.0, y.1);
    none = e.none;
  }

  -- an access
  pub read_means : (e : Expr) (place : Place) (n : ℕ) (how : Access) (args : Arguments) (vs : List Value) (r : Outcome) → e ≡ Read place n how args → can_ask s p e ≡ true
      → MeansAll args vs → Answers remembers s n how vs r → Means e r
  read_means e place n how args vs r is h d a = record {
    value = λ plan names c x m.
        let q = d.value plan names c x (each_read (part_is_named names plan.spec.texts) e place n how args is m) in
        let w = a.value names c x.naming q.1 x.stands in
        (w.0 ∙ (ap (λ l. with_arguments l (λ q. answer_of c how n q)) (sym q.0) ∙ ap (λ e. den plan.spec c (read_params names p) e) (sym is)), w.1);
    kind =
        let f = read_facts s p e place n how args is h in
        subst (λ (k : Kind). is_outcome_of k r ≡ true) (f.kind ∙ ap noted (sym is)) a.kind;
  }

  -- an access one of whose arguments has no value
  pub read_none : (place : Place) (n : ℕ) (how : Access) (args : Arguments) (r : Outcome) → MeansNone args r → Means (Read place n how args) r
  read_none place n how args r d = record {
    value = λ plan names c x m.
        let q = d.value plan names c x (each_read (part_is_named names plan.spec.texts) (Read place n how args) place n how args refl m) in
        (ap (λ l. with_arguments l (λ q. answer_of c how n q)) (sym q.0), q.1);
    kind = stays_of_kind r (kind_of place) d.none;
  }

  -- a window
  pub window_means : (place : Place) (n : ℕ) (args : Arguments) (vs : List Value) (r : Outcome) → can_ask s p (Window place n args) ≡ true
      → MeansAll args vs → Folds remembers s n vs r → Means (Window place n args) r
  window_means place n args vs r h d a =
      let f = window_facts s p (Window place n args) place n args refl h in
      record {
        value = λ plan names c x m.
            let q = d.value plan names c x (each_window (part_is_named names plan.spec.texts) (Window place n args) place n args refl m) in
            let w = a.value names c x.naming q.1 x.stands in (
              window_read plan s c (map (read names) vs) (read_outcome names r) n x.layout f.reference.stream w ∙ ap (λ l. with_arguments l (λ q. window_of plan.spec c (slice_get plan.spec.windows n) q)) (sym q.0),
              held_by_kind (window_kind s n) (ap is_text f.kind ∙ f.no_text) r a.kind names,
            );
        kind = subst (λ (k : Kind). is_outcome_of k r ≡ true) f.kind a.kind;
      }

  -- a window one of whose arguments has no value
  pub window_none : (place : Place) (n : ℕ) (args : Arguments) (r : Outcome) → MeansNone args r → Means (Window place n args) r
  window_none place n args r d = record {
    value = λ plan names c x m.
        let q = d.value plan names c x (each_window (part_is_named names plan.spec.texts) (Window place n args) place n args refl m) in
        (ap (λ l. with_arguments l (λ q. window_of plan.spec c (slice_get plan.spec.windows n) q)) (sym q.0), q.1);
    kind = stays_of_kind r (kind_of place) d.none;
  }

  module _ (place : Place) (u v : Around) (a b : Expr) (h : can_ask s p (Defaults' place u a v b) ≡ true) where
    -- a default, of what is not missing
    pub first_means : (r : Outcome) → (r ≡ outcome.Missing → ⊥) → Means a r → Means (Defaults' place u a v b) r
    first_means r ne d =
        let f = defaults_facts s p (Defaults' place u a v b) place u v a b refl h in
        record {
          value = λ plan names c x n.
              let m = each_defaults (part_is_named names plan.spec.texts) (Defaults' place u a v b) place u v a b refl n in
              let l = d.value plan names c x m.0 in
              (defaulted_first names r (den plan.spec c (read_params names p) a) (den plan.spec c (read_params names p) b) ne l.0, l.1);
          kind = subst (λ (k : Kind). is_outcome_of k r ≡ true) f.left_kind d.kind;
        }

    -- and of what is
    pub second_means : (r : Outcome) → Means a outcome.Missing → Means b r → Means (Defaults' place u a v b) r
    second_means r d e =
        let f = defaults_facts s p (Defaults' place u a v b) place u v a b refl h in
        record {
          value = λ plan names c x n.
              let m = each_defaults (part_is_named names plan.spec.texts) (Defaults' place u a v b) place u v a b refl n in
              let l = d.value plan names c x m.0 in
              let y = e.value plan names c x m.1 in
              (defaulted_second (read_outcome names r) (den plan.spec c (read_params names p) a) (den plan.spec c (read_params names p) b) l.0 y.0, y.1);
          kind = subst (λ (k : Kind). is_outcome_of k r ≡ true) f.right_kind e.kind;
        }

  module _ (place : Place) (operator : Prefix) (u : Around) (a : Expr) (h : can_ask s p (Unary' place operator u a) ≡ true) where
    -- an operator before an operand that it takes
    pub operand_taken : (x : Value) → Means a (outcome.Value x) → operand_fits operator (kind_of place) x ≡ true
    operand_taken x d =
        let f = unary_facts s p (Unary' place operator u a) place operator u a refl h in
        prefix_fits operator (kind_of place) (noted a) x f.row d.kind

    pub negated_means : (x : Value) (r : Outcome) → Means a (outcome.Value x) → Negates operator (kind_of place) x r → Means (Unary' place operator u a) r
    negated_means x r d e = record {
      value = λ plan names c y n.
          let l = d.value plan names c y (second (part_is_named names plan.spec.texts (Unary' place operator u a)) _ n) in
          (goes_on names x (den plan.spec c (read_params names p) a) (λ v. negated operator (kind_of place) v) (read_outcome names r) l.0 (e.value names), e.held names);
      kind = e.kind;
    }

    -- before one that has no value
    pub operand_none : (r : Outcome) → ((v : Value) → r ≡ outcome.Value v → ⊥) → Means a r → Means (Unary' place operator u a) r
    operand_none r ne d = record {
      value = λ plan names c y n.
          let l = d.value plan names c y (second (part_is_named names plan.spec.texts (Unary' place operator u a)) _ n) in
          (stays names r (den plan.spec c (read_params names p) a) (λ v. negated operator (kind_of place) v) ne l.0, l.1);
      kind = stays_of_kind r (kind_of place) ne;
    }

  module _ (place : Place) (operator : Binary) (u v : Around) (a b : Expr) (h : can_ask s p (Both' place operator u a v b) ≡ true) where
    -- an operator between operands that it takes
    pub operands_taken : (x y : Value) → Means a (outcome.Value x) → Means b (outcome.Value y) → operands_fit operator (kind_of place) x y ≡ true
    operands_taken x y d e =
        let f = both_facts s p (Both' place operator u a v b) place operator u v a b refl h in
        binary_fits operator (kind_of place) (noted a) (noted b) x y f.row d.kind e.kind

    pub operated_means : (x y : Value) (r : Outcome) → decides operator x ≡ false → Means a (outcome.Value x) → Means b (outcome.Value y) → Operates operator (kind_of place) x y r
        → Means (Both' place operator u a v b) r
    operated_means x y r nd d e o = record {
      value = λ plan names c z n.
          let m = each_both (part_is_named names plan.spec.texts) (Both' place operator u a v b) place operator u v a b refl n in
          let l = d.value plan names c z m.0 in
          let w = e.value plan names c z m.1 in (
            joined_both operator (kind_of place) names x y (read_outcome names r) (den plan.spec c (read_params names p) a) (den plan.spec c (read_params names p) b) nd l.0 w.0 (o.value names z.naming l.1 w.1),
            o.held names w.1,
          );
      kind = o.kind;
    }

    -- the left one has no value
    pub left_none : (r : Outcome) → ((v : Value) → r ≡ outcome.Value v → ⊥) → Means a r → Means (Both' place operator u a v b) r
    left_none r ne d = record {
      value = λ plan names c z n.
          let m = each_both (part_is_named names plan.spec.texts) (Both' place operator u a v b) place operator u v a b refl n in
          let l = d.value plan names c z m.0 in
          (stays names r (den plan.spec c (read_params names p) a) (λ x. with_right operator (kind_of place) x (den plan.spec c (read_params names p) b)) ne l.0, l.1);
      kind = stays_of_kind r (kind_of place) ne;
    }

    -- the right one has none
    pub right_none : (x : Value) (r : Outcome) → decides operator x ≡ false → ((v : Value) → r ≡ outcome.Value v → ⊥) → Means a (outcome.Value x) → Means b r → Means (Both' place operator u a v b) r
    right_none x r nd ne d e = record {
      value = λ plan names c z n.
          let m = each_both (part_is_named names plan.spec.texts) (Both' place operator u a v b) place operator u v a b refl n in
          let l = d.value plan names c z m.0 in
          let w = e.value plan names c z m.1 in
          (joined_stays operator (kind_of place) names x r (den plan.spec c (read_params names p) a) (den plan.spec c (read_params names p) b) nd ne l.0 w.0, w.1);
      kind = stays_of_kind r (kind_of place) ne;
    }

  -- `&&` and `||`: where the left value is this one, the right operand is the outcome, or the left value is
  module _ (place : Place) (operator : Binary) (u v : Around) (a b : Expr) (h : can_ask s p (Both' place operator u a v b) ≡ true) (row : (k j l : Kind) → binary_row operator k j l ≡ truth_row k j l) where
    truth_kinds : (kind_of place ≡ kind.Bool) × (noted a ≡ kind.Bool) × (noted b ≡ kind.Bool)
    truth_kinds =
        let f = both_facts s p (Both' place operator u a v b) place operator u v a b refl h in
        let r : truth_row (kind_of place) (noted a) (noted b) ≡ true = sym (row (kind_of place) (noted a) (noted b)) ∙ f.row in
        let q = second (same_kind (kind_of place) kind.Bool) (same_kind (noted a) kind.Bool && same_kind (noted b) kind.Bool) r in (
          same_kind-true (kind_of place) kind.Bool (first (same_kind (kind_of place) kind.Bool) (same_kind (noted a) kind.Bool && same_kind (noted b) kind.Bool) r),
          same_kind-true (noted a) kind.Bool (first (same_kind (noted a) kind.Bool) (same_kind (noted b) kind.Bool) q),
          same_kind-true (noted b) kind.Bool (second (same_kind (noted a) kind.Bool) (same_kind (noted b) kind.Bool) q),
        )

    -- a left value is a truth value
    pub left_truth : (x : Value) → Means a (outcome.Value x) → is_truth x ≡ true
    left_truth x d = truth_of_kind x (subst (λ (k : Kind). is_of_kind k x ≡ true) truth_kinds.1 d.kind)

    pub goes_on_means : (t : Bool) (r : Outcome) → ((k : Kind) (y : Answer) → with_right operator k (field.Bool t) y ≡ y) → Means a (outcome.Value (value.Bool t)) → Means b r → Means (Both' place operator u a v b) r
    goes_on_means t r same d e = record {
      value = λ plan names c z n.
          let m = each_both (part_is_named names plan.spec.texts) (Both' place operator u a v b) place operator u v a b refl n in
          let l = d.value plan names c z m.0 in
          let y = e.value plan names c z m.1 in (
            goes_on names (value.Bool t) (den plan.spec c (read_params names p) a) (λ x. with_right operator (kind_of place) x (den plan.spec c (read_params names p) b)) (read_outcome names r) l.0
                (y.0 ∙ sym (same (kind_of place) (den plan.spec c (read_params names p) b))),
            y.1,
          );
      kind = subst (λ (k : Kind). is_outcome_of k r ≡ true) (truth_kinds.2 ∙ sym truth_kinds.0) e.kind;
    }

    pub decided_means : (t : Bool) → ((k : Kind) (y : Answer) → with_right operator k (field.Bool t) y ≡ Given (field.Bool t)) → Means a (outcome.Value (value.Bool t)) → Means (Both' place operator u a v b) (outcome.Value (value.Bool t))
    decided_means t same d = record {
      value = λ plan names c z n.
          let m = each_both (part_is_named names plan.spec.texts) (Both' place operator u a v b) place operator u v a b refl n in
          let l = d.value plan names c z m.0 in (
            goes_on names (value.Bool t) (den plan.spec c (read_params names p) a) (λ x. with_right operator (kind_of place) x (den plan.spec c (read_params names p) b)) (Given (field.Bool t)) l.0
                (sym (same (kind_of place) (den plan.spec c (read_params names p) b))),
            tt,
          );
      kind = ap is_bool truth_kinds.0;
    }

  module _ (place : Place) (u v w : Around) (t a b : Expr) (h : can_ask s p (Choice' place u t v a w b) ≡ true) where
    -- a condition that is true
    pub true_means : (r : Outcome) → Means t (outcome.Value (value.Bool true)) → Means a r → Means (Choice' place u t v a w b) r
    true_means r d e =
        let f = choice_facts s p (Choice' place u t v a w b) place u v w t a b refl h in
        record {
          value = λ plan names c z n.
              let m = each_choice (part_is_named names plan.spec.texts) (Choice' place u t v a w b) place u v w t a b refl n in
              let l = d.value plan names c z m.0 in
              let y = e.value plan names c z m.1 in
              (chosen_true names (value.Bool true) (den plan.spec c (read_params names p) t) (den plan.spec c (read_params names p) a) (den plan.spec c (read_params names p) b) (read_outcome names r) refl refl l.0 y.0, y.1);
          kind = subst (λ (k : Kind). is_outcome_of k r ≡ true) f.left_kind e.kind;
        }

    -- one that is false
    pub false_means : (r : Outcome) → Means t (outcome.Value (value.Bool false)) → Means b r → Means (Choice' place u t v a w b) r
    false_means r d e =
        let f = choice_facts s p (Choice' place u t v a w b) place u v w t a b refl h in
        record {
          value = λ plan names c z n.
              let m = each_choice (part_is_named names plan.spec.texts) (Choice' place u t v a w b) place u v w t a b refl n in
              let l = d.value plan names c z m.0 in
              let y = e.value plan names c z m.2 in
              (chosen_false names (value.Bool false) (den plan.spec c (read_params names p) t) (den plan.spec c (read_params names p) a) (den plan.spec c (read_params names p) b) (read_outcome names r) refl refl l.0 y.0, y.1);
          kind = subst (λ (k : Kind). is_outcome_of k r ≡ true) f.right_kind e.kind;
        }

    -- one that has no value
    pub test_none : (r : Outcome) → ((v : Value) → r ≡ outcome.Value v → ⊥) → Means t r → Means (Choice' place u t v a w b) r
    test_none r ne d = record {
      value = λ plan names c z n.
          let m = each_choice (part_is_named names plan.spec.texts) (Choice' place u t v a w b) place u v w t a b refl n in
          let l = d.value plan names c z m.0 in
          (stays names r (den plan.spec c (read_params names p) t) (λ x. chosen x (den plan.spec c (read_params names p) a) (den plan.spec c (read_params names p) b)) ne l.0, l.1);
      kind = stays_of_kind r (kind_of place) ne;
    }

    -- a value of it is true or false
    pub test_truth : (x : Value) → Means t (outcome.Value x) → is_truth x ≡ true
    test_truth x d =
        let f = choice_facts s p (Choice' place u t v a w b) place u v w t a b refl h in
        truth_of_kind x (subst (λ (k : Kind). is_of_kind k x ≡ true) f.test_kind d.kind)
