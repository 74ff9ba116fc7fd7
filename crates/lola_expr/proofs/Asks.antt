-- What a typed expression may ask.
use Rattle.std.proofs.Common.{◌≡◌, ◌∙◌, ap, sym, ℕ, zero, suc, refl, Bool, true, ◌&&◌, nat_lt, drop, length, subst, Option, Some, None, List, [], ◌∷◌, slice_get}
use Rattle.std.proofs.lemmas.Bool.{and_from}
use Rattle.lola_value.specs.declared.value.Kind.{Kind}
use Rattle.lola_value.specs.declared.value.Value.{Value}
use Rattle.lola_value.specs.declared.value.Params.{Params}
use Rattle.lola_value.specs.Kinds.{is_of_kind, are_of_kinds}
use Rattle.lola_value.specs.Naming.{the_values}
use Rattle.lola_model.specs.Denotation.{kind_of}
use Rattle.lola_model.specs.Store.{Seen, Layout, kind_in, parameters_of, gives_kind, layouts_from, layout_of}
use Rattle.lola_model.specs.Typed.{scope_in}
use Rattle.lola_model.specs.Typing.{each_part, each_argument, is_noted, place_in, row_holds, part_is_typed, is_typed, scope_with, scope_seen, is_ready, part_can_ask, can_ask, is_kind_at, is_value_of, is_reference, window_row, takes, same_kind, same_kinds, noted_all}
use Rattle.lola_model.specs.declared.pacing.ClausePacings.{ClausePacings}
use Rattle.lola_model.specs.declared.plan.Plan.{Plan}
use Rattle.lola_model.specs.declared.spec.Stream.{Stream}
use Rattle.lola_model.specs.declared.spec.WindowSpec.{WindowSpec}
use Rattle.lola_model.specs.declared.expr.Expr.{Expr}
use Rattle.lola_model.specs.declared.expr.Expr.TheVariants.{Literal, Parameter, Read, Window, Defaults', Unary', Both', Choice'}
use Rattle.lola_model.specs.declared.expr.Arguments.{Arguments}
use Rattle.lola_model.specs.declared.expr.Arguments.TheVariants.{End, More'}
use Rattle.lola_expr.proofs.OperandLemmas.{first, second}
use Rattle.lola_expr.proofs.Parts.{same_kind-true}

-- where all parts pass two tests that together give a third, all pass the third
module _ (f g h : Expr → Bool) (t : (e : Expr) → f e ≡ true → g e ≡ true → h e ≡ true) where
  mutual
    pub each_of_both : (e : Expr) → each_part f e ≡ true → each_part g e ≡ true → each_part h e ≡ true
    each_of_both (Literal place v) p q = t (Literal place v) p q
    each_of_both (Parameter place i) p q = t (Parameter place i) p q
    each_of_both (Read place n how args) p q =
        and_from (h (Read place n how args)) (each_argument h args) (t (Read place n how args) (first _ (each_argument f args) p) (first _ (each_argument g args) q))
        (all_of_both args (second (f (Read place n how args)) _ p) (second (g (Read place n how args)) _ q))
    each_of_both (Window place n args) p q =
        and_from (h (Window place n args)) (each_argument h args) (t (Window place n args) (first _ (each_argument f args) p) (first _ (each_argument g args) q))
        (all_of_both args (second (f (Window place n args)) _ p) (second (g (Window place n args)) _ q))
    each_of_both (Defaults' place u a v b) p q =
        let x = second (f (Defaults' place u a v b)) (each_part f a && each_part f b) p in
        let y = second (g (Defaults' place u a v b)) (each_part g a && each_part g b) q in
        and_from (h (Defaults' place u a v b)) (each_part h a && each_part h b) (t (Defaults' place u a v b) (first _ (each_part f a && each_part f b) p) (first _ (each_part g a && each_part g b) q))
        (and_from (each_part h a) (each_part h b) (each_of_both a (first (each_part f a) (each_part f b) x) (first (each_part g a) (each_part g b) y)) (each_of_both b (second (each_part f a) (each_part f b) x) (second (each_part g a) (each_part g b) y)))
    each_of_both (Unary' place operator u a) p q =
        and_from (h (Unary' place operator u a)) (each_part h a) (t (Unary' place operator u a) (first _ (each_part f a) p) (first _ (each_part g a) q))
        (each_of_both a (second (f (Unary' place operator u a)) _ p) (second (g (Unary' place operator u a)) _ q))
    each_of_both (Both' place operator u a v b) p q =
        let x = second (f (Both' place operator u a v b)) (each_part f a && each_part f b) p in
        let y = second (g (Both' place operator u a v b)) (each_part g a && each_part g b) q in
        and_from (h (Both' place operator u a v b)) (each_part h a && each_part h b) (t (Both' place operator u a v b) (first _ (each_part f a && each_part f b) p) (first _ (each_part g a && each_part g b) q))
        (and_from (each_part h a) (each_part h b) (each_of_both a (first (each_part f a) (each_part f b) x) (first (each_part g a) (each_part g b) y)) (each_of_both b (second (each_part f a) (each_part f b) x) (second (each_part g a) (each_part g b) y)))
    each_of_both (Choice' place u a v b w d) p q =
        let x = second (f (Choice' place u a v b w d)) (each_part f a && (each_part f b && each_part f d)) p in
        let y = second (g (Choice' place u a v b w d)) (each_part g a && (each_part g b && each_part g d)) q in
        let xx = second (each_part f a) (each_part f b && each_part f d) x in
        let yy = second (each_part g a) (each_part g b && each_part g d) y in
        and_from (h (Choice' place u a v b w d)) (each_part h a && (each_part h b && each_part h d)) (t (Choice' place u a v b w d) (first _ (each_part f a && (each_part f b && each_part f d)) p) (first _ (each_part g a && (each_part g b && each_part g d)) q))
        (and_from (each_part h a) (each_part h b && each_part h d) (each_of_both a (first (each_part f a) (each_part f b && each_part f d) x) (first (each_part g a) (each_part g b && each_part g d) y))
        (and_from (each_part h b) (each_part h d) (each_of_both b (first (each_part f b) (each_part f d) xx) (first (each_part g b) (each_part g d) yy)) (each_of_both d (second (each_part f b) (each_part f d) xx) (second (each_part g b) (each_part g d) yy))))

    -- the same of arguments
    pub all_of_both : (args : Arguments) → each_argument f args ≡ true → each_argument g args ≡ true → each_argument h args ≡ true
    all_of_both End p q = refl
    all_of_both (More' u a v rest) p q =
        and_from (each_part h a) (each_argument h rest) (each_of_both a (first (each_part f a) (each_argument f rest) p) (first (each_part g a) (each_argument g rest) q))
        (all_of_both rest (second (each_part f a) (each_argument f rest) p) (second (each_part g a) (each_argument g rest) q))

-- a parameter of its kind has a value of it
value_at : (ks : List Kind) (vs : List Value) (i : ℕ) (k : Kind) → are_of_kinds ks vs ≡ true → is_kind_at ks i k ≡ true → is_value_of k (slice_get vs i) ≡ true
value_at [] vs i k h g = absurd (cc)
value_at (l ∷ ls) [] i k h g = absurd (cc)
value_at (l ∷ ls) (v ∷ vs) zero k h g = subst (λ (j : Kind). is_of_kind j v ≡ true) (same_kind-true l k g) (first (is_of_kind l v) (are_of_kinds ls vs) h)
value_at (l ∷ ls) (v ∷ vs) (suc i) k h g = value_at ls vs i k (second (is_of_kind l v) (are_of_kinds ls vs) h) g

module _ (s : Seen) (p : Params) (ks : List Kind) (given : are_of_kinds ks (the_values p) ≡ true) where
  -- a row that holds where the parameters have kinds holds where they are
  row_seen : (e : Expr) → row_holds (scope_with s.layout ks) e ≡ true → row_holds (scope_seen s p) e ≡ true
  row_seen (Literal place v) h = h
  row_seen (Parameter place i) h = value_at ks (the_values p) i (kind_of place) given h
  row_seen (Read place n how args) h = h
  row_seen (Window place n args) h = h
  row_seen (Defaults' place u a v b) h = h
  row_seen (Unary' place operator u a) h = h
  row_seen (Both' place operator u a v b) h = h
  row_seen (Choice' place u a v b w d) h = h

  -- a part
  part_asks : (e : Expr) → part_is_typed (scope_with s.layout ks) e ≡ true → is_ready s e ≡ true → part_can_ask s p e ≡ true
  part_asks e h g = and_from (row_holds (scope_seen s p) e) (is_ready s e) (row_seen e (second (is_noted (place_in e).kind) (row_holds (scope_with s.layout ks) e) h)) g

  -- a typed expression may be evaluated where the store is ready for all that it reads
  pub typed_can_ask : (e : Expr) → is_typed (scope_with s.layout ks) e ≡ true → each_part (is_ready s) e ≡ true → can_ask s p e ≡ true
  typed_can_ask e h g = each_of_both (part_is_typed (scope_with s.layout ks)) (is_ready s) (part_can_ask s p) part_asks e h g

-- how many values are kept of streams, and at what rates they are due, is nothing to the rows
length_same : (ss : List Stream) (kept other : List ℕ) (pacings others : List ClausePacings) → length (layouts_from ss kept pacings) ≡ length (layouts_from ss other others)
length_same [] kept other pacings others = refl
length_same (s ∷ ss) kept other pacings others = ap suc (length_same ss (drop 1 kept) (drop 1 other) (drop 1 pacings) (drop 1 others))

kind_same : (ss : List Stream) (kept other : List ℕ) (pacings others : List ClausePacings) (n : ℕ) → kind_in (slice_get (layouts_from ss kept pacings) n) ≡ kind_in (slice_get (layouts_from ss other others) n)
kind_same [] kept other pacings others n = refl
kind_same (s ∷ ss) kept other pacings others zero = refl
kind_same (s ∷ ss) kept other pacings others (suc n) = kind_same ss (drop 1 kept) (drop 1 other) (drop 1 pacings) (drop 1 others) n

parameters_same : (ss : List Stream) (kept other : List ℕ) (pacings others : List ClausePacings) (n : ℕ)
    → parameters_of (slice_get (layouts_from ss kept pacings) n) ≡ parameters_of (slice_get (layouts_from ss other others) n)
parameters_same [] kept other pacings others n = refl
parameters_same (s ∷ ss) kept other pacings others zero = refl
parameters_same (s ∷ ss) kept other pacings others (suc n) = parameters_same ss (drop 1 kept) (drop 1 other) (drop 1 pacings) (drop 1 others) n

module _ (ss : List Stream) (kept other : List ℕ) (pacings others : List ClausePacings) where
  reference_same : (n : ℕ) (args : Arguments) → is_reference (layouts_from ss kept pacings) n args ≡ is_reference (layouts_from ss other others) n args
  reference_same n args =
      ap (λ (l : ℕ). nat_lt n l && same_kinds (noted_all args) (parameters_of (slice_get (layouts_from ss kept pacings) n))) (length_same ss kept other pacings others)
      ∙ ap (λ ks. nat_lt n (length (layouts_from ss other others)) && same_kinds (noted_all args) ks) (parameters_same ss kept other pacings others n)

  window_same : (o : Option WindowSpec) (k : Kind) (args : Arguments) → window_row (layouts_from ss kept pacings) o k args ≡ window_row (layouts_from ss other others) o k args
  window_same None k args = refl
  window_same (Some w) k args =
      ap (λ r. r && (takes w.using (kind_in (slice_get (layouts_from ss kept pacings) w.target)) && same_kind (gives_kind w.using (kind_in (slice_get (layouts_from ss kept pacings) w.target))) k)) (reference_same w.target args)
      ∙ ap (λ j. is_reference (layouts_from ss other others) w.target args && (takes w.using j && same_kind (gives_kind w.using j) k)) (kind_same ss kept other pacings others w.target)

-- a row holds over a plan's store where it does in the plan's specification
row_in_plan : (plan : Plan) (ks : List Kind) (e : Expr) → row_holds (scope_in plan.spec ks) e ≡ row_holds (scope_with (layout_of plan) ks) e
row_in_plan plan ks (Literal place v) = refl
row_in_plan plan ks (Parameter place i) = refl
row_in_plan plan ks (Read place n how args) =
    ap (λ r. r && same_kind (kind_in (slice_get (layouts_from plan.spec.streams [] []) n)) (kind_of place)) (reference_same plan.spec.streams [] plan.kept [] plan.pacings n args)
    ∙ ap (λ k. is_reference (layouts_from plan.spec.streams plan.kept plan.pacings) n args && same_kind k (kind_of place)) (kind_same plan.spec.streams [] plan.kept [] plan.pacings n)
row_in_plan plan ks (Window place n args) = window_same plan.spec.streams [] plan.kept [] plan.pacings (slice_get plan.spec.windows n) (kind_of place) args
row_in_plan plan ks (Defaults' place u a v b) = refl
row_in_plan plan ks (Unary' place operator u a) = refl
row_in_plan plan ks (Both' place operator u a v b) = refl
row_in_plan plan ks (Choice' place u a v b w d) = refl

module _ (s : Seen) (p : Params) (ks : List Kind) (given : are_of_kinds ks (the_values p) ≡ true) (plan : Plan) (layout : s.layout ≡ layout_of plan) where
  part_in_plan : (e : Expr) → part_is_typed (scope_in plan.spec ks) e ≡ true → part_is_typed (scope_with s.layout ks) e ≡ true
  part_in_plan e h =
      let row = second (is_noted (place_in e).kind) (row_holds (scope_in plan.spec ks) e) h in
      and_from (is_noted (place_in e).kind) (row_holds (scope_with s.layout ks) e)
      (first (is_noted (place_in e).kind) (row_holds (scope_in plan.spec ks) e) h)
      (subst (λ (l : Layout). row_holds (scope_with l ks) e ≡ true) (sym layout) (sym (row_in_plan plan ks e) ∙ row))

  -- an expression that is typed in a plan's specification may be evaluated over a store of the plan that is ready
  pub typed_in_plan : (e : Expr) → is_typed (scope_in plan.spec ks) e ≡ true → each_part (is_ready s) e ≡ true → can_ask s p e ≡ true
  typed_in_plan e h g =
      each_of_both (part_is_typed (scope_in plan.spec ks)) (is_ready s) (part_can_ask s p)
      (λ e h g. part_asks s p ks given e (part_in_plan e h) g) e h g
