-- What is known of the parts of an expression that can ask a store.
use Rattle.std.proofs.Common.{◌≡◌, ℕ, zero, suc, ◌<◌, ◌≤◌, refl, Bool, true, false, ◌&&◌, ap, sym, ◌∙◌, subst, List, [], ◌∷◌, length, Option, Some, None, slice_get, nat_lt, Box, Global, arith}
use Rattle.std.proofs.lemmas.Bool.{eqb-true, ltb-true}
use Rattle.lola_value.specs.declared.value.Kind.{Kind}
use Rattle.lola_value.specs.declared.value.Kind.TheVariants as kind
use Rattle.lola_value.specs.declared.value.Params.{Params}
use Rattle.lola_value.specs.Kinds.{kind_number, is_text}
use Rattle.lola_model.specs.Denotation.{kind_of}
use Rattle.lola_model.specs.Store.{Seen, Fits, StreamLayout, kind_in, parameters_of, target_of, pane_of, gives_kind, window_kind}
use Rattle.lola_model.specs.Typing.{each_part, each_argument, same_kind, same_kinds, noted, noted_all, part_can_ask, can_ask, can_ask_all, row_holds, scope_seen, is_ready, is_reference, window_row, prefix_row, binary_row, is_certain, has_few, target_few, is_kept, is_whole_pane, takes, count_of}
use Rattle.lola_model.specs.declared.expr.Place.{Place}
use Rattle.lola_model.specs.declared.expr.Access.{Access}
use Rattle.lola_model.specs.declared.expr.Prefix.{Prefix}
use Rattle.lola_model.specs.declared.expr.Binary.{Binary}
use Rattle.lola_model.specs.declared.expr.Expr.{Expr}
use Rattle.lola_model.specs.declared.expr.Expr.TheVariants.{Read, Window, Defaults', Unary', Both', Choice'}
use Rattle.lola_model.specs.declared.expr.Arguments.{Arguments}
use Rattle.lola_model.specs.declared.expr.Arguments.TheVariants.{End, More'}
use Rattle.lola_model.specs.declared.spec.WindowSpec.{WindowSpec}
use Rattle.lola_model.specs.declared.spec.Agg.{Agg}
use Rattle.lola_model.specs.declared.spec.Agg.TheVariants as agg
use Rattle.lola_expr.proofs.Sizes.{size_of, size_all}
use Rattle.lola_expr.proofs.OperandLemmas.{first, second, integer_not_text}

-- what a box has beside what it holds
abbrev Around : Type 0
Around = Box (Unit {0}) Global

-- kinds are told apart by their numbers
kind_at : ℕ → Kind
kind_at zero = kind.Bool
kind_at (suc zero) = kind.Int8
kind_at (suc (suc zero)) = kind.Int16
kind_at (suc (suc (suc zero))) = kind.Int32
kind_at (suc (suc (suc (suc zero)))) = kind.Int64
kind_at (suc (suc (suc (suc (suc zero))))) = kind.UInt8
kind_at (suc (suc (suc (suc (suc (suc zero)))))) = kind.UInt16
kind_at (suc (suc (suc (suc (suc (suc (suc zero))))))) = kind.UInt32
kind_at (suc (suc (suc (suc (suc (suc (suc (suc zero)))))))) = kind.UInt64
kind_at _ = kind.Text

-- and come back from them
kind_back : (k : Kind) → kind_at (kind_number k) ≡ k
unfolding kind_at
kind_back kind.Bool = refl
kind_back kind.Int8 = refl
kind_back kind.Int16 = refl
kind_back kind.Int32 = refl
kind_back kind.Int64 = refl
kind_back kind.UInt8 = refl
kind_back kind.UInt16 = refl
kind_back kind.UInt32 = refl
kind_back kind.UInt64 = refl
kind_back kind.Text = refl

-- kinds that are the same are one
pub same_kind-true : (k l : Kind) → same_kind k l ≡ true → k ≡ l
same_kind-true k l h = sym (kind_back k) ∙ (ap kind_at (eqb-true (kind_number k) (kind_number l) h) ∙ kind_back l)

-- and so are lists of them
pub same_kinds-true : (ks ls : List Kind) → same_kinds ks ls ≡ true → ks ≡ ls
same_kinds-true [] [] h = refl
same_kinds-true [] (l ∷ ls) h = absurd (cc)
same_kinds-true (k ∷ ks) [] h = absurd (cc)
same_kinds-true (k ∷ ks) (l ∷ ls) h =
    let e = same_kind-true k l (first (same_kind k l) (same_kinds ks ls) h) in
    let r = same_kinds-true ks ls (second (same_kind k l) (same_kinds ks ls) h) in
    cc

-- each argument notes a kind
pub length_noted : (args : Arguments) → length (noted_all args) ≡ count_of args
length_noted End = refl
length_noted (More' u a v rest) = let e = length_noted rest in omega (arith, e)

module _ (s : Seen) (p : Params) where
  -- of a default
  pub record DefaultsFacts (e : Expr) (k : Kind) (a b : Expr) : Type 0 where
    pub left : can_ask s p a ≡ true
    pub right : can_ask s p b ≡ true
    pub left_kind : noted a ≡ k
    pub right_kind : noted b ≡ k

  pub defaults_facts : (e : Expr) (place : Place) (u v : Around) (a b : Expr) → e ≡ Defaults' place u a v b → can_ask s p e ≡ true → DefaultsFacts e (kind_of place) a b
  defaults_facts e place u v a b is g =
      let h : can_ask s p (Defaults' place u a v b) ≡ true = ap (can_ask s p) (sym is) ∙ g in
      let both = second (part_can_ask s p (Defaults' place u a v b)) (can_ask s p a && can_ask s p b) h in
      let row = first (row_holds (scope_seen s p) (Defaults' place u a v b)) true (first (part_can_ask s p (Defaults' place u a v b)) (can_ask s p a && can_ask s p b) h) in
      record {
        left = first (can_ask s p a) (can_ask s p b) both;
        right = second (can_ask s p a) (can_ask s p b) both;
        left_kind = same_kind-true (noted a) (kind_of place) (first _ _ row);
        right_kind = same_kind-true (noted b) (kind_of place) (first _ _ (second _ _ row));
      }

  -- of an operator before an operand
  pub record UnaryFacts (e : Expr) (operator : Prefix) (k : Kind) (a : Expr) : Type 0 where
    pub part : can_ask s p a ≡ true
    pub row : prefix_row operator k (noted a) ≡ true

  pub unary_facts : (e : Expr) (place : Place) (operator : Prefix) (u : Around) (a : Expr) → e ≡ Unary' place operator u a → can_ask s p e ≡ true → UnaryFacts e operator (kind_of place) a
  unary_facts e place operator u a is g =
      let h : can_ask s p (Unary' place operator u a) ≡ true = ap (can_ask s p) (sym is) ∙ g in
      let here = first (part_can_ask s p (Unary' place operator u a)) (can_ask s p a) h in
      record {
        part = second (part_can_ask s p (Unary' place operator u a)) (can_ask s p a) h;
        row = first _ _ (first (row_holds (scope_seen s p) (Unary' place operator u a)) true here);
      }

  -- of an operator between two operands
  pub record BothFacts (e : Expr) (operator : Binary) (k : Kind) (a b : Expr) : Type 0 where
    pub left : can_ask s p a ≡ true
    pub right : can_ask s p b ≡ true
    pub row : binary_row operator k (noted a) (noted b) ≡ true

  pub both_facts : (e : Expr) (place : Place) (operator : Binary) (u v : Around) (a b : Expr) → e ≡ Both' place operator u a v b → can_ask s p e ≡ true → BothFacts e operator (kind_of place) a b
  both_facts e place operator u v a b is g =
      let h : can_ask s p (Both' place operator u a v b) ≡ true = ap (can_ask s p) (sym is) ∙ g in
      let here = first (part_can_ask s p (Both' place operator u a v b)) (can_ask s p a && can_ask s p b) h in
      let parts = second (part_can_ask s p (Both' place operator u a v b)) (can_ask s p a && can_ask s p b) h in
      record {
        left = first (can_ask s p a) (can_ask s p b) parts;
        right = second (can_ask s p a) (can_ask s p b) parts;
        row = first (binary_row operator (kind_of place) (noted a) (noted b)) (is_certain s.layout.windows a && is_certain s.layout.windows b) (first (row_holds (scope_seen s p) (Both' place operator u a v b)) true here);
      }

  -- of a choice
  pub record ChoiceFacts (e : Expr) (k : Kind) (a b d : Expr) : Type 0 where
    pub test : can_ask s p a ≡ true
    pub left : can_ask s p b ≡ true
    pub right : can_ask s p d ≡ true
    pub test_kind : noted a ≡ kind.Bool
    pub left_kind : noted b ≡ k
    pub right_kind : noted d ≡ k

  pub choice_facts : (e : Expr) (place : Place) (u v w : Around) (a b d : Expr) → e ≡ Choice' place u a v b w d → can_ask s p e ≡ true → ChoiceFacts e (kind_of place) a b d
  choice_facts e place u v w a b d is g =
      let h : can_ask s p (Choice' place u a v b w d) ≡ true = ap (can_ask s p) (sym is) ∙ g in
      let here = first (part_can_ask s p (Choice' place u a v b w d)) (can_ask s p a && (can_ask s p b && can_ask s p d)) h in
      let parts = second (part_can_ask s p (Choice' place u a v b w d)) (can_ask s p a && (can_ask s p b && can_ask s p d)) h in
      let branches = second (can_ask s p a) (can_ask s p b && can_ask s p d) parts in
      let row = first (row_holds (scope_seen s p) (Choice' place u a v b w d)) true here in
      let kinds = first (same_kind (noted b) (kind_of place) && same_kind (noted d) (kind_of place)) _ (second (same_kind (noted a) kind.Bool) _ row) in
      record {
        test = first (can_ask s p a) (can_ask s p b && can_ask s p d) parts;
        left = first (can_ask s p b) (can_ask s p d) branches;
        right = second (can_ask s p b) (can_ask s p d) branches;
        test_kind = same_kind-true (noted a) kind.Bool (first (same_kind (noted a) kind.Bool) _ row);
        left_kind = same_kind-true (noted b) (kind_of place) (first (same_kind (noted b) (kind_of place)) (same_kind (noted d) (kind_of place)) kinds);
        right_kind = same_kind-true (noted d) (kind_of place) (second (same_kind (noted b) (kind_of place)) (same_kind (noted d) (kind_of place)) kinds);
      }

  -- a reference whose arguments can be gathered
  pub record ReferenceFacts (n : ℕ) (args : Arguments) : Type 0 where
    pub stream : n < length s.layout.streams
    pub kinds : noted_all args ≡ parameters_of (slice_get s.layout.streams n)
    pub few : count_of args ≤ 4

  -- it follows from the row and from what the store has
  reference_facts : (n : ℕ) (args : Arguments) → is_reference s.layout.streams n args ≡ true → has_few (slice_get s.layout.streams n) ≡ true → ReferenceFacts n args
  reference_facts n args h f =
      let e = same_kinds-true (noted_all args) (parameters_of (slice_get s.layout.streams n)) (second (nat_lt n (length s.layout.streams)) _ h) in
      let l = length_noted args in
      let m : length (noted_all args) ≡ length (parameters_of (slice_get s.layout.streams n)) = ap length e in
      let b : length (parameters_of (slice_get s.layout.streams n)) ≤ 4 = grind (arith, f) in
      record {
        stream = ltb-true n (length s.layout.streams) (first (nat_lt n (length s.layout.streams)) _ h);
        kinds = e;
        few = omega (arith, l, m, b);
      }

  -- of an access
  pub record ReadFacts (e : Expr) (n : ℕ) (how : Access) (k : Kind) (args : Arguments) : Type 0 where
    pub less : size_all args < size_of e
    pub arguments : can_ask_all s p args ≡ true
    pub reference : ReferenceFacts n args
    pub kind : kind_in (slice_get s.layout.streams n) ≡ k
    pub kept : is_kept (slice_get s.layout.streams n) how ≡ true

  pub read_facts : (e : Expr) (place : Place) (n : ℕ) (how : Access) (args : Arguments) → e ≡ Read place n how args → can_ask s p e ≡ true → ReadFacts e n how (kind_of place) args
  read_facts e place n how args is g =
      let h : can_ask s p (Read place n how args) ≡ true = ap (can_ask s p) (sym is) ∙ g in
      let z : size_of e ≡ size_of (Read place n how args) = ap size_of is in
      let here = first (part_can_ask s p (Read place n how args)) (can_ask_all s p args) h in
      let row = first (row_holds (scope_seen s p) (Read place n how args)) (is_ready s (Read place n how args)) here in
      let ready = second (row_holds (scope_seen s p) (Read place n how args)) (is_ready s (Read place n how args)) here in
      record {
        less = omega (arith, z);
        arguments = second (part_can_ask s p (Read place n how args)) (can_ask_all s p args) h;
        reference = reference_facts n args (first (is_reference s.layout.streams n args) _ row) (first (has_few (slice_get s.layout.streams n)) _ ready);
        kind = same_kind-true (kind_in (slice_get s.layout.streams n)) (kind_of place) (second (is_reference s.layout.streams n args) _ row);
        kept = second (has_few (slice_get s.layout.streams n)) _ ready;
      }

  -- an aggregation gives no text
  takes_no_text : (a : Agg) (k : Kind) → takes a k ≡ true → is_text (gives_kind a k) ≡ false
  takes_no_text agg.Count k h = refl
  takes_no_text agg.Sum k h = integer_not_text k h
  takes_no_text agg.Min k h = integer_not_text k h
  takes_no_text agg.Max k h = integer_not_text k h
  takes_no_text agg.Avg k h = integer_not_text k h
  takes_no_text agg.Forall k h = refl
  takes_no_text agg.Exists k h = refl

  -- of a window
  pub record WindowFacts (e : Expr) (number : ℕ) (k : Kind) (args : Arguments) : Type 0 where
    pub less : size_all args < size_of e
    pub arguments : can_ask_all s p args ≡ true
    pub window : number < length s.layout.windows
    pub reference : ReferenceFacts (target_of (slice_get s.layout.windows number)) args
    pub whole : is_whole_pane s (pane_of (slice_get s.layout.panes number)) ≡ true
    pub kind : window_kind s number ≡ k
    pub no_text : is_text k ≡ false

  -- what is found stands within the list
  window_there : {A : Type 0} (xs : List A) (i : ℕ) (x : A) → slice_get xs i ≡ Some x → i < length xs
  window_there [] i x e = absurd (cc)
  window_there (y ∷ ys) zero x e = omega arith
  window_there (y ∷ ys) (suc i) x e = let h = window_there ys i x e in omega (arith, h)

  -- by what stands at the number of the window
  of_window : (x : Expr) (number : ℕ) (k : Kind) (args : Arguments) (o : Option WindowSpec) → slice_get s.layout.windows number ≡ o
      → window_row s.layout.streams o k args ≡ true → target_few s.layout.streams o ≡ true → can_ask_all s p args ≡ true → is_whole_pane s (pane_of (slice_get s.layout.panes number)) ≡ true → size_all args < size_of x
      → WindowFacts x number k args
  of_window x number k args None e row few asks whole less = absurd (cc)
  of_window x number k args (Some w) e row few asks whole less =
      let r = first (is_reference s.layout.streams w.target args) _ row in
      let t = second (is_reference s.layout.streams w.target args) _ row in
      let g = same_kind-true (gives_kind w.using (kind_in (slice_get s.layout.streams w.target))) k (second (takes w.using (kind_in (slice_get s.layout.streams w.target))) _ t) in
      record {
        less = less;
        arguments = asks;
        window = window_there s.layout.windows number w e;
        reference = subst (λ (o : Option WindowSpec). ReferenceFacts (target_of o) args) (sym e) (reference_facts w.target args r few);
        whole = whole;
        kind = subst (λ (o : Option WindowSpec). Rattle.lola_model.specs.Store.window_kind_of s o ≡ k) (sym e) g;
        no_text = subst (λ (j : Kind). is_text j ≡ false) g (takes_no_text w.using (kind_in (slice_get s.layout.streams w.target)) (first (takes w.using (kind_in (slice_get s.layout.streams w.target))) _ t));
      }

  pub window_facts : (e : Expr) (place : Place) (number : ℕ) (args : Arguments) → e ≡ Window place number args → can_ask s p e ≡ true → WindowFacts e number (kind_of place) args
  window_facts e place number args is g =
      let h : can_ask s p (Window place number args) ≡ true = ap (can_ask s p) (sym is) ∙ g in
      let here = first (part_can_ask s p (Window place number args)) (can_ask_all s p args) h in
      let row = first (row_holds (scope_seen s p) (Window place number args)) (is_ready s (Window place number args)) here in
      let ready = second (row_holds (scope_seen s p) (Window place number args)) (is_ready s (Window place number args)) here in
      let z : size_of e ≡ size_of (Window place number args) = ap size_of is in
      of_window e number (kind_of place) args (slice_get s.layout.windows number) refl row
      (first (target_few s.layout.streams (slice_get s.layout.windows number)) _ ready)
      (second (part_can_ask s p (Window place number args)) (can_ask_all s p args) h)
      (second (target_few s.layout.streams (slice_get s.layout.windows number)) _ ready)
      (omega (arith, z))

-- the parts of an expression all of whose parts pass a test
module _ (f : Expr → Bool) where
  -- of an access
  pub each_read : (e : Expr) (place : Place) (n : ℕ) (how : Access) (args : Arguments) → e ≡ Read place n how args → each_part f e ≡ true → each_argument f args ≡ true
  each_read e place n how args is g = second (f (Read place n how args)) (each_argument f args) (ap (each_part f) (sym is) ∙ g)

  -- of a window
  pub each_window : (e : Expr) (place : Place) (n : ℕ) (args : Arguments) → e ≡ Window place n args → each_part f e ≡ true → each_argument f args ≡ true
  each_window e place n args is g = second (f (Window place n args)) (each_argument f args) (ap (each_part f) (sym is) ∙ g)

  -- of a default
  pub each_defaults : (e : Expr) (place : Place) (u v : Around) (a b : Expr) → e ≡ Defaults' place u a v b → each_part f e ≡ true → (each_part f a ≡ true) × (each_part f b ≡ true)
  each_defaults e place u v a b is g =
      let h = second (f (Defaults' place u a v b)) (each_part f a && each_part f b) (ap (each_part f) (sym is) ∙ g) in
      (first (each_part f a) (each_part f b) h, second (each_part f a) (each_part f b) h)

  -- of an operator between two operands
  pub each_both : (e : Expr) (place : Place) (operator : Binary) (u v : Around) (a b : Expr) → e ≡ Both' place operator u a v b → each_part f e ≡ true → (each_part f a ≡ true) × (each_part f b ≡ true)
  each_both e place operator u v a b is g =
      let h = second (f (Both' place operator u a v b)) (each_part f a && each_part f b) (ap (each_part f) (sym is) ∙ g) in
      (first (each_part f a) (each_part f b) h, second (each_part f a) (each_part f b) h)

  -- of a choice
  pub each_choice : (e : Expr) (place : Place) (u v w : Around) (a b d : Expr) → e ≡ Choice' place u a v b w d → each_part f e ≡ true → (each_part f a ≡ true) × (each_part f b ≡ true) × (each_part f d ≡ true)
  each_choice e place u v w a b d is g =
      let h = second (f (Choice' place u a v b w d)) (each_part f a && (each_part f b && each_part f d)) (ap (each_part f) (sym is) ∙ g) in
      let k = second (each_part f a) (each_part f b && each_part f d) h in
      (first (each_part f a) (each_part f b && each_part f d) h, first (each_part f b) (each_part f d) k, second (each_part f b) (each_part f d) k)

  -- of arguments
  pub each_more : (e : Arguments) (u v : Around) (a : Expr) (rest : Arguments) → e ≡ More' u a v rest → each_argument f e ≡ true → (each_part f a ≡ true) × (each_argument f rest ≡ true)
  each_more e u v a rest is g =
      let h : (each_part f a && each_argument f rest) ≡ true = ap (each_argument f) (sym is) ∙ g in
      (first (each_part f a) (each_argument f rest) h, second (each_part f a) (each_argument f rest) h)
