-- What of a plan's names and kinds makes its windows storable.
use Rattle.std.proofs.Common.{◌≡◌, refl, sym, subst, ℕ, zero, suc, ◌+◌, ◌<◌, List, [], ◌∷◌, ◌++◌, Option, Some, None, Bool, true, false, ◌&&◌, arith, length, drop, slice_get, unwrap_or, IsTrue, inl, inr}
use Rattle.std.specs.List.{Contains}
use Rattle.std.proofs.lemmas.List.Elements.{Contains-append_cases}
use Rattle.lola_value.specs.declared.value.Kind.{Kind}
use Rattle.lola_value.specs.declared.value.Kind.TheVariants as kind
use Rattle.lola_model.proofs.Strictly.{Contains-here, Contains-there, Contains-none, Contains-cases}
use Rattle.lola_model.specs.Named.{IsNamed, counted, window_number}
use Rattle.lola_model.specs.Parts.{listed, listed_all, listed_when, listed_with, listed_clause, listed_stream, listed_streams}
use Rattle.lola_model.specs.Store.{StreamLayout, gives_kind, kind_in, layouts_from}
use Rattle.lola_model.specs.Typed.{IsTyped, scope_in, whole_is_typed}
use Rattle.lola_model.specs.Typing.{Scope, each_part, each_argument, is_certain, is_noted, is_reference, is_typed, noted, part_is_typed, row_holds, same_kind, takes, target_in, window_row}
use Rattle.lola_model.specs.Wholes.{Whole, condition_wholes, with_wholes, clause_wholes, stream_wholes, wholes_from, noted_kinds, all_wholes}
use Rattle.lola_model.specs.declared.pacing.ClausePacings.{ClausePacings}
use Rattle.lola_model.specs.declared.expr.Arguments.{Arguments}
use Rattle.lola_model.specs.declared.expr.Arguments.TheVariants.{End, More'}
use Rattle.lola_model.specs.declared.expr.Expr.{Expr}
use Rattle.lola_model.specs.declared.expr.Expr.TheVariants.{Literal, Parameter, Read, Window, Defaults', Unary', Both', Choice'}
use Rattle.lola_model.specs.declared.spec.Clause.{Clause}
use Rattle.lola_model.specs.declared.spec.Part.{Part}
use Rattle.lola_model.specs.declared.spec.Part.TheVariants as part
use Rattle.lola_model.specs.declared.spec.Spec.{Spec}
use Rattle.lola_model.specs.declared.spec.Stream.{Stream}
use Rattle.lola_model.specs.declared.spec.WindowSpec.{WindowSpec}
use Rattle.lola_instances_stream.specs.Each.{Each}

first : (a b : Bool) → (a && b) ≡ true → a ≡ true
first true b h = refl
first false b h = absurd (cc)

second : (a b : Bool) → (a && b) ≡ true → b ≡ true
second true b h = h
second false b h = absurd (cc)

-- numbers in order have each number
has_number : (from n k i : ℕ) → k < n → i ≡ from + k → Contains (counted from n) i
has_number from zero k i lt e = absurd (omega arith)
has_number from (suc n) zero i lt e = let same : from ≡ i = omega arith in subst (λ (j : ℕ). Contains (from ∷ counted (from + 1) n) j) same (Contains-here from (counted (from + 1) n))
has_number from (suc n) (suc k) i lt e = Contains-there from i (counted (from + 1) n) (has_number (from + 1) n k i (omega arith) (omega arith))

below_length : {X : Type 0} (xs : List X) (k : ℕ) (x : X) → slice_get xs k ≡ Some x → k < length xs
below_length [] k x e = absurd (cc)
below_length (y ∷ ys) zero x e = omega arith
below_length (y ∷ ys) (suc k) x e = let lt = below_length ys k x e in omega arith

-- the row of some reading of window i holds
abbrev HasRow : List StreamLayout → List WindowSpec → ℕ → Type 0
HasRow streams windows i = (k : Kind) × (args : Arguments) × (window_row streams (slice_get windows i) k args ≡ true)

-- in an expression

module _ (s : Scope) (i : ℕ) where
  abbrev test : Expr → Bool
  test e = part_is_typed s e

  abbrev Found : Type 0
  Found = HasRow s.streams s.windows i

  mutual
    in_expr : (e : Expr) → each_part test e ≡ true → Contains (listed window_number e) i → Found
    in_expr (Literal place v) h c = absurd (Contains-none i c)
    in_expr (Parameter place j) h c = absurd (Contains-none i c)
    in_expr (Read place n how args) h c = in_all args (second (test (Read place n how args)) (each_argument test args) h) c
    in_expr (Window place w args) h c =
        let row = second (is_noted place.kind) (row_holds s (Window place w args)) (first (test (Window place w args)) (each_argument test args) h) in
        let rest = in_all args (second (test (Window place w args)) (each_argument test args) h) in
        elim (Contains-cases w i (listed_all window_number args) c) [
          | inl e ↦ (noted (Window place w args), args, subst (λ (j : ℕ). window_row s.streams (slice_get s.windows j) (noted (Window place w args)) args ≡ true) e row)
          | inr d ↦ rest d
        ]
    in_expr (Defaults' place u a v b) h c =
        let t = second (test (Defaults' place u a v b)) (each_part test a && each_part test b) h in
        let one = in_expr a (first (each_part test a) (each_part test b) t) in
        let two = in_expr b (second (each_part test a) (each_part test b) t) in
        elim (Contains-append_cases (listed window_number a) (listed window_number b) i c) [ inl x ↦ one x | inr y ↦ two y ]
    in_expr (Unary' place operator u a) h c = in_expr a (second (test (Unary' place operator u a)) (each_part test a) h) c
    in_expr (Both' place operator u a v b) h c =
        let t = second (test (Both' place operator u a v b)) (each_part test a && each_part test b) h in
        let one = in_expr a (first (each_part test a) (each_part test b) t) in
        let two = in_expr b (second (each_part test a) (each_part test b) t) in
        elim (Contains-append_cases (listed window_number a) (listed window_number b) i c) [ inl x ↦ one x | inr y ↦ two y ]
    in_expr (Choice' place u a v b w d) h c =
        let t = second (test (Choice' place u a v b w d)) (each_part test a && (each_part test b && each_part test d)) h in
        let r = second (each_part test a) (each_part test b && each_part test d) t in
        let one = in_expr a (first (each_part test a) (each_part test b && each_part test d) t) in
        let two = in_expr b (first (each_part test b) (each_part test d) r) in
        let three = in_expr d (second (each_part test b) (each_part test d) r) in
        elim (Contains-append_cases (listed window_number a) (listed window_number b ++ listed window_number d) i c) [
          | inl x ↦ one x
          | inr y ↦ (elim (Contains-append_cases (listed window_number b) (listed window_number d) i y) [ inl x ↦ two x | inr z ↦ three z ])
        ]

    in_all : (args : Arguments) → each_argument test args ≡ true → Contains (listed_all window_number args) i → Found
    in_all End h c = absurd (Contains-none i c)
    in_all (More' u a v rest) h c =
        let one = in_expr a (first (each_part test a) (each_argument test rest) h) in
        let others = in_all rest (second (each_part test a) (each_argument test rest) h) in
        elim (Contains-append_cases (listed window_number a) (listed_all window_number rest) i c) [ inl x ↦ one x | inr y ↦ others y ]

-- whole expressions

module _ (f : Whole → Bool) where
  wholes_left : (xs ys : List Whole) → all_wholes f (xs ++ ys) ≡ true → all_wholes f xs ≡ true
  wholes_left [] ys h = refl
  wholes_left (x ∷ xs) ys h =
      let one = first (f x) (all_wholes f (xs ++ ys)) h in
      let others = wholes_left xs ys (second (f x) (all_wholes f (xs ++ ys)) h) in
      rw (one, others) refl

  wholes_right : (xs ys : List Whole) → all_wholes f (xs ++ ys) ≡ true → all_wholes f ys ≡ true
  wholes_right [] ys h = h
  wholes_right (x ∷ xs) ys h = wholes_right xs ys (second (f x) (all_wholes f (xs ++ ys)) h)

module _ (spec : Spec) (i : ℕ) where
  abbrev typed : Whole → Bool
  typed w = whole_is_typed spec w

  abbrev Row : Type 0
  Row = HasRow (layouts_from spec.streams [] []) spec.windows i

  in_whole : (w : Whole) → typed w ≡ true → Contains (listed window_number w.expr) i → Row
  in_whole w h c =
      let s = scope_in spec w.parameters in
      in_expr s i w.expr (first (is_typed s w.expr) (same_kind (noted w.expr) w.want && is_certain s.windows w.expr) h) c

  in_when : (n : ℕ) (p : Part) (ks : List Kind) (at : ℕ) (o : Option Expr) → all_wholes typed (condition_wholes n p ks at o) ≡ true → Contains (listed_when window_number o) i → Row
  in_when n p ks at None h c = absurd (Contains-none i c)
  in_when n p ks at (Some e) h c =
      let w : Whole = record { stream = n; clause = p; parameters = ks; want = kind.Bool; before = at; expr = e } in
      in_whole w (first (typed w) true h) c

  in_with : (n : ℕ) (p : Part) (ks wants : List Kind) (ats : List ℕ) (es : List Expr) → all_wholes typed (with_wholes n p ks wants ats es) ≡ true → Contains (listed_with window_number es) i → Row
  in_with n p ks wants ats [] h c = absurd (Contains-none i c)
  in_with n p ks wants ats (e ∷ es) h c =
      let w : Whole = record { stream = n; clause = p; parameters = ks; want = unwrap_or (slice_get wants 0) kind.Int64; before = unwrap_or (slice_get ats 0) 0; expr = e } in
      let others = all_wholes typed (with_wholes n p ks (drop 1 wants) (drop 1 ats) es) in
      let one = in_whole w (first (typed w) others h) in
      let rest = in_with n p ks (drop 1 wants) (drop 1 ats) es (second (typed w) others h) in
      elim (Contains-append_cases (listed window_number e) (listed_with window_number es) i c) [ inl a ↦ one a | inr b ↦ rest b ]

  in_clause : (n : ℕ) (p : Part) (ks wants : List Kind) (o : Option Clause) → all_wholes typed (clause_wholes n p ks wants o) ≡ true → Contains (listed_clause window_number o) i → Row
  in_clause n p ks wants None h c = absurd (Contains-none i c)
  in_clause n p ks wants (Some k) h c =
      let xs = condition_wholes n p ks k.when_at k.when in
      let ys = with_wholes n p ks wants k.with_at k.with in
      let when = in_when n p ks k.when_at k.when (wholes_left typed xs ys h) in
      let with = in_with n p ks wants k.with_at k.with (wholes_right typed xs ys h) in
      elim (Contains-append_cases (listed_when window_number k.when) (listed_with window_number k.with) i c) [ inl a ↦ when a | inr b ↦ with b ]

  in_stream : (n : ℕ) (s : Stream) (k : Kind) → all_wholes typed (stream_wholes n s k) ≡ true → Contains (listed_stream window_number s) i → Row
  in_stream n s k h c =
      let xs = clause_wholes n part.Spawn [] s.parameters s.spawn in
      let ys = clause_wholes n part.Eval s.parameters (k ∷ []) s.eval in
      let zs = clause_wholes n part.Close s.parameters [] s.close in
      let r = wholes_right typed xs (ys ++ zs) h in
      let spawn = in_clause n part.Spawn [] s.parameters s.spawn (wholes_left typed xs (ys ++ zs) h) in
      let eval = in_clause n part.Eval s.parameters (k ∷ []) s.eval (wholes_left typed ys zs r) in
      let close = in_clause n part.Close s.parameters [] s.close (wholes_right typed ys zs r) in
      elim (Contains-append_cases (listed_clause window_number s.spawn) (listed_clause window_number s.eval ++ listed_clause window_number s.close) i c) [
        | inl a ↦ spawn a
        | inr b ↦ (elim (Contains-append_cases (listed_clause window_number s.eval) (listed_clause window_number s.close) i b) [ inl a ↦ eval a | inr q ↦ close q ])
      ]

  in_streams : (n : ℕ) (ss : List Stream) (kinds : List (Option Kind)) → all_wholes typed (wholes_from n ss kinds) ≡ true → Contains (listed_streams window_number ss) i → Row
  in_streams n [] kinds h c = absurd (Contains-none i c)
  in_streams n (s ∷ ss) kinds h c =
      let k = unwrap_or (unwrap_or (slice_get kinds 0) None) kind.Int64 in
      let xs = stream_wholes n s k in
      let ys = wholes_from (n + 1) ss (drop 1 kinds) in
      let one = in_stream n s k (wholes_left typed xs ys h) in
      let rest = in_streams (n + 1) ss (drop 1 kinds) (wholes_right typed xs ys h) in
      elim (Contains-append_cases (listed_stream window_number s) (listed_streams window_number ss) i c) [ inl a ↦ one a | inr b ↦ rest b ]

-- how many values are kept, and when clauses are evaluated, changes no kind
same_kinds_in : (ss : List Stream) (kept others : List ℕ) (pacings moments : List ClausePacings) (i : ℕ) → kind_in (slice_get (layouts_from ss kept pacings) i) ≡ kind_in (slice_get (layouts_from ss others moments) i)
same_kinds_in [] kept others pacings moments i = refl
same_kinds_in (s ∷ ss) kept others pacings moments zero = refl
same_kinds_in (s ∷ ss) kept others pacings moments (suc i) = same_kinds_in ss (drop 1 kept) (drop 1 others) (drop 1 pacings) (drop 1 moments) i

-- a window whose row holds takes its target's kind
takes_of : (streams : List StreamLayout) (o : Option WindowSpec) (w : WindowSpec) (k : Kind) (args : Arguments) → o ≡ Some w → window_row streams o k args ≡ true
    → takes w.using (kind_in (slice_get streams w.target)) ≡ true
takes_of streams None w k args e h = absurd (cc)
takes_of streams (Some v) w k args e h =
    let same : v ≡ w = cc in
    let t = kind_in (target_in streams v) in
    let r = second (is_reference streams v.target args) (takes v.using t && same_kind (gives_kind v.using t) k) h in
    subst (λ (x : WindowSpec). takes x.using (kind_in (slice_get streams x.target)) ≡ true) same (first (takes v.using t) (same_kind (gives_kind v.using t) k) r)

-- each window's target has a kind that its aggregation takes, as names and kinds promise
pub taken_of : (spec : Spec) (kept : List ℕ) (pacings : List ClausePacings) → IsNamed spec → IsTyped spec
    → Each (λ (w : WindowSpec). IsTrue (takes w.using (kind_in (slice_get (layouts_from spec.streams kept pacings) w.target)))) spec.windows
taken_of spec kept pacings named typed i w e =
    let number = has_number 0 (length spec.windows) i i (below_length spec.windows i w e) (omega arith) in
    let numbered = subst (λ (ns : List ℕ). Contains ns i) (sym named.window_numbers) number in
    let row = in_streams spec i 0 spec.streams (noted_kinds spec.streams) typed.typed numbered in
    let taken = takes_of (layouts_from spec.streams [] []) (slice_get spec.windows i) w row.0 row.1 e row.2 in
    subst (λ (k : Kind). takes w.using k ≡ true) (same_kinds_in spec.streams [] kept [] pacings w.target) taken
