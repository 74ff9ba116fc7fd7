-- The tests that a resolved specification passes.
use Rattle.std.proofs.Common.{◌≡◌, ◌≤◌, ◌<◌, ℕ, ℤ, pos, negsuc, zero, suc, arith, append_assoc, ◌*◌, ◌/◌, ◌%◌, ◌^◌, refl, sym, ap, ◌∙◌, subst, Bool, true, false, ◌&&◌, List, [], ◌∷◌, ◌++◌, Option, Some, None, slice_get, length, nat_eq, nat_le, nat_lt, int_le, eq-eqb, le-leb}
use Rattle.std.specs.Prelude.{if◌then◌else◌, min}
use Rattle.std.proofs.lemmas.Bool.Decides.{nat_tests}
use Rattle.std.proofs.lemmas.Bool.{and_from, or_left, or_right}
use Rattle.lola_value.specs.Times.{latest}
use Rattle.lola_value.specs.Kinds.{values_same}
use Rattle.lola_value.specs.declared.value.Kind.{Kind}
use Rattle.lola_value.specs.declared.value.Kind.TheVariants as kind
use Rattle.lola_value.specs.declared.value.Value.{Value}
use Rattle.lola_value.specs.declared.value.Value.TheVariants as value
use Rattle.lola_parser_grammar.specs.declared.literals.Value.{Value as Written}
use Rattle.lola_parser_grammar.specs.declared.literals.Value.TheVariants as written
use Rattle.lola_parser_grammar.specs.declared.literals.Quantity.{Quantity}
use Rattle.lola_parser_grammar.specs.declared.declarations.Constant.{Constant as TreeConstant}
use Rattle.lola_parser_grammar.specs.declared.declarations.Declaration.{Declaration}
use Rattle.lola_parser_grammar.specs.declared.declarations.Declaration.TheVariants as d
use Rattle.lola_parser_grammar.specs.declared.expressions.Access.{Access as TreeAccess}
use Rattle.lola_parser_grammar.specs.declared.expressions.Access.TheVariants as a
use Rattle.lola_model.specs.Bounds.{offset_by}
use Rattle.lola_model.specs.Named.{is_resolved, all_numbers, offset_in, window_number, same_part, is_window_of, literal_text, is_span}
use Rattle.lola_model.specs.Typing.{same_kind, count_of}
use Rattle.lola_model.specs.declared.expr.Place.{Place}
use Rattle.lola_model.specs.declared.expr.Expr.TheVariants.{Literal}
use Rattle.lola_model.specs.declared.spec.Constant.{Constant}
use Rattle.lola_model.specs.declared.spec.Part.{Part}
use Rattle.lola_model.specs.declared.spec.Part.TheVariants as part
use Rattle.lola_model.specs.declared.spec.Spec.{Spec}
use Rattle.lola_model.specs.declared.spec.WindowSpec.{WindowSpec}
use Rattle.lola_names_refused.specs.Quantities.{is_short, unit_span, whole_span, span_of}
use Rattle.lola_model.specs.Constants.{is_constant, literal_is_known}
use Rattle.lola_names.specs.Resolved.{IsValue, integer_of, access_of, kind_spelled, place_at}
use Rattle.lola_names.specs.Specification.{IsConstantValue, AreConstants, constants_in, constants_of, access_ranges}
use Rattle.lola_names.proofs.Basics.{some_none, nothing_there, slice_there}
use Rattle.lola_names.proofs.Listed.{read_below}
use Rattle.lola_names.proofs.Wholes.{IsPassingEverywhere}

-- numbers

below_test : (m n : ℕ) → m < n → nat_lt m n ≡ true
below_test m n h = grind (arith, nat_tests)

nothing_above : (k : ℕ) → nat_le (min k 4096) 4096 ≡ true
nothing_above k = let h : min k 4096 ≤ 4096 = omega arith in grind (arith, nat_tests)

positive : (k : ℕ) (at : ℕ) → (if nat_eq k 0 then at ∷ [] else []) ≡ [] → 1 ≤ k
positive zero at h = some_none at [] h
positive (suc k) at h = omega arith

low_test : (k : ℕ) → 1 ≤ k → nat_le 1 (min k 4096) ≡ true
low_test k h = let g : 1 ≤ min k 4096 = omega arith in grind (arith, nat_tests)

-- lengths of time are no greater than the greatest
span_most : (q : Quantity) → span_of q ≤ latest
span_most q = short_or_none (is_short q)
  where
    whole_most : (b : Bool) (n : ℕ) → (b ≡ true → n ≤ latest) → (if b then n else 0) ≤ latest
    whole_most true n h = h refl
    whole_most false n h = omega arith

    within : (b : Bool) (n : ℕ) → (b && nat_le n latest) ≡ true → n ≤ latest
    within true n h = grind (arith, nat_tests)
    within false n h = absurd (cc)

    short_or_none : (b : Bool) → (if b then whole_span (q.digits * unit_span q.unit) (10 ^ q.decimals) else 0) ≤ latest
    short_or_none false = omega arith
    short_or_none true =
        let n = q.digits * unit_span q.unit in
        let parts = 10 ^ q.decimals in
        whole_most (nat_eq (n % parts) 0 && nat_le (n / parts) latest) (n / parts) (within (nat_eq (n % parts) 0) (n / parts))

same_part_self : (p : Part) → same_part p p ≡ true
same_part_self part.Spawn = refl
same_part_self part.Eval = refl
same_part_self part.Close = refl

abbrev pub is_span_if : Option WindowSpec → Bool
is_span_if None = false
is_span_if (Some w) = is_span w

abbrev pub has_target_if : ℕ → Option WindowSpec → Bool
has_target_if streams None = false
has_target_if streams (Some w) = nat_lt w.target streams

-- constants

same_kind_self : (k : Kind) → same_kind k k ≡ true
same_kind_self kind.Bool = refl
same_kind_self kind.Int8 = refl
same_kind_self kind.Int16 = refl
same_kind_self kind.Int32 = refl
same_kind_self kind.Int64 = refl
same_kind_self kind.UInt8 = refl
same_kind_self kind.UInt16 = refl
same_kind_self kind.UInt32 = refl
same_kind_self kind.UInt64 = refl
same_kind_self kind.Text = refl

number_self : (z : ℤ) → (int_le z z && int_le z z) ≡ true
number_self (pos m) = rw (le-leb m m (omega arith)) refl
number_self (negsuc m) = rw (le-leb m m (omega arith)) refl

module _ (texts : List (List ℕ)) where
  -- the value of a constant and of a literal that stands for it
  value_of_constant : (w : Written) (v u : Value) → IsConstantValue texts w v → IsValue texts w u → values_same v u ≡ true
  value_of_constant (written.Integer is_negative n) v u h k = rw h (rw k (number_self (integer_of is_negative n)))
  value_of_constant (written.Truth true) v u h k = rw h (rw k refl)
  value_of_constant (written.Truth false) v u h k = rw h (rw k refl)
  value_of_constant (written.Text t) (value.Text i) (value.Text j) h k = eq-eqb i.0 j.0 (sym (h.0 j.0 k))
  value_of_constant (written.Text t) (value.Bool x) u h k = absurd h
  value_of_constant (written.Text t) (value.Int x) u h k = absurd h
  value_of_constant (written.Text t) (value.Text i) (value.Bool x) h k = absurd k
  value_of_constant (written.Text t) (value.Text i) (value.Int x) h k = absurd k

  constant_known : (x : TreeConstant) (before after : List TreeConstant) (cs : List Constant) (v : Value) → AreConstants texts (before ++ x ∷ after) cs → IsValue texts x.literal.value v → is_constant cs (kind_spelled x.kind) v ≡ true
  constant_known x [] after [] v h k = absurd h
  constant_known x [] after (c ∷ cs) v h k =
      or_left (same_kind c.kind (kind_spelled x.kind) && values_same c.literal v) (is_constant cs (kind_spelled x.kind) v)
      (and_from (same_kind c.kind (kind_spelled x.kind)) (values_same c.literal v) (rw (h.0.kind) (same_kind_self (kind_spelled x.kind))) (value_of_constant x.literal.value c.literal v h.0.literal k))
  constant_known x (y ∷ before) after [] v h k = absurd h
  constant_known x (y ∷ before) after (c ∷ cs) v h k =
      or_right (same_kind c.kind (kind_spelled x.kind) && values_same c.literal v) (is_constant cs (kind_spelled x.kind) v) (constant_known x before after cs v h.1 k)

  -- a constant that is declared has its place among the constants
  pub declared_known : (ds : List Declaration) (i : ℕ) (x : TreeConstant) (cs : List Constant) (v : Value) → slice_get ds i ≡ Some (d.Constant x) → AreConstants texts (constants_of ds) cs → IsValue texts x.literal.value v
      → is_constant cs (kind_spelled x.kind) v ≡ true
  declared_known ds i x cs v there h k =
      let split = split_at ds i x there in
      constant_known x split.0 split.1 cs v (subst (λ l. AreConstants texts l cs) split.2 h) k
    where
      split_at : (ds : List Declaration) (i : ℕ) (x : TreeConstant) → slice_get ds i ≡ Some (d.Constant x) → (before : List TreeConstant) × (after : List TreeConstant) × (constants_of ds ≡ before ++ x ∷ after)
      split_at [] i x h = nothing_there (d.Constant x) h
      split_at (y ∷ ds) zero x h = let e : y ≡ d.Constant x = cc in ([], constants_of ds, ap (λ z. constants_in z ++ constants_of ds) e)
      split_at (y ∷ ds) (suc i) x h =
          let rest = split_at ds i x h in
          (constants_in y ++ rest.0, rest.1, ap (λ l. constants_in y ++ l) rest.2 ∙ sym (append_assoc (constants_in y) rest.0 (x ∷ rest.1)))

-- the tests

module _ (ds : List Declaration) (inputs : ℕ) (spec : Spec) (G : Type 0) where
  -- references are resolved
  pub resolved_test : IsPassingEverywhere ds spec.streams inputs spec.texts spec.windows G (λ n p k. is_resolved spec k)
  resolved_test n p k ps = record {
    literal = λ at w v h. refl;
    constant = λ at i c v there h. refl;
    parameter = λ place i h. below_test i k h;
    read = λ place m how args there ranged. there;
    window = λ place w m args over exactly using there ranged is. rw is there;
    defaults = λ place u s v r. refl;
    unary = λ place op u s. refl;
    binary = λ place op u s v r. refl;
    choice = λ place u s v r w q. refl;
  }

  -- offsets are at most 4,096
  pub offset_test : IsPassingEverywhere ds spec.streams inputs spec.texts spec.windows G (λ n p k e. all_numbers (λ i. nat_le i 4096) (offset_in e))
  offset_test n p k ps = record {
    literal = λ at w v h. refl;
    constant = λ at i c v there h. refl;
    parameter = λ place i h. refl;
    read = λ place m how args there ranged. by_access how;
    window = λ place w m args over exactly using there ranged is. refl;
    defaults = λ place u s v r. refl;
    unary = λ place op u s. refl;
    binary = λ place op u s v r. refl;
    choice = λ place u s v r w q. refl;
  }
    where
      by_access : (how : TreeAccess) → all_numbers (λ i. nat_le i 4096) (offset_by (access_of how)) ≡ true
      by_access (a.Offset point i at) = and_from (nat_le (min i 4096) 4096) true (nothing_above i) refl
      by_access a.Direct = refl
      by_access (a.Hold point) = refl
      by_access (a.Get point) = refl
      by_access (a.Window point exactly over using) = refl

  -- windows stand in the clause that they say
  pub place_test : IsPassingEverywhere ds spec.streams inputs spec.texts spec.windows G (λ n p k e. all_numbers (λ i. is_window_of n p (slice_get spec.windows i)) (window_number e))
  place_test n p k ps = record {
    literal = λ at w v h. refl;
    constant = λ at i c v there h. refl;
    parameter = λ place i h. refl;
    read = λ place m how args there ranged. refl;
    window = λ place w m args over exactly using there ranged is.
        and_from (is_window_of n p (slice_get spec.windows w)) true (rw is (and_from (nat_eq n n) (same_part p p) (eq-eqb n n refl) (same_part_self p))) refl;
    defaults = λ place u s v r. refl;
    unary = λ place op u s. refl;
    binary = λ place op u s v r. refl;
    choice = λ place u s v r w q. refl;
  }

  -- targets of windows are streams
  pub target_test : IsPassingEverywhere ds spec.streams inputs spec.texts spec.windows G (λ n p k e. all_numbers (λ i. has_target_if (length spec.streams) (slice_get spec.windows i)) (window_number e))
  target_test n p k ps = record {
    literal = λ at w v h. refl;
    constant = λ at i c v there h. refl;
    parameter = λ place i h. refl;
    read = λ place m how args there ranged. refl;
    window = λ place w m args over exactly using there ranged is.
        and_from (has_target_if (length spec.streams) (slice_get spec.windows w)) true (rw is (below_test m (length spec.streams) (read_below spec.streams m (count_of args) there))) refl;
    defaults = λ place u s v r. refl;
    unary = λ place op u s. refl;
    binary = λ place op u s v r. refl;
    choice = λ place u s v r w q. refl;
  }

  -- numbers of texts are in the list
  pub text_test : IsPassingEverywhere ds spec.streams inputs spec.texts spec.windows G (λ n p k e. all_numbers (λ i. nat_lt i (length spec.texts)) (literal_text e))
  text_test n p k ps = record {
    literal = λ at w v h. by_value (place_at at) w v h;
    constant = λ at i c v there h. by_value (record { at = at; kind = Some (kind_spelled c.kind) }) c.literal.value v h;
    parameter = λ place i h. refl;
    read = λ place m how args there ranged. refl;
    window = λ place w m args over exactly using there ranged is. refl;
    defaults = λ place u s v r. refl;
    unary = λ place op u s. refl;
    binary = λ place op u s v r. refl;
    choice = λ place u s v r w q. refl;
  }
    where
      by_value : (place : Place) (w : Written) (v : Value) → IsValue spec.texts w v → all_numbers (λ i. nat_lt i (length spec.texts)) (literal_text (Literal place v)) ≡ true
      by_value place (written.Integer is_negative n) v h = rw h refl
      by_value place (written.Truth t) v h = rw h refl
      by_value place (written.Text t) (value.Text i) h = and_from (nat_lt i.0 (length spec.texts)) true (below_test i.0 (length spec.texts) (slice_there spec.texts i.0 t h)) refl
      by_value place (written.Text t) (value.Bool x) h = absurd h
      by_value place (written.Text t) (value.Int x) h = absurd h

  -- literals whose kind is noted are constants'
  pub constant_test : AreConstants spec.texts (constants_of ds) spec.constants → IsPassingEverywhere ds spec.streams inputs spec.texts spec.windows G (λ n p k. literal_is_known spec.constants)
  constant_test are n p k ps = record {
    literal = λ at w v h. refl;
    constant = λ at i c v there h. declared_known spec.texts ds i c spec.constants v there are h;
    parameter = λ place i h. refl;
    read = λ place m how args there ranged. refl;
    window = λ place w m args over exactly using there ranged is. refl;
    defaults = λ place u s v r. refl;
    unary = λ place op u s. refl;
    binary = λ place op u s v r. refl;
    choice = λ place u s v r w q. refl;
  }

  -- where what is out of range is refused, offsets are 1 and more
  pub low_offset_test : G → IsPassingEverywhere ds spec.streams inputs spec.texts spec.windows G (λ n p k e. all_numbers (λ i. nat_le 1 i) (offset_in e))
  low_offset_test g n p k ps = record {
    literal = λ at w v h. refl;
    constant = λ at i c v there h. refl;
    parameter = λ place i h. refl;
    read = λ place m how args there ranged. by_access how (ranged g);
    window = λ place w m args over exactly using there ranged is. refl;
    defaults = λ place u s v r. refl;
    unary = λ place op u s. refl;
    binary = λ place op u s v r. refl;
    choice = λ place u s v r w q. refl;
  }
    where
      by_access : (how : TreeAccess) → access_ranges how ≡ [] → all_numbers (λ i. nat_le 1 i) (offset_by (access_of how)) ≡ true
      by_access (a.Offset point i at) h = and_from (nat_le 1 (min i 4096)) true (low_test i (positive i at h)) refl
      by_access a.Direct h = refl
      by_access (a.Hold point) h = refl
      by_access (a.Get point) h = refl
      by_access (a.Window point exactly over using) h = refl

  -- .. and windows have a length of time
  pub span_test : G → IsPassingEverywhere ds spec.streams inputs spec.texts spec.windows G (λ n p k e. all_numbers (λ i. is_span_if (slice_get spec.windows i)) (window_number e))
  span_test g n p k ps = record {
    literal = λ at w v h. refl;
    constant = λ at i c v there h. refl;
    parameter = λ place i h. refl;
    read = λ place m how args there ranged. refl;
    window = λ place w m args over exactly using there ranged is.
        and_from (is_span_if (slice_get spec.windows w)) true
        (rw is (and_from (nat_le 1 (span_of over)) (nat_le (span_of over) 4000000000000000000) (le_test 1 (span_of over) (positive (span_of over) over.at (ranged g))) (le_test (span_of over) 4000000000000000000 (span_most over)))) refl;
    defaults = λ place u s v r. refl;
    unary = λ place op u s. refl;
    binary = λ place op u s v r. refl;
    choice = λ place u s v r w q. refl;
  }
    where
      le_test : (m n : ℕ) → m ≤ n → nat_le m n ≡ true
      le_test m n h = grind (arith, nat_tests)
