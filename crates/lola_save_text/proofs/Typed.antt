-- An expression of a typed specification comes to a value of its kind, or to none.
use Rattle.std.proofs.Common.{◌≡◌, ℕ, zero, suc, ◌<◌, ◌^◌, List, [], ◌∷◌, ◌++◌, length, drop, refl, sym, subst, arith, ℤ, neg_ℤ, int_le, int_lt, Bool, true, false, ◌&&◌, not, Option, Some, None, Result, Ok, Err, if◌then◌else◌, slice_get, unwrap_or}
use Rattle.std.specs.Prelude.{option_and_then}
use Rattle.std.specs.List.{Contains, list_all}
use Rattle.std.specs.Str.{is_utf8}
use Rattle.std.proofs.lemmas.Bool.{and_from, and_parts, ltb-true}
use Rattle.std.proofs.lemmas.List.Elements.{Contains-append_left, Contains-append_right}
use Rattle.lola_value.specs.declared.value.Kind.{Kind}
use Rattle.lola_value.specs.declared.value.Kind.TheVariants as kind
use Rattle.lola_value.specs.declared.value.FaultKind.TheVariants as fault
use Rattle.lola_value.specs.declared.value.Value.{Value}
use Rattle.lola_value.specs.declared.value.Value.TheVariants as value
use Rattle.lola_value.specs.declared.text.Field.{Field}
use Rattle.lola_value.specs.declared.text.Field.TheVariants as field
use Rattle.lola_value.specs.Answer.{Answer, Given, Missing, Faulted, Poisoned}
use Rattle.lola_value.specs.Arithmetic.{divided, fields_equal, is_zero, within}
use Rattle.lola_value.specs.Kinds.{is_bool, is_integer, is_of_kind, is_signed, is_text}
use Rattle.lola_value.specs.Naming.{the_text}
use Rattle.lola_model.specs.Accesses.{answer_of}
use Rattle.lola_model.specs.Content.{Content}
use Rattle.lola_model.specs.Denotation.{kind_of, literal, given_or_missing, on_numbers, truth, negated, and_then, conjoined, disjoined, with_right, chosen, defaulted, with_argument, with_arguments, target_kind, window_of, den, den_all}
use Rattle.lola_model.specs.Named.{literal_text}
use Rattle.lola_model.specs.Parts.{listed}
use Rattle.lola_model.specs.Store.{kind_in, layouts_from, gives_kind}
use Rattle.lola_model.specs.Typed.{scope_in}
use Rattle.lola_model.specs.Typing.{Scope, same_kind, noted, is_noted, is_certain, row_holds, takes, is_kind_at, each_part, part_is_typed, is_reference, window_row, prefix_row, binary_row}
use Rattle.lola_model.specs.Windows.{window_answer}
use Rattle.lola_model.specs.declared.expr.Prefix.{Prefix}
use Rattle.lola_model.specs.declared.expr.Prefix.TheVariants as prefix
use Rattle.lola_model.specs.declared.expr.Binary.{Binary}
use Rattle.lola_model.specs.declared.expr.Binary.TheVariants as binary
use Rattle.lola_model.specs.declared.expr.Expr.{Expr}
use Rattle.lola_model.specs.declared.expr.Arguments.{Arguments}
use Rattle.lola_model.specs.declared.expr.Arguments.TheVariants.{End, More'}
use Rattle.lola_model.specs.declared.expr.Expr.TheVariants.{Literal, Parameter, Read, Window, Defaults', Unary', Both', Choice'}
use Rattle.lola_model.specs.declared.pacing.ClausePacings.{ClausePacings}
use Rattle.lola_model.specs.declared.spec.Spec.{Spec}
use Rattle.lola_model.specs.declared.spec.Stream.{Stream}
use Rattle.lola_model.specs.declared.spec.WindowSpec.{WindowSpec}
use Rattle.lola_expr.proofs.Parts.{same_kind-true}
use Rattle.lola_save_text.specs.Fitting.{is_value, are_values}
use Rattle.lola_save_text.proofs.Seen.{is_answer, IsContentOf, answer-of, window-of, within-answer}

-- kinds

is-bool : (k : Kind) → same_kind k kind.Bool ≡ true → is_bool k ≡ true
is-bool k h = subst (λ (l : Kind). is_bool l ≡ true) (sym (same_kind-true k kind.Bool h)) refl

signed-integer : (k : Kind) → is_signed k ≡ true → is_integer k ≡ true
signed-integer kind.Bool h = absurd (cc)
signed-integer kind.Text h = absurd (cc)
signed-integer kind.Int8 h = refl
signed-integer kind.Int16 h = refl
signed-integer kind.Int32 h = refl
signed-integer kind.Int64 h = refl
signed-integer kind.UInt8 h = refl
signed-integer kind.UInt16 h = refl
signed-integer kind.UInt32 h = refl
signed-integer kind.UInt64 h = refl

pub moved : (k l : Kind) (a : Answer) → same_kind k l ≡ true → is_answer k a ≡ true → is_answer l a ≡ true
moved k l a e h = subst (λ (m : Kind). is_answer m a ≡ true) (same_kind-true k l e) h

-- literals and parameters

text-is : (k : Kind) (ts : List (List ℕ)) (i : ℕ) → i < length ts → list_all is_utf8 ts ≡ true → is_text k ≡ true → is_value k (the_text (slice_get ts i)) ≡ true
text-is k [] i lt u t = absurd (omega arith)
text-is k (x ∷ ts) zero lt u t = and_from (is_text k) (is_utf8 x) t (and_parts (is_utf8 x) (list_all is_utf8 ts) u).0
text-is k (x ∷ ts) (suc i) lt u t = text-is k ts i (omega arith) (and_parts (is_utf8 x) (list_all is_utf8 ts) u).1 t

parameter-is : (ks : List Kind) (p : List Field) (i : ℕ) (k : Kind) → are_values ks p ≡ true → is_kind_at ks i k ≡ true → is_answer k (given_or_missing (slice_get p i)) ≡ true
parameter-is [] p i k h e = absurd (cc)
parameter-is (l ∷ ks) [] i k h e = absurd (cc)
parameter-is (l ∷ ks) (v ∷ p) zero k h e = moved l k (Given v) e (and_parts (is_value l v) (are_values ks p) h).0
parameter-is (l ∷ ks) (v ∷ p) (suc i) k h e = parameter-is ks p i k (and_parts (is_value l v) (are_values ks p) h).1 e

-- operators

truth-is : (k : Kind) (b : Bool) → same_kind k kind.Bool ≡ true → is_answer k (truth b) ≡ true
truth-is k b h = is-bool k h

and-then-is : (k : Kind) (a : Answer) (f : Field → Answer) → ((v : Field) → is_answer k (f v) ≡ true) → is_answer k (and_then a f) ≡ true
and-then-is k (Given v) f h = h v
and-then-is k Missing f h = refl
and-then-is k (Faulted e) f h = refl
and-then-is k Poisoned f h = refl

numbers-is : (k : Kind) (f : ℤ → ℤ → Answer) → ((a b : ℤ) → is_answer k (f a b) ≡ true) → (x y : Field) → is_answer k (on_numbers f x y) ≡ true
numbers-is k f h (field.Int a) (field.Int b) = h a b
numbers-is k f h (field.Int a) (field.Bool b) = refl
numbers-is k f h (field.Int a) (field.Text b) = refl
numbers-is k f h (field.Int a) field.Absent = refl
numbers-is k f h (field.Bool a) y = refl
numbers-is k f h (field.Text a) y = refl
numbers-is k f h field.Absent y = refl

divided-is : (k : Kind) (z by : ℤ) → is_integer k ≡ true → is_answer k (divided k z by) ≡ true
divided-is k z by h = cases (is_zero by)
  where
    cases : (b : Bool) → is_answer k (if b then Faulted fault.DivZero else within k z) ≡ true
    cases true = refl
    cases false = within-answer k z h

-- what an operator makes of a value, by its row of the table of kinds
negated-is : (operator : Prefix) (k a : Kind) → prefix_row operator k a ≡ true → (v : Field) → is_answer k (negated operator k v) ≡ true
negated-is prefix.Not k a r (field.Bool b) = truth-is k (not b) (and_parts _ _ r).0
negated-is prefix.Not k a r (field.Int z) = refl
negated-is prefix.Not k a r (field.Text t) = refl
negated-is prefix.Not k a r field.Absent = refl
negated-is prefix.Minus k a r (field.Int z) = within-answer k (neg_ℤ z) (signed-integer k (and_parts _ _ r).0)
negated-is prefix.Minus k a r (field.Bool b) = refl
negated-is prefix.Minus k a r (field.Text t) = refl
negated-is prefix.Minus k a r field.Absent = refl

conjoined-is : (k : Kind) (x : Field) (b : Answer) → same_kind k kind.Bool ≡ true → is_answer k b ≡ true → is_answer k (conjoined x b) ≡ true
conjoined-is k (field.Bool false) b r h = truth-is k false r
conjoined-is k (field.Bool true) b r h = h
conjoined-is k (field.Int z) b r h = h
conjoined-is k (field.Text t) b r h = h
conjoined-is k field.Absent b r h = h

disjoined-is : (k : Kind) (x : Field) (b : Answer) → same_kind k kind.Bool ≡ true → is_answer k b ≡ true → is_answer k (disjoined x b) ≡ true
disjoined-is k (field.Bool true) b r h = truth-is k true r
disjoined-is k (field.Bool false) b r h = h
disjoined-is k (field.Int z) b r h = h
disjoined-is k (field.Text t) b r h = h
disjoined-is k field.Absent b r h = h

-- the right side of a connective, which is a truth value as the whole is
right-is : (k b : Kind) (a : Answer) → same_kind k kind.Bool ≡ true → same_kind b kind.Bool ≡ true → is_answer b a ≡ true → is_answer k a ≡ true
right-is k b a e f h = subst (λ (m : Kind). is_answer m a ≡ true) (sym (same_kind-true k kind.Bool e)) (moved b kind.Bool a f h)

joined-is : (operator : Binary) (k a b : Kind) → binary_row operator k a b ≡ true → (x : Field) (y : Answer) → is_answer b y ≡ true → is_answer k (with_right operator k x y) ≡ true
joined-is binary.Add k a b r x y h = and-then-is k y _ (λ v. numbers-is k _ (λ m n. within-answer k _ (and_parts _ _ r).0) x v)
joined-is binary.Sub k a b r x y h = and-then-is k y _ (λ v. numbers-is k _ (λ m n. within-answer k _ (and_parts _ _ r).0) x v)
joined-is binary.Mul k a b r x y h = and-then-is k y _ (λ v. numbers-is k _ (λ m n. within-answer k _ (and_parts _ _ r).0) x v)
joined-is binary.Div k a b r x y h = and-then-is k y _ (λ v. numbers-is k _ (λ m n. divided-is k _ n (and_parts _ _ r).0) x v)
joined-is binary.Rem k a b r x y h = and-then-is k y _ (λ v. numbers-is k _ (λ m n. divided-is k _ n (and_parts _ _ r).0) x v)
joined-is binary.Less k a b r x y h = and-then-is k y _ (λ v. numbers-is k _ (λ m n. truth-is k (int_lt m n) (and_parts _ _ r).0) x v)
joined-is binary.LessEqual k a b r x y h = and-then-is k y _ (λ v. numbers-is k _ (λ m n. truth-is k (int_le m n) (and_parts _ _ r).0) x v)
joined-is binary.Greater k a b r x y h = and-then-is k y _ (λ v. numbers-is k _ (λ m n. truth-is k (int_lt n m) (and_parts _ _ r).0) x v)
joined-is binary.GreaterEqual k a b r x y h = and-then-is k y _ (λ v. numbers-is k _ (λ m n. truth-is k (int_le n m) (and_parts _ _ r).0) x v)
joined-is binary.Equal k a b r x y h = and-then-is k y _ (λ v. truth-is k (fields_equal x v) (and_parts _ _ r).0)
joined-is binary.Different k a b r x y h = and-then-is k y _ (λ v. truth-is k (not (fields_equal x v)) (and_parts _ _ r).0)
joined-is binary.And k a b r x y h =
    let e = and_parts _ _ r in
    conjoined-is k x y e.0 (right-is k b y e.0 (and_parts _ _ e.1).1 h)
joined-is binary.Or k a b r x y h =
    let e = and_parts _ _ r in
    disjoined-is k x y e.0 (right-is k b y e.0 (and_parts _ _ e.1).1 h)

defaulted-is : (k : Kind) (a b : Answer) → is_answer k a ≡ true → is_answer k b ≡ true → is_answer k (defaulted a b) ≡ true
defaulted-is k Missing b h g = g
defaulted-is k (Given v) b h g = h
defaulted-is k (Faulted f) b h g = refl
defaulted-is k Poisoned b h g = refl

chosen-is : (k : Kind) (v : Field) (a b : Answer) → is_answer k a ≡ true → is_answer k b ≡ true → is_answer k (chosen v a b) ≡ true
chosen-is k (field.Bool true) a b h g = h
chosen-is k (field.Bool false) a b h g = g
chosen-is k (field.Int z) a b h g = g
chosen-is k (field.Text t) a b h g = g
chosen-is k field.Absent a b h g = g

-- arguments that have no value are no value of any kind
abbrev IsError : Kind → Result (List Field) Answer → Type 0
IsError k (Ok vs) = Unit {0}
IsError k (Err a) = is_answer k a ≡ true

argument-error : (k : Kind) (a : Answer) (r : Result (List Field) Answer) → IsError k r → IsError k (with_argument a r)
argument-error k (Given v) (Ok vs) h = tt
argument-error k (Given v) (Err a) h = h
argument-error k Missing r h = refl
argument-error k (Faulted f) r h = refl
argument-error k Poisoned r h = refl

arguments-is : (k : Kind) (r : Result (List Field) Answer) (f : List Field → Answer) → IsError k r → ((q : List Field) → is_answer k (f q) ≡ true) → is_answer k (with_arguments r f) ≡ true
arguments-is k (Ok vs) f h g = g vs
arguments-is k (Err a) f h g = h

-- the kind that a window's target has
target-is : (ss : List Stream) (kept : List ℕ) (pacings : List ClausePacings) (n : ℕ) → n < length (layouts_from ss kept pacings)
    → unwrap_or (option_and_then (λ (s : Stream). s.kind) (slice_get ss n)) kind.Int64 ≡ kind_in (slice_get (layouts_from ss kept pacings) n)
target-is [] kept pacings n lt = absurd (omega arith)
target-is (s ∷ ss) kept pacings zero lt = refl
target-is (s ∷ ss) kept pacings (suc n) lt = target-is ss (drop 1 kept) (drop 1 pacings) n (omega arith)

module _ (spec : Spec) (c : Content) (most : ℕ) (content : IsContentOf (layouts_from spec.streams [] []) most c) (few : most < 2 ^ 63) (texts : list_all is_utf8 spec.texts ≡ true) where
  -- these numbers are those of texts
  abbrev pub AreTexts : List ℕ → Type 0
  AreTexts ids = (i : ℕ) → Contains ids i → i < length spec.texts

  first-texts : (xs ys : List ℕ) → AreTexts (xs ++ ys) → AreTexts xs
  first-texts xs ys h i m = h i (Contains-append_left xs ys i m)

  second-texts : (xs ys : List ℕ) → AreTexts (xs ++ ys) → AreTexts ys
  second-texts xs ys h i m = h i (Contains-append_right xs ys i m)

  literal-is : (k : Kind) (v : Value) → is_of_kind k v ≡ true → AreTexts (literal_text (Literal (record { at = 0; kind = Some k }) v)) → is_value k (literal spec.texts v) ≡ true
  literal-is k (value.Bool b) h t = h
  literal-is k (value.Int z) h t = h
  literal-is k (value.Text id) h t = text-is k spec.texts id.0 (t id.0 (0, omega arith, refl)) texts h

  module _ (ks : List Kind) (p : List Field) (params : are_values ks p ≡ true) where
    abbrev scope : Scope
    scope = scope_in spec ks

    errors : (k : Kind) (args : Arguments) → IsError k (den_all spec c p args)
    errors k End = tt
    errors k (More' u a v rest) = argument-error k (den spec c p a) (den_all spec c p rest) (errors k rest)

    window-is : (o : Option WindowSpec) (k : Kind) (args : Arguments) (q : List Field) → window_row (layouts_from spec.streams [] []) o k args ≡ true → is_answer k (window_of spec c o q) ≡ true
    window-is None k args q r = absurd (cc)
    window-is (Some w) k args q r =
        let layouts = layouts_from spec.streams [] [] in
        let target : Kind = kind_in (slice_get layouts w.target) in
        let parts = and_parts (is_reference layouts w.target args) (takes w.using target && same_kind (gives_kind w.using target) k) r in
        let kinds = and_parts (takes w.using target) (same_kind (gives_kind w.using target) k) parts.1 in
        let lt = ltb-true w.target (length layouts) (and_parts _ _ parts.0).0 in
        let here : target_kind spec.streams w ≡ target = target-is spec.streams [] [] w.target lt in
        moved (gives_kind w.using target) k (window_answer c w (target_kind spec.streams w) q) kinds.1
        (subst (λ (t : Kind). is_answer (gives_kind w.using target) (window_answer c w t q) ≡ true) (sym here) (window-of layouts most c content few w q kinds.0))

    -- by the parts of an expression
    pub den-is : (e : Expr) → each_part (part_is_typed scope) e ≡ true → AreTexts (listed literal_text e) → is_answer (noted e) (den spec c p e) ≡ true
    den-is (Literal place v) h t = literal-is (kind_of place) v (and_parts _ _ h).1 t
    den-is (Parameter place i) h t = parameter-is ks p i (kind_of place) params (and_parts _ _ h).1
    den-is (Read place n how args) h t =
        let row = (and_parts _ _ (and_parts _ _ h).0).1 in
        let k : Kind = kind_in (slice_get (layouts_from spec.streams [] []) n) in
        moved k (kind_of place) (den spec c p (Read place n how args)) (and_parts _ _ row).1
        (arguments-is k (den_all spec c p args) (λ q. answer_of c how n q) (errors k args) (λ q. answer-of (layouts_from spec.streams [] []) most c content how n q))
    den-is (Window place w args) h t =
        let row = (and_parts _ _ (and_parts _ _ h).0).1 in
        arguments-is (kind_of place) (den_all spec c p args) (λ q. window_of spec c (slice_get spec.windows w) q) (errors (kind_of place) args)
        (λ q. window-is (slice_get spec.windows w) (kind_of place) args q row)
    den-is (Defaults' place u a v b) h t =
        let parts = and_parts _ _ h in
        let row = (and_parts _ _ parts.0).1 in
        let sides = and_parts _ _ parts.1 in
        let one = den-is a sides.0 (first-texts (listed literal_text a) (listed literal_text b) t) in
        let two = den-is b sides.1 (second-texts (listed literal_text a) (listed literal_text b) t) in
        defaulted-is (kind_of place) (den spec c p a) (den spec c p b)
        (moved (noted a) (kind_of place) (den spec c p a) (and_parts _ _ row).0 one)
        (moved (noted b) (kind_of place) (den spec c p b) (and_parts _ _ (and_parts _ _ row).1).0 two)
    den-is (Unary' place operator u a) h t =
        let row = (and_parts _ _ (and_parts _ _ h).0).1 in
        and-then-is (kind_of place) (den spec c p a) (λ v. negated operator (kind_of place) v) (negated-is operator (kind_of place) (noted a) (and_parts _ _ row).0)
    den-is (Both' place operator u a v b) h t =
        let e = Both' place operator u a v b in
        let parts = and_parts (part_is_typed scope e) (each_part (part_is_typed scope) a && each_part (part_is_typed scope) b) h in
        let row = (and_parts (is_noted place.kind) (row_holds scope e) parts.0).1 in
        let sides = (and_parts (binary_row operator (kind_of place) (noted a) (noted b)) (is_certain scope.windows a && is_certain scope.windows b) row).0 in
        let right = (and_parts (each_part (part_is_typed scope) a) (each_part (part_is_typed scope) b) parts.1).1 in
        let two = den-is b right (second-texts (listed literal_text a) (listed literal_text b) t) in
        and-then-is (kind_of place) (den spec c p a) (λ x. with_right operator (kind_of place) x (den spec c p b))
        (λ x. joined-is operator (kind_of place) (noted a) (noted b) sides x (den spec c p b) two)
    den-is (Choice' place u a v b w d) h t =
        let parts = and_parts _ _ h in
        let row = (and_parts _ _ (and_parts _ _ parts.0).1).1 in
        let kinds = and_parts _ _ (and_parts _ _ row).0 in
        let branches = and_parts _ _ (and_parts _ _ parts.1).1 in
        let texts_of = second-texts (listed literal_text a) (listed literal_text b ++ listed literal_text d) t in
        let one = den-is b branches.0 (first-texts (listed literal_text b) (listed literal_text d) texts_of) in
        let two = den-is d branches.1 (second-texts (listed literal_text b) (listed literal_text d) texts_of) in
        and-then-is (kind_of place) (den spec c p a) (λ x. chosen x (den spec c p b) (den spec c p d))
        (λ x. chosen-is (kind_of place) x (den spec c p b) (den spec c p d) (moved (noted b) (kind_of place) (den spec c p b) kinds.0 one) (moved (noted d) (kind_of place) (den spec c p d) kinds.1 two))
