-- The outcome of an expression from those of its parts.
use Rattle.std.proofs.Common.{◌≡◌, ℕ, zero, suc, ◌<◌, refl, Bool, true, false, not, ◌&&◌, ap, sym, ◌∙◌, subst, List, [], ◌∷◌, length, Option, Some, None, slice_get, map, drop, unwrap_or, option_and_then, MatchOption, arith}
use Rattle.std.proofs.lemmas.Bool.{and_from}
use Rattle.lola_value.specs.declared.text.Field.{Field}
use Rattle.lola_value.specs.declared.text.Field.TheVariants as field
use Rattle.lola_value.specs.declared.value.Kind.{Kind}
use Rattle.lola_value.specs.declared.value.Kind.TheVariants as kind
use Rattle.lola_value.specs.declared.value.Value.{Value}
use Rattle.lola_value.specs.declared.value.Value.TheVariants as value
use Rattle.lola_value.specs.declared.value.Outcome.{Outcome}
use Rattle.lola_value.specs.declared.value.Outcome.TheVariants as outcome
use Rattle.lola_value.specs.Answer.{Answer, Given, Missing, Faulted, Poisoned}
use Rattle.lola_value.specs.Kinds.{is_integer, is_bool, is_of_kind, is_outcome_of}
use Rattle.lola_value.specs.Naming.{Naming, read, read_outcome, the_text, text_at, IsHeld, AreHeld, IsHeldIn}
use Rattle.lola_model.specs.Content.{Content}
use Rattle.lola_model.specs.Windows.{window_answer}
use Rattle.lola_model.specs.Denotation.{literal, given_or_missing, and_then, defaulted, chosen, joined, with_right, conjoined, disjoined, operated, window_of}
use Rattle.lola_model.specs.Store.{Seen, kind_in, layouts_from, layout_of, target_of}
use Rattle.lola_model.specs.Typing.{prefix_row, binary_row, same_kind}
use Rattle.lola_model.specs.declared.expr.Binary.{Binary}
use Rattle.lola_model.specs.declared.expr.Binary.TheVariants as binary
use Rattle.lola_model.specs.declared.expr.Prefix.{Prefix}
use Rattle.lola_model.specs.declared.expr.Prefix.TheVariants as prefix
use Rattle.lola_model.specs.declared.spec.Stream.{Stream}
use Rattle.lola_model.specs.declared.spec.WindowSpec.{WindowSpec}
use Rattle.lola_model.specs.declared.pacing.ClausePacings.{ClausePacings}
use Rattle.lola_model.specs.declared.plan.Plan.{Plan}
use Rattle.lola_model.proofs.Lookups.{bytes_equal-true}
use Rattle.lola_expr.specs.Evaluation.{value_or_missing, literal_is_named, same_text}
use Rattle.lola_expr.specs.Operands.{decides, operands_fit, operand_fits, is_truth, is_number, truth_in}
use Rattle.lola_expr.proofs.OperandLemmas.{first, second, integer_is}
use Rattle.lola_expr.proofs.Parts.{same_kind-true}

-- what is no value is the outcome of the whole
pub stays : (names : Naming) (r : Outcome) (a : Answer) (f : Field → Answer) → ((v : Value) → r ≡ outcome.Value v → ⊥) → read_outcome names r ≡ a → read_outcome names r ≡ and_then a f
stays names (outcome.Value v) a f ne e = absurd (ne v refl)
stays names outcome.Missing a f ne e = subst (λ x. Missing ≡ and_then x f) e refl
stays names (outcome.Fault k) a f ne e = subst (λ x. Faulted k ≡ and_then x f) e refl
stays names outcome.Poison a f ne e = subst (λ x. Poisoned ≡ and_then x f) e refl

-- what is no value is an outcome of each kind
pub stays_of_kind : (r : Outcome) (k : Kind) → ((v : Value) → r ≡ outcome.Value v → ⊥) → is_outcome_of k r ≡ true
stays_of_kind (outcome.Value v) k ne = absurd (ne v refl)
stays_of_kind outcome.Missing k ne = refl
stays_of_kind (outcome.Fault f) k ne = refl
stays_of_kind outcome.Poison k ne = refl

-- a value goes on
pub goes_on : (names : Naming) (v : Value) (a : Answer) (f : Field → Answer) (r : Answer) → Given (read names v) ≡ a → r ≡ f (read names v) → r ≡ and_then a f
goes_on names v a f r e g = subst (λ x. r ≡ and_then x f) e g

-- what is not missing is not replaced
pub defaulted_first : (names : Naming) (r : Outcome) (a b : Answer) → (r ≡ outcome.Missing → ⊥) → read_outcome names r ≡ a → read_outcome names r ≡ defaulted a b
defaulted_first names (outcome.Value v) a b ne e = subst (λ x. Given (read names v) ≡ defaulted x b) e refl
defaulted_first names outcome.Missing a b ne e = absurd (ne refl)
defaulted_first names (outcome.Fault k) a b ne e = subst (λ x. Faulted k ≡ defaulted x b) e refl
defaulted_first names outcome.Poison a b ne e = subst (λ x. Poisoned ≡ defaulted x b) e refl

-- what is missing is
pub defaulted_second : (r : Answer) (a b : Answer) → Missing ≡ a → r ≡ b → r ≡ defaulted a b
defaulted_second r a b e f = subst (λ x. r ≡ defaulted x b) e f

-- a literal
pub literal_read : (names : Naming) (texts : List (List ℕ)) (v : Value) → literal_is_named names texts v ≡ true → Given (read names v) ≡ Given (literal texts v)
literal_read names texts (value.Bool b) h = refl
literal_read names texts (value.Int z) h = refl
literal_read names texts (value.Text id) h = by_text (text_at names id.0) (slice_get texts id.0) h
  where
    by_text : (a b : Option (List ℕ)) → same_text a b ≡ true → Given (the_text a) ≡ Given (the_text b)
    by_text None b h = absurd (cc)
    by_text (Some s) None h = absurd (cc)
    by_text (Some s) (Some t) h = ap (λ x. Given (field.Text x)) (bytes_equal-true s t h)

-- the naming has its text
pub literal_held : (names : Naming) (texts : List (List ℕ)) (v : Value) → literal_is_named names texts v ≡ true → IsHeld names v
literal_held names texts (value.Bool b) h = tt
literal_held names texts (value.Int z) h = tt
literal_held names texts (value.Text id) h = by_text (text_at names id.0) refl h
  where
    by_text : (a : Option (List ℕ)) → text_at names id.0 ≡ a → same_text a (slice_get texts id.0) ≡ true → (t : List ℕ) × (text_at names id.0 ≡ Some t)
    by_text None e h = absurd (cc)
    by_text (Some s) e h = (s, e)

-- a parameter
pub parameter_read : (names : Naming) (vs : List Value) (i : ℕ) → read_outcome names (value_or_missing (slice_get vs i)) ≡ given_or_missing (slice_get (map (read names) vs) i)
parameter_read names [] i = refl
parameter_read names (v ∷ vs) zero = refl
parameter_read names (v ∷ vs) (suc i) = parameter_read names vs i

-- the naming has its text
pub parameter_held : (names : Naming) (vs : List Value) (i : ℕ) → AreHeld names vs → IsHeldIn names (value_or_missing (slice_get vs i))
parameter_held names [] i h = tt
parameter_held names (v ∷ vs) zero h = h.0
parameter_held names (v ∷ vs) (suc i) h = parameter_held names vs i h.1

-- a choice
chosen_value : (names : Naming) (v : Value) (a b : Answer) (t : Bool) → truth_in v ≡ t → is_truth v ≡ true → chosen (read names v) a b ≡ chosen (field.Bool t) a b
chosen_value names (value.Bool x) a b t e h = ap (λ (x : Bool). chosen (field.Bool x) a b) e
chosen_value names (value.Int x) a b t e h = absurd (cc)
chosen_value names (value.Text x) a b t e h = absurd (cc)

-- where the condition is true
pub chosen_true : (names : Naming) (v : Value) (t a b r : Answer) → truth_in v ≡ true → is_truth v ≡ true → Given (read names v) ≡ t → r ≡ a → r ≡ and_then t (λ x. chosen x a b)
chosen_true names v t a b r w h e f = goes_on names v t (λ x. chosen x a b) r e (f ∙ sym (chosen_value names v a b true w h))

-- where it is false
pub chosen_false : (names : Naming) (v : Value) (t a b r : Answer) → truth_in v ≡ false → is_truth v ≡ true → Given (read names v) ≡ t → r ≡ b → r ≡ and_then t (λ x. chosen x a b)
chosen_false names v t a b r w h e f = goes_on names v t (λ x. chosen x a b) r e (f ∙ sym (chosen_value names v a b false w h))

-- a value of the kind of truth values is one
pub truth_of_kind : (v : Value) → is_of_kind kind.Bool v ≡ true → is_truth v ≡ true
truth_of_kind (value.Bool x) h = refl
truth_of_kind (value.Int x) h = absurd (cc)
truth_of_kind (value.Text x) h = absurd (cc)

-- two operands
conjoined_on : (names : Naming) (x : Value) (b : Answer) → (is_truth x && not (truth_in x)) ≡ false → conjoined (read names x) b ≡ b
conjoined_on names (value.Bool true) b h = refl
conjoined_on names (value.Bool false) b h = absurd (cc)
conjoined_on names (value.Int z) b h = refl
conjoined_on names (value.Text id) b h = by_text (text_at names id.0)
  where
    by_text : (o : Option (List ℕ)) → conjoined (the_text o) b ≡ b
    by_text None = refl
    by_text (Some t) = refl

-- the same of `||`
disjoined_on : (names : Naming) (x : Value) (b : Answer) → truth_in x ≡ false → disjoined (read names x) b ≡ b
disjoined_on names (value.Bool true) b h = absurd (cc)
disjoined_on names (value.Bool false) b h = refl
disjoined_on names (value.Int z) b h = refl
disjoined_on names (value.Text id) b h = by_text (text_at names id.0)
  where
    by_text : (o : Option (List ℕ)) → disjoined (the_text o) b ≡ b
    by_text None = refl
    by_text (Some t) = refl

-- a right operand without a value is the outcome
right_stays : (operator : Binary) (k : Kind) (names : Naming) (x : Value) (r : Outcome) (b : Answer) → decides operator x ≡ false → ((v : Value) → r ≡ outcome.Value v → ⊥) → read_outcome names r ≡ b → read_outcome names r ≡ with_right operator k (read names x) b
right_stays binary.And k names x r b h ne f = f ∙ sym (conjoined_on names x b h)
right_stays binary.Or k names x r b h ne f = f ∙ sym (disjoined_on names x b h)
right_stays binary.Add k names x r b h ne f = stays names r b (λ y. operated binary.Add k (read names x) y) ne f
right_stays binary.Sub k names x r b h ne f = stays names r b (λ y. operated binary.Sub k (read names x) y) ne f
right_stays binary.Mul k names x r b h ne f = stays names r b (λ y. operated binary.Mul k (read names x) y) ne f
right_stays binary.Div k names x r b h ne f = stays names r b (λ y. operated binary.Div k (read names x) y) ne f
right_stays binary.Rem k names x r b h ne f = stays names r b (λ y. operated binary.Rem k (read names x) y) ne f
right_stays binary.Less k names x r b h ne f = stays names r b (λ y. operated binary.Less k (read names x) y) ne f
right_stays binary.LessEqual k names x r b h ne f = stays names r b (λ y. operated binary.LessEqual k (read names x) y) ne f
right_stays binary.Greater k names x r b h ne f = stays names r b (λ y. operated binary.Greater k (read names x) y) ne f
right_stays binary.GreaterEqual k names x r b h ne f = stays names r b (λ y. operated binary.GreaterEqual k (read names x) y) ne f
right_stays binary.Equal k names x r b h ne f = stays names r b (λ y. operated binary.Equal k (read names x) y) ne f
right_stays binary.Different k names x r b h ne f = stays names r b (λ y. operated binary.Different k (read names x) y) ne f

-- and one with a value goes on
right_value : (operator : Binary) (k : Kind) (names : Naming) (x y : Value) (b : Answer) → decides operator x ≡ false → Given (read names y) ≡ b → operated operator k (read names x) (read names y) ≡ with_right operator k (read names x) b
right_value binary.And k names x y b h f = f ∙ sym (conjoined_on names x b h)
right_value binary.Or k names x y b h f = f ∙ sym (disjoined_on names x b h)
right_value binary.Add k names x y b h f = goes_on names y b (λ y. operated binary.Add k (read names x) y) (operated binary.Add k (read names x) (read names y)) f refl
right_value binary.Sub k names x y b h f = goes_on names y b (λ y. operated binary.Sub k (read names x) y) (operated binary.Sub k (read names x) (read names y)) f refl
right_value binary.Mul k names x y b h f = goes_on names y b (λ y. operated binary.Mul k (read names x) y) (operated binary.Mul k (read names x) (read names y)) f refl
right_value binary.Div k names x y b h f = goes_on names y b (λ y. operated binary.Div k (read names x) y) (operated binary.Div k (read names x) (read names y)) f refl
right_value binary.Rem k names x y b h f = goes_on names y b (λ y. operated binary.Rem k (read names x) y) (operated binary.Rem k (read names x) (read names y)) f refl
right_value binary.Less k names x y b h f = goes_on names y b (λ y. operated binary.Less k (read names x) y) (operated binary.Less k (read names x) (read names y)) f refl
right_value binary.LessEqual k names x y b h f = goes_on names y b (λ y. operated binary.LessEqual k (read names x) y) (operated binary.LessEqual k (read names x) (read names y)) f refl
right_value binary.Greater k names x y b h f = goes_on names y b (λ y. operated binary.Greater k (read names x) y) (operated binary.Greater k (read names x) (read names y)) f refl
right_value binary.GreaterEqual k names x y b h f = goes_on names y b (λ y. operated binary.GreaterEqual k (read names x) y) (operated binary.GreaterEqual k (read names x) (read names y)) f refl
right_value binary.Equal k names x y b h f = goes_on names y b (λ y. operated binary.Equal k (read names x) y) (operated binary.Equal k (read names x) (read names y)) f refl
right_value binary.Different k names x y b h f = goes_on names y b (λ y. operated binary.Different k (read names x) y) (operated binary.Different k (read names x) (read names y)) f refl

-- the right one is no value
pub joined_stays : (operator : Binary) (k : Kind) (names : Naming) (x : Value) (r : Outcome) (a b : Answer) → decides operator x ≡ false → ((v : Value) → r ≡ outcome.Value v → ⊥) → Given (read names x) ≡ a → read_outcome names r ≡ b → read_outcome names r ≡ joined operator k a b
joined_stays operator k names x r a b h ne e f = goes_on names x a (λ v. with_right operator k v b) (read_outcome names r) e (right_stays operator k names x r b h ne f)

-- and_from are values
pub joined_both : (operator : Binary) (k : Kind) (names : Naming) (x y : Value) (r a b : Answer) → decides operator x ≡ false → Given (read names x) ≡ a → Given (read names y) ≡ b → r ≡ operated operator k (read names x) (read names y) → r ≡ joined operator k a b
joined_both operator k names x y r a b h e f o = goes_on names x a (λ v. with_right operator k v b) r e (o ∙ right_value operator k names x y b h f)

-- a window
layout_kind : (ss : List Stream) (kept : List ℕ) (pacings : List ClausePacings) (n : ℕ) → n < length (layouts_from ss kept pacings)
    → kind_in (slice_get (layouts_from ss kept pacings) n) ≡ unwrap_or (option_and_then (λ s. s.kind) (slice_get ss n)) kind.Int64
layout_kind [] kept pacings n h = absurd (omega (arith, h))
layout_kind (s ∷ ss) kept pacings zero h = refl
layout_kind (s ∷ ss) kept pacings (suc n) h = layout_kind ss (drop 1 kept) (drop 1 pacings) n (omega (arith, h))

-- what the window of a content answers is the denotation of a window
pub window_read : (plan : Plan) (s : Seen) (c : Content) (q : List Field) (r : Answer) (n : ℕ) → s.layout ≡ layout_of plan → target_of (slice_get s.layout.windows n) < length s.layout.streams
    → MatchOption (slice_get s.layout.windows n) ⊥ (λ w. r ≡ window_answer c w (kind_in (slice_get s.layout.streams w.target)) q)
    → r ≡ window_of plan.spec c (slice_get plan.spec.windows n) q
window_read plan s c q r n e lt m = by_window (slice_get plan.spec.windows n) (subst (λ l. target_of (slice_get l.windows n) < length l.streams) e lt) (subst (λ l. MatchOption (slice_get l.windows n) ⊥ (λ w. r ≡ window_answer c w (kind_in (slice_get l.streams w.target)) q)) e m)
  where
    by_window : (o : Option WindowSpec) → target_of o < length (layout_of plan).streams → MatchOption o ⊥ (λ w. r ≡ window_answer c w (kind_in (slice_get (layout_of plan).streams w.target)) q) → r ≡ window_of plan.spec c o q
    by_window None lt m = absurd m
    by_window (Some w) lt m = m ∙ ap (λ k. window_answer c w k q) (layout_kind plan.spec.streams plan.kept plan.pacings w.target lt)

-- a value of the kind of a row fits: before one operand
pub prefix_fits : (operator : Prefix) (k a : Kind) (v : Value) → prefix_row operator k a ≡ true → is_of_kind a v ≡ true → operand_fits operator k v ≡ true
prefix_fits prefix.Not k a v row h =
    let e = same_kind-true k kind.Bool (first (same_kind k kind.Bool) (same_kind a kind.Bool) row) in
    let f = same_kind-true a kind.Bool (second (same_kind k kind.Bool) (same_kind a kind.Bool) row) in
    and_from (is_bool k) (is_truth v) (ap is_bool e) (truth_of_kind v (subst (λ (j : Kind). is_of_kind j v ≡ true) f h))
prefix_fits prefix.Minus k a v row h =
    let f = same_kind-true a k (second _ (same_kind a k) row) in
    and_from _ (is_of_kind k v) (first _ (same_kind a k) row) (subst (λ (j : Kind). is_of_kind j v ≡ true) f h)

-- values of the kinds of a row fit: of arithmetic
arithmetic_fits : (k a b : Kind) (x y : Value) → (is_integer k && (same_kind a k && same_kind b k)) ≡ true → is_of_kind a x ≡ true → is_of_kind b y ≡ true → (is_integer k && (is_of_kind k x && is_of_kind k y)) ≡ true
arithmetic_fits k a b x y row h g =
    let s = second (is_integer k) (same_kind a k && same_kind b k) row in
    and_from (is_integer k) (is_of_kind k x && is_of_kind k y) (first (is_integer k) (same_kind a k && same_kind b k) row)
    (and_from (is_of_kind k x) (is_of_kind k y)
    (subst (λ (j : Kind). is_of_kind j x ≡ true) (same_kind-true a k (first (same_kind a k) (same_kind b k) s)) h)
    (subst (λ (j : Kind). is_of_kind j y ≡ true) (same_kind-true b k (second (same_kind a k) (same_kind b k) s)) g))

-- of an order
order_fits : (k a b : Kind) (x y : Value) → (same_kind k kind.Bool && (is_integer a && same_kind b a)) ≡ true → is_of_kind a x ≡ true → is_of_kind b y ≡ true → (is_bool k && (is_number x && is_number y)) ≡ true
order_fits k a b x y row h g =
    let s = second (same_kind k kind.Bool) (is_integer a && same_kind b a) row in
    let i = first (is_integer a) (same_kind b a) s in
    and_from (is_bool k) (is_number x && is_number y) (ap is_bool (same_kind-true k kind.Bool (first (same_kind k kind.Bool) (is_integer a && same_kind b a) row)))
    (and_from (is_number x) (is_number y) (integer_is a i x h)
    (integer_is a i y (subst (λ (j : Kind). is_of_kind j y ≡ true) (same_kind-true b a (second (is_integer a) (same_kind b a) s)) g)))

-- of `&&` and `||`
truth_fits : (k a b : Kind) (x y : Value) → (same_kind k kind.Bool && (same_kind a kind.Bool && same_kind b kind.Bool)) ≡ true → is_of_kind a x ≡ true → is_of_kind b y ≡ true → (is_bool k && (is_truth x && is_truth y)) ≡ true
truth_fits k a b x y row h g =
    let s = second (same_kind k kind.Bool) (same_kind a kind.Bool && same_kind b kind.Bool) row in
    and_from (is_bool k) (is_truth x && is_truth y) (ap is_bool (same_kind-true k kind.Bool (first (same_kind k kind.Bool) (same_kind a kind.Bool && same_kind b kind.Bool) row)))
    (and_from (is_truth x) (is_truth y)
    (truth_of_kind x (subst (λ (j : Kind). is_of_kind j x ≡ true) (same_kind-true a kind.Bool (first (same_kind a kind.Bool) (same_kind b kind.Bool) s)) h))
    (truth_of_kind y (subst (λ (j : Kind). is_of_kind j y ≡ true) (same_kind-true b kind.Bool (second (same_kind a kind.Bool) (same_kind b kind.Bool) s)) g)))

-- a comparison gives truth values
bool_result : (k : Kind) (q : Bool) → (same_kind k kind.Bool && q) ≡ true → is_bool k ≡ true
bool_result k q row = ap is_bool (same_kind-true k kind.Bool (first (same_kind k kind.Bool) q row))

-- of each operator
pub binary_fits : (operator : Binary) (k a b : Kind) (x y : Value) → binary_row operator k a b ≡ true → is_of_kind a x ≡ true → is_of_kind b y ≡ true → operands_fit operator k x y ≡ true
binary_fits binary.Add k a b x y row h g = arithmetic_fits k a b x y row h g
binary_fits binary.Sub k a b x y row h g = arithmetic_fits k a b x y row h g
binary_fits binary.Mul k a b x y row h g = arithmetic_fits k a b x y row h g
binary_fits binary.Div k a b x y row h g = arithmetic_fits k a b x y row h g
binary_fits binary.Rem k a b x y row h g = arithmetic_fits k a b x y row h g
binary_fits binary.Less k a b x y row h g = order_fits k a b x y row h g
binary_fits binary.LessEqual k a b x y row h g = order_fits k a b x y row h g
binary_fits binary.Greater k a b x y row h g = order_fits k a b x y row h g
binary_fits binary.GreaterEqual k a b x y row h g = order_fits k a b x y row h g
binary_fits binary.Equal k a b x y row h g = bool_result k (same_kind b a) row
binary_fits binary.Different k a b x y row h g = bool_result k (same_kind b a) row
binary_fits binary.And k a b x y row h g = truth_fits k a b x y row h g
binary_fits binary.Or k a b x y row h g = truth_fits k a b x y row h g
