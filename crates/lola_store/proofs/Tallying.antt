-- What one pass finds is what the definitions ask for.
use Rattle.std.proofs.Common.{◌≡◌, ℕ, suc, ◌+◌, ◌^◌, ◌≤◌, ◌<◌, List, [], ◌∷◌, length, map, refl, ap, sym, ◌∙◌, subst, arith, Option, Some, None, ℤ, pos, ◌+ℤ◌, Bool, true, false, IsTrue, int_div, if◌then◌else◌, nat_lt, nat_eq, ◌&&◌, ◌||◌, drop, drop-cons, add-one, get_or}
use Rattle.std.specs.Prelude.{filter}
use Rattle.std.proofs.lemmas.Int.{ints}
use Rattle.std.proofs.lemmas.Bool.{ne_eqb}
use Rattle.std.proofs.lemmas.Bool.Decides.{nat_tests}
use Rattle.std.proofs.lemmas.List.{length-map}
use Rattle.std.proofs.Math.IntN.{+ℤ_idr, +ℤ_idl, +ℤ_assoc}
use Rattle.lola_model.specs.Windows.{total, lesser, greater, least_of, greatest_of, number_of, truth_of, all_true, some_true, aggregated, values_within, is_within_window, minimum_of, maximum_of, mean_of}
use Rattle.lola_model.specs.Store.{gives_kind, is_outcome_of}
use Rattle.lola_model.specs.Typing.{takes}
use Rattle.lola_model.specs.declared.spec.Agg.{Agg}
use Rattle.lola_model.specs.declared.spec.Agg.TheVariants as agg
use Rattle.lola_value.specs.declared.text.Field.{Field}
use Rattle.lola_value.specs.declared.text.Field.TheVariants as field
use Rattle.lola_value.specs.declared.value.FaultKind.TheVariants as fault
use Rattle.lola_value.specs.declared.value.Kind.{Kind}
use Rattle.lola_value.specs.declared.value.Value.{Value}
use Rattle.lola_value.specs.declared.value.Value.TheVariants as value
use Rattle.lola_value.specs.declared.value.Outcome.{Outcome}
use Rattle.lola_value.specs.declared.value.Outcome.TheVariants as outcome
use Rattle.lola_value.specs.Answer.{Given, Faulted}
use Rattle.lola_value.specs.Arithmetic.{is_within, within}
use Rattle.lola_value.specs.Kinds.{is_integer}
use Rattle.lola_value.specs.Naming.{Naming, read, read_outcome, text_at, the_text}
use Rattle.lola_store.specs.declared.tally.Timed.{Timed}
use Rattle.lola_store.specs.declared.tally.Tally.{Tally}
use Rattle.lola_store.specs.Tallies.{read_timed, number_in, truth_in, lower, higher, noted, tallied, empty, inside, answer, mean, number_or_missing, within_kind}
use Rattle.lola_panes.proofs.Ranges.{AllIn, mean_in}
use Rattle.lola_store.proofs.Ranges.{least_within, greatest_within}

-- numbers and truths are the same whatever the naming

text_number : (o : Option (List ℕ)) → number_of (the_text o) ≡ pos 0
text_number None = refl
text_number (Some t) = refl

text_truth : (o : Option (List ℕ)) → truth_of (the_text o) ≡ false
text_truth None = refl
text_truth (Some t) = refl

number_read : (names : Naming) (v : Value) → number_of (read names v) ≡ number_in v
number_read names (value.Bool b) = refl
number_read names (value.Int z) = refl
number_read names (value.Text id) = text_number (text_at names id.0)

truth_read : (names : Naming) (v : Value) → truth_of (read names v) ≡ truth_in v
truth_read names (value.Bool b) = refl
truth_read names (value.Int z) = refl
truth_read names (value.Text id) = text_truth (text_at names id.0)

numbers_read : (names : Naming) (vs : List Value) → map number_of (map (read names) vs) ≡ map number_in vs
numbers_read names [] = refl
numbers_read names (v ∷ vs) = λ i. number_read names v i ∷ numbers_read names vs i

-- the truths of values

abbrev pub every_true : List Value → Bool
every_true [] = true
every_true (v ∷ vs) = truth_in v && every_true vs

abbrev pub any_true : List Value → Bool
any_true [] = false
any_true (v ∷ vs) = truth_in v || any_true vs

every_read : (names : Naming) (vs : List Value) → all_true (map (read names) vs) ≡ every_true vs
every_read names [] = refl
every_read names (v ∷ vs) = λ i. truth_read names v i && every_read names vs i

any_read : (names : Naming) (vs : List Value) → some_true (map (read names) vs) ≡ any_true vs
any_read names [] = refl
any_read names (v ∷ vs) = λ i. truth_read names v i || any_read names vs i

-- the parts of a tally

many_is : (t : Tally) (vs : List Value) → (tallied t vs).many ≡ t.many + length vs
many_is t [] = omega arith
many_is t (v ∷ vs) = let e = many_is (noted t v) vs in omega (arith, e)

whole_is : (t : Tally) (vs : List Value) → (tallied t vs).whole ≡ t.whole +ℤ total (map number_in vs)
whole_is t [] = sym (+ℤ_idr t.whole)
whole_is t (v ∷ vs) = whole_is (noted t v) vs ∙ +ℤ_assoc t.whole (number_in v) (total (map number_in vs))

and_assoc : (a b c : Bool) → ((a && b) && c) ≡ (a && (b && c))
and_assoc true b c = refl
and_assoc false b c = refl

or_assoc : (a b c : Bool) → ((a || b) || c) ≡ (a || (b || c))
or_assoc true b c = refl
or_assoc false b c = refl

and_true : (a : Bool) → a ≡ (a && true)
and_true true = refl
and_true false = refl

or_false : (a : Bool) → a ≡ (a || false)
or_false true = refl
or_false false = refl

every_is : (t : Tally) (vs : List Value) → (tallied t vs).every ≡ (t.every && every_true vs)
every_is t [] = and_true t.every
every_is t (v ∷ vs) = every_is (noted t v) vs ∙ and_assoc t.every (truth_in v) (every_true vs)

any_is : (t : Tally) (vs : List Value) → (tallied t vs).any ≡ (t.any || any_true vs)
any_is t [] = or_false t.any
any_is t (v ∷ vs) = any_is (noted t v) vs ∙ or_assoc t.any (truth_in v) (any_true vs)

lesser_assoc : (a b c : ℤ) → lesser (lesser a b) c ≡ lesser a (lesser b c)
lesser_assoc a b c = grind (arith, ints)

greater_assoc : (a b c : ℤ) → greater (greater a b) c ≡ greater a (greater b c)
greater_assoc a b c = grind (arith, ints)

least_led : (a z : ℤ) (zs : List ℤ) → least_of (lesser a z) zs ≡ lesser a (least_of z zs)
least_led a z [] = refl
least_led a z (y ∷ ys) = lesser_assoc a z (least_of y ys)

greatest_led : (a z : ℤ) (zs : List ℤ) → greatest_of (greater a z) zs ≡ greater a (greatest_of z zs)
greatest_led a z [] = refl
greatest_led a z (y ∷ ys) = greater_assoc a z (greatest_of y ys)

lowest_is : (t : Tally) (a : ℤ) (vs : List Value) → t.lowest ≡ Some a → (tallied t vs).lowest ≡ Some (least_of a (map number_in vs))
lowest_is t a [] e = e
lowest_is t a (v ∷ vs) e =
    lowest_is (noted t v) (lesser a (number_in v)) vs (ap (λ (o : Option ℤ). Some (lower o (number_in v))) e)
    ∙ ap Some (least_led a (number_in v) (map number_in vs))

highest_is : (t : Tally) (a : ℤ) (vs : List Value) → t.highest ≡ Some a → (tallied t vs).highest ≡ Some (greatest_of a (map number_in vs))
highest_is t a [] e = e
highest_is t a (v ∷ vs) e =
    highest_is (noted t v) (greater a (number_in v)) vs (ap (λ (o : Option ℤ). Some (higher o (number_in v))) e)
    ∙ ap Some (greatest_led a (number_in v) (map number_in vs))

within_reads : (names : Naming) (k : Kind) (z : ℤ) → read_outcome names (within_kind k z) ≡ within k z
within_reads names k z =
    elim (is_within k z) as (λ b. read_outcome names (if b then outcome.Value (value.Int z) else outcome.Fault fault.Overflow) ≡ (if b then Given (field.Int z) else Faulted fault.Overflow)) [ true ↦ refl | false ↦ refl ]

minimum_reads : (names : Naming) (vs : List Value) → read_outcome names (number_or_missing (tallied empty vs).lowest) ≡ minimum_of (map number_in vs)
minimum_reads names [] = refl
minimum_reads names (v ∷ vs) = ap (λ o. read_outcome names (number_or_missing o)) (lowest_is (noted empty v) (number_in v) vs refl)

maximum_reads : (names : Naming) (vs : List Value) → read_outcome names (number_or_missing (tallied empty vs).highest) ≡ maximum_of (map number_in vs)
maximum_reads names [] = refl
maximum_reads names (v ∷ vs) = ap (λ o. read_outcome names (number_or_missing o)) (highest_is (noted empty v) (number_in v) vs refl)

-- the mean of a tally is a quotient
abbrev pub mean_number : List Value → ℤ
mean_number vs = int_div (total (map number_in vs)) (pos (length (map number_in vs)))

mean_is : (v : Value) (vs : List Value) → mean (tallied empty (v ∷ vs)) ≡ outcome.Value (value.Int (mean_number (v ∷ vs)))
mean_is v vs =
    let m : (tallied empty (v ∷ vs)).many ≡ suc (length (map number_in vs)) = let e = many_is empty (v ∷ vs) in omega (arith, e, length-map vs number_in) in
    let w : (tallied empty (v ∷ vs)).whole ≡ total (map number_in (v ∷ vs)) = whole_is empty (v ∷ vs) ∙ +ℤ_idl (total (map number_in (v ∷ vs))) in
    let z : nat_eq (tallied empty (v ∷ vs)).many 0 ≡ false = ne_eqb (tallied empty (v ∷ vs)).many 0 (λ q. omega (arith, m, q)) in
    λ i. if z i then outcome.Missing else outcome.Value (value.Int (int_div (w i) (pos (m i))))

mean_reads : (names : Naming) (vs : List Value) → read_outcome names (mean (tallied empty vs)) ≡ mean_of (map number_in vs)
mean_reads names [] = refl
mean_reads names (v ∷ vs) = ap (read_outcome names) (mean_is v vs)

-- the answer is the aggregation
pub answer_reads : (names : Naming) (how : Agg) (k : Kind) (vs : List Value) → read_outcome names (answer how k (tallied empty vs)) ≡ aggregated how k (map (read names) vs)
answer_reads names agg.Count k vs = ap (λ n. Given (field.Int (pos n))) (let e = many_is empty vs in omega (arith, e, length-map vs (read names)))
answer_reads names agg.Sum k vs =
    within_reads names k (tallied empty vs).whole
    ∙ ap (within k) (whole_is empty vs ∙ (+ℤ_idl (total (map number_in vs)) ∙ ap total (sym (numbers_read names vs))))
answer_reads names agg.Min k vs = minimum_reads names vs ∙ ap minimum_of (sym (numbers_read names vs))
answer_reads names agg.Max k vs = maximum_reads names vs ∙ ap maximum_of (sym (numbers_read names vs))
answer_reads names agg.Avg k vs = mean_reads names vs ∙ ap mean_of (sym (numbers_read names vs))
answer_reads names agg.Forall k vs = ap (λ b. Given (field.Bool b)) (every_is empty vs ∙ sym (every_read names vs))
answer_reads names agg.Exists k vs = ap (λ b. Given (field.Bool b)) (any_is empty vs ∙ sym (any_read names vs))

-- the values of a window, read through a naming
pub window_reads : (names : Naming) (over time : ℕ) (xs : List Timed) → values_within over time (map (read_timed names) xs) ≡ map (read names) (inside over time xs)
window_reads names over time [] = refl
window_reads names over time (x ∷ xs) =
    let r = window_reads names over time xs in
    elim (nat_lt time (x.at + over)) as (λ b. map (λ (v : ℕ × Field). v.1) (if b then read_timed names x ∷ filter (is_within_window over time) (map (read_timed names) xs) else filter (is_within_window over time) (map (read_timed names) xs))
    ≡ map (read names) (if b then x.item ∷ inside over time xs else inside over time xs)) [
      | true ↦ ap (λ l. read names x.item ∷ l) r
      | false ↦ r
    ]

-- the kind of the answer

integer_of : (k : Kind) (z : ℤ) → IsTrue (is_integer k) → IsTrue (is_within k z) → IsTrue (is_outcome_of k (outcome.Value (value.Int z)))
integer_of k z h g = rw h g

pub answer_kind : (how : Agg) (k : Kind) (vs : List Value) → length vs < 2 ^ 63 → IsTrue (takes how k) → AllIn k (map number_in vs) → IsTrue (is_outcome_of (gives_kind how k) (answer how k (tallied empty vs)))
answer_kind agg.Count k vs l f h = let e = many_is empty vs in let m : (tallied empty vs).many < 2 ^ 63 = omega (arith, e) in grind (arith, ints)
answer_kind agg.Sum k vs l f h =
    (elim (is_within k (tallied empty vs).whole) as (λ b. is_within k (tallied empty vs).whole ≡ b → IsTrue (is_outcome_of k (if b then outcome.Value (value.Int (tallied empty vs).whole) else outcome.Fault fault.Overflow))) [
      | true ↦ λ e. integer_of k (tallied empty vs).whole f e
      | false ↦ λ e. refl
    ]) refl
answer_kind agg.Min k [] l f h = refl
answer_kind agg.Min k (v ∷ vs) l f h =
    subst (λ (o : Option ℤ). IsTrue (is_outcome_of k (number_or_missing o))) (sym (lowest_is (noted empty v) (number_in v) vs refl)) (integer_of k (least_of (number_in v) (map number_in vs)) f (least_within k (number_in v) (map number_in vs) h))
answer_kind agg.Max k [] l f h = refl
answer_kind agg.Max k (v ∷ vs) l f h =
    subst (λ (o : Option ℤ). IsTrue (is_outcome_of k (number_or_missing o))) (sym (highest_is (noted empty v) (number_in v) vs refl)) (integer_of k (greatest_of (number_in v) (map number_in vs)) f (greatest_within k (number_in v) (map number_in vs) h))
answer_kind agg.Avg k [] l f h = refl
answer_kind agg.Avg k (v ∷ vs) l f h =
    subst (λ (o : Outcome). IsTrue (is_outcome_of k o)) (sym (mean_is v vs)) (integer_of k (mean_number (v ∷ vs)) f (mean_in k (number_in v) (map number_in vs) h))
answer_kind agg.Forall k vs l f h = refl
answer_kind agg.Exists k vs l f h = refl

-- the loop over the values

lt_yes : (a b : ℕ) → a < b → nat_lt a b ≡ true
lt_yes a b h = grind (arith, nat_tests)

lt_no : (a b : ℕ) → b ≤ a → nat_lt a b ≡ false
lt_no a b h = grind (arith, nat_tests)

module _ (over time : ℕ) (t : Tally) (xs : List Timed) (i : ℕ) (d : Timed) (l : i < length xs) where
  cut : inside over time (drop i xs) ≡ inside over time (get_or xs i d ∷ drop (i + 1) xs)
  cut = ap (inside over time) (drop-cons xs i d l ∙ ap (λ n. get_or xs i d ∷ drop n xs) (sym (add-one i)))

  pub step_in : time < (get_or xs i d).at + over → tallied (noted t (get_or xs i d).item) (inside over time (drop (i + 1) xs)) ≡ tallied t (inside over time (drop i xs))
  step_in h = sym (ap (tallied t) (cut ∙ ap (λ b. if b then (get_or xs i d).item ∷ inside over time (drop (i + 1) xs) else inside over time (drop (i + 1) xs)) (lt_yes time ((get_or xs i d).at + over) h)))

  pub step_out : (get_or xs i d).at + over ≤ time → tallied t (inside over time (drop (i + 1) xs)) ≡ tallied t (inside over time (drop i xs))
  step_out h = sym (ap (tallied t) (cut ∙ ap (λ b. if b then (get_or xs i d).item ∷ inside over time (drop (i + 1) xs) else inside over time (drop (i + 1) xs)) (lt_no time ((get_or xs i d).at + over) h)))
