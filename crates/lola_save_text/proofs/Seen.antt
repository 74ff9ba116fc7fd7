-- What accesses and windows answer in a content whose values are of their streams' kinds.
use Rattle.std.proofs.Common.{◌≡◌, ℕ, zero, suc, ◌+◌, ◌-◌, ◌<◌, ◌≤◌, ◌^◌, List, [], ◌∷◌, ◌++◌, length, map, refl, arith, ℤ, pos, Bool, true, false, ◌&&◌, ◌||◌, Option, Some, None, nat_le, nat_lt, if◌then◌else◌, slice_get, length-append}
use Rattle.std.specs.Prelude.{filter}
use Rattle.std.proofs.lemmas.Bool.{and_from, le-leb}
use Rattle.lola_value.specs.declared.value.Kind.{Kind}
use Rattle.lola_value.specs.declared.value.Kind.TheVariants as kind
use Rattle.lola_value.specs.declared.text.Field.{Field}
use Rattle.lola_value.specs.declared.text.Field.TheVariants as field
use Rattle.lola_value.specs.declared.value.FaultKind.TheVariants as fault
use Rattle.lola_value.specs.Answer.{Answer, Given, Missing, Faulted, Poisoned}
use Rattle.lola_value.specs.Arithmetic.{all_equal, is_within, within}
use Rattle.lola_value.specs.Kinds.{is_integer}
use Rattle.lola_model.specs.Accesses.{life_with, life_in, bad_in, value_or_missing, from_end, held, accessed, answer_of, one_more, all_values}
use Rattle.lola_model.specs.Content.{Life, StreamContent, Content}
use Rattle.lola_model.specs.Store.{StreamLayout, kind_in, gives_kind}
use Rattle.lola_model.specs.Typing.{takes}
use Rattle.lola_model.specs.Windows.{number_of, total, least_of, greatest_of, mean_of, minimum_of, maximum_of, aggregated, is_within_window, values_within, window_values, is_poisoned, window_answer}
use Rattle.lola_model.specs.declared.expr.Access.{Access}
use Rattle.lola_model.specs.declared.expr.Access.TheVariants as access
use Rattle.lola_model.specs.declared.spec.Agg.{Agg}
use Rattle.lola_model.specs.declared.spec.Agg.TheVariants as agg
use Rattle.lola_model.specs.declared.spec.WindowSpec.{WindowSpec}
use Rattle.lola_save_text.specs.Fitting.{is_value}
use Rattle.lola_save_text.proofs.Ranged.{AllIn, AreValues, numbers-in, least-in, greatest-in, mean-in}

-- an answer is a value of a kind, or none
abbrev pub is_answer : Kind → Answer → Bool
is_answer k (Given v) = is_value k v
is_answer k Missing = true
is_answer k (Faulted f) = true
is_answer k Poisoned = true

-- values, each with its time, are of a kind
abbrev pub AreOfKind : Kind → List (ℕ × Field) → Type 0
AreOfKind k [] = Unit {0}
AreOfKind k (v ∷ vs) = (is_value k v.1 ≡ true) × AreOfKind k vs

-- the values of a life are of a kind, and no more than so many
pub record IsLifeOf (k : Kind) (most : ℕ) (l : Life) : Type 0 where
  pub earlier : AreOfKind k l.earlier
  pub outcome : is_answer k l.outcome ≡ true
  pub few : length l.earlier ≤ most

abbrev pub AreLivesOf : Kind → ℕ → List Life → Type 0
AreLivesOf k most [] = Unit {0}
AreLivesOf k most (l ∷ ls) = IsLifeOf k most l × AreLivesOf k most ls

-- so are those of all streams, each of its stream's kind
abbrev pub IsContentOf : List StreamLayout → ℕ → Content → Type 0
IsContentOf layouts most c = (n : ℕ) (s : StreamContent) → slice_get c.streams n ≡ Some s → AreLivesOf (kind_in (slice_get layouts n)) most s.lives

-- values at places

value-at : (k : Kind) (vs : List (ℕ × Field)) (i : ℕ) → AreOfKind k vs → is_answer k (value_or_missing (slice_get vs i)) ≡ true
value-at k [] zero h = refl
value-at k [] (suc i) h = refl
value-at k (v ∷ vs) zero h = h.0
value-at k (v ∷ vs) (suc i) h = value-at k vs i h.1

from-end-of : (k : Kind) (vs : List (ℕ × Field)) (i : ℕ) → AreOfKind k vs → is_answer k (from_end vs i) ≡ true
from-end-of k vs i h = by (nat_le i (length vs))
  where
    by : (b : Bool) → is_answer k (if b then value_or_missing (slice_get vs (length vs - i)) else Missing) ≡ true
    by true = value-at k vs (length vs - i) h
    by false = refl

held-of : (k : Kind) (a : Answer) (vs : List (ℕ × Field)) → is_answer k a ≡ true → AreOfKind k vs → is_answer k (held a vs) ≡ true
held-of k Missing vs h g = from-end-of k vs 1 g
held-of k (Given v) vs h g = h
held-of k (Faulted f) vs h g = refl
held-of k Poisoned vs h g = refl

-- the life that is found, if one is
abbrev IsFoundOf : Kind → ℕ → Option Life → Type 0
IsFoundOf k most None = Unit {0}
IsFoundOf k most (Some l) = IsLifeOf k most l

found-of : (k : Kind) (most : ℕ) (p : List Field) (ls : List Life) → AreLivesOf k most ls → IsFoundOf k most (life_with p ls)
found-of k most p [] h = tt
found-of k most p (l ∷ ls) h = by (all_equal p l.params) (found-of k most p ls h.1)
  where
    by : (b : Bool) → IsFoundOf k most (life_with p ls) → IsFoundOf k most (if b then Some l else life_with p ls)
    by true g = h.0
    by false g = g

found-in : (k : Kind) (most : ℕ) (p : List Field) (o : Option StreamContent) → ((s : StreamContent) → o ≡ Some s → AreLivesOf k most s.lives) → IsFoundOf k most (life_in p o)
found-in k most p None h = tt
found-in k most p (Some s) h = found-of k most p s.lives (h s refl)

-- what an access answers
accessed-of : (k : Kind) (most : ℕ) (how : Access) (bad : Bool) (o : Option Life) → IsFoundOf k most o → is_answer k (accessed how bad o) ≡ true
accessed-of k most access.Direct true o h = refl
accessed-of k most access.Direct false None h = refl
accessed-of k most access.Direct false (Some l) h = h.outcome
accessed-of k most access.Get true o h = refl
accessed-of k most access.Get false None h = refl
accessed-of k most access.Get false (Some l) h = h.outcome
accessed-of k most access.Hold true o h = refl
accessed-of k most access.Hold false None h = refl
accessed-of k most access.Hold false (Some l) h = held-of k l.outcome l.earlier h.outcome h.earlier
accessed-of k most (access.Offset j) bad None h = refl
accessed-of k most (access.Offset j) bad (Some l) h = from-end-of k l.earlier j h.earlier

pub answer-of : (layouts : List StreamLayout) (most : ℕ) (c : Content) → IsContentOf layouts most c → (how : Access) (n : ℕ) (q : List Field)
    → is_answer (kind_in (slice_get layouts n)) (answer_of c how n q) ≡ true
answer-of layouts most c h how n q =
    accessed-of (kind_in (slice_get layouts n)) most how (bad_in (slice_get c.streams n)) (life_in q (slice_get c.streams n))
    (found-in (kind_in (slice_get layouts n)) most q (slice_get c.streams n) (h n))

-- what a window answers

more-of : (k : Kind) (vs : List (ℕ × Field)) (t : ℕ) (a : Answer) → AreOfKind k vs → is_answer k a ≡ true → AreOfKind k (vs ++ one_more t a)
more-of k [] t (Given v) h g = (g, tt)
more-of k [] t Missing h g = tt
more-of k [] t (Faulted f) h g = tt
more-of k [] t Poisoned h g = tt
more-of k (v ∷ vs) t a h g = (h.0, more-of k vs t a h.1 g)

few-more : (t : ℕ) (a : Answer) → length (one_more t a) ≤ 1
few-more t (Given v) = omega arith
few-more t Missing = omega arith
few-more t (Faulted f) = omega arith
few-more t Poisoned = omega arith

within-of : (k : Kind) (over time : ℕ) (vs : List (ℕ × Field)) → AreOfKind k vs → AreValues k (values_within over time vs)
within-of k over time [] h = tt
within-of k over time (v ∷ vs) h = by (is_within_window over time v) (within-of k over time vs h.1)
  where
    by : (b : Bool) → AreValues k (values_within over time vs)
        → AreValues k (map (λ (x : ℕ × Field). x.1) (if b then v ∷ filter (is_within_window over time) vs else filter (is_within_window over time) vs))
    by true on = (h.0, on)
    by false on = on

few-within : (over time : ℕ) (vs : List (ℕ × Field)) → length (values_within over time vs) ≤ length vs
few-within over time [] = omega arith
few-within over time (v ∷ vs) = by (is_within_window over time v) (few-within over time vs)
  where
    by : (b : Bool) → length (values_within over time vs) ≤ length vs
        → length (map (λ (x : ℕ × Field). x.1) (if b then v ∷ filter (is_within_window over time) vs else filter (is_within_window over time) vs)) ≤ suc (length vs)
    by true on = omega (arith, on)
    by false on = omega (arith, on)

-- the values of a window
pub record AreWindowValues (k : Kind) (most : ℕ) (vs : List Field) : Type 0 where
  pub values : AreValues k vs
  pub few : length vs ≤ most + 1

window-values-of : (k : Kind) (most over time : ℕ) (o : Option Life) → IsFoundOf k most o → AreWindowValues k most (window_values over time o)
window-values-of k most over time None h = record { values = tt; few = omega arith }
window-values-of k most over time (Some l) h = record {
  values = within-of k over time (all_values time l) (more-of k l.earlier time l.outcome h.earlier h.outcome);
  few =
      let a = few-within over time (all_values time l) in
      let b = length-append l.earlier (one_more time l.outcome) in
      let c = few-more time l.outcome in
      let d = h.few in
      omega (arith, a, b, c, d);
}

number-of-kind : (k : Kind) (z : ℤ) → is_integer k ≡ true → is_within k z ≡ true → is_value k (field.Int z) ≡ true
number-of-kind k z h g = and_from (is_integer k) (is_within k z) h g

-- a number that is tested against a kind
pub within-answer : (k : Kind) (z : ℤ) → is_integer k ≡ true → is_answer k (within k z) ≡ true
within-answer k z h = by (is_within k z) refl
  where
    by : (b : Bool) → is_within k z ≡ b → is_answer k (if b then Given (field.Int z) else Faulted fault.Overflow) ≡ true
    by true e = number-of-kind k z h e
    by false e = refl

least-answer : (k : Kind) (zs : List ℤ) → is_integer k ≡ true → AllIn k zs → is_answer k (minimum_of zs) ≡ true
least-answer k [] i h = refl
least-answer k (z ∷ zs) i h = number-of-kind k (least_of z zs) i (least-in k z zs h)

greatest-answer : (k : Kind) (zs : List ℤ) → is_integer k ≡ true → AllIn k zs → is_answer k (maximum_of zs) ≡ true
greatest-answer k [] i h = refl
greatest-answer k (z ∷ zs) i h = number-of-kind k (greatest_of z zs) i (greatest-in k z zs h)

mean-answer : (k : Kind) (zs : List ℤ) → is_integer k ≡ true → AllIn k zs → is_answer k (mean_of zs) ≡ true
mean-answer k [] i h = refl
mean-answer k (z ∷ zs) i h = number-of-kind k _ i (mean-in k z zs h)

count-answer : (n : ℕ) → n < 2 ^ 64 → is_value kind.UInt64 (field.Int (pos n)) ≡ true
count-answer n h = and_from _ _ (le-leb 0 n (omega arith)) (le-leb n 18446744073709551615 (omega arith))

aggregated-of : (how : Agg) (k : Kind) (most : ℕ) (vs : List Field) → takes how k ≡ true → most < 2 ^ 63 → AreWindowValues k most vs → is_answer (gives_kind how k) (aggregated how k vs) ≡ true
aggregated-of agg.Count k most vs t few h = count-answer (length vs) (let a = h.few in omega (arith, a, few))
aggregated-of agg.Sum k most vs t few h = within-answer k (total (map number_of vs)) t
aggregated-of agg.Min k most vs t few h = least-answer k (map number_of vs) t (numbers-in k vs h.values)
aggregated-of agg.Max k most vs t few h = greatest-answer k (map number_of vs) t (numbers-in k vs h.values)
aggregated-of agg.Avg k most vs t few h = mean-answer k (map number_of vs) t (numbers-in k vs h.values)
aggregated-of agg.Forall k most vs t few h = refl
aggregated-of agg.Exists k most vs t few h = refl

pub window-of : (layouts : List StreamLayout) (most : ℕ) (c : Content) → IsContentOf layouts most c → most < 2 ^ 63 → (w : WindowSpec) (q : List Field)
    → takes w.using (kind_in (slice_get layouts w.target)) ≡ true
    → is_answer (gives_kind w.using (kind_in (slice_get layouts w.target))) (window_answer c w (kind_in (slice_get layouts w.target)) q) ≡ true
window-of layouts most c h few w q t =
    by (bad_in o || is_poisoned l) (w.exact && nat_lt c.time (c.start + w.over))
  where
    k : Kind
    k = kind_in (slice_get layouts w.target)

    o : Option StreamContent
    o = slice_get c.streams w.target

    l : Option Life
    l = life_in q o

    by : (a b : Bool) → is_answer (gives_kind w.using k) (if a then Poisoned else (if b then Missing else aggregated w.using k (window_values w.over c.time l))) ≡ true
    by true b = refl
    by false true = refl
    by false false = aggregated-of w.using k most _ t few (window-values-of k most w.over c.time l (found-in k most q o (h w.target)))
