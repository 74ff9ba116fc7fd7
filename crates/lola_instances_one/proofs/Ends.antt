-- What a ring of the last values answers.
use Rattle.std.proofs.Common.{◌≡◌, ℕ, ◌+◌, ◌-◌, ◌≤◌, ◌<◌, List, [], ◌∷◌, ◌++◌, length, map, refl, ap, sym, ◌∙◌, arith, Option, Some, None, slice_get, nat_lt, nat_le, if◌then◌else◌, length-append, inl, inr, true, false}
use Rattle.std.specs.Option.{option_map}
use Rattle.circular_buffer.specs.Buffer.{keep_last}
use Rattle.circular_buffer.proofs.Places.{below_or_not, slice_get-append_left}
use Rattle.lola_value.specs.declared.text.Field.{Field}
use Rattle.lola_value.specs.declared.value.Value.{Value}
use Rattle.lola_value.specs.Naming.{Naming, read, read_outcome}
use Rattle.lola_value.specs.Answer.{Missing}
use Rattle.lola_model.specs.Accesses.{from_end}
use Rattle.lola_model.specs.Accesses as accesses
use Rattle.lola_model.specs.Denotation.{given_or_missing}
use Rattle.lola_buffer.specs.Kept.{before_newest}
use Rattle.lola_buffer.proofs.Ends.{keep_last-again, before_newest-kept, before_newest-map, map-keep_last}
use Rattle.lola_panes.proofs.Noting.{lt_yes, lt_no, le_yes, le_no}
use Rattle.lola_instances_one.specs.Holdings.{value_or_missing}

-- a value that there may be, read through a naming
answer_of_value : (names : Naming) (o : Option Value) → read_outcome names (value_or_missing o) ≡ given_or_missing (option_map (read names) o)
answer_of_value names None = refl
answer_of_value names (Some v) = refl

given_of_timed : (o : Option (ℕ × Field)) → accesses.value_or_missing o ≡ given_or_missing (option_map (λ v. v.1) o)
given_of_timed None = refl
given_of_timed (Some v) = refl

-- a place before the newest, from 0, is one from the end, from 1
from_end-before : (all : List (ℕ × Field)) (k : ℕ) → given_or_missing (option_map (λ v. v.1) (before_newest k all)) ≡ from_end all (k + 1)
from_end-before all k =
    elim (below_or_not k (length all)) [
      | inl less ↦
          let a : nat_lt k (length all) ≡ true = lt_yes k (length all) less in
          let b : nat_le (k + 1) (length all) ≡ true = le_yes (k + 1) (length all) (omega arith) in
          let i : length all - k - 1 ≡ length all - (k + 1) = omega arith in
          ap (λ t. given_or_missing (option_map (λ (v : ℕ × Field). v.1) (if t then slice_get all (length all - k - 1) else None))) a
          ∙ (sym (given_of_timed (slice_get all (length all - k - 1)))
          ∙ (ap (λ j. accesses.value_or_missing (slice_get all j)) i
          ∙ sym (ap (λ t. if t then accesses.value_or_missing (slice_get all (length all - (k + 1))) else Missing) b)))
      | inr more ↦
          let a : nat_lt k (length all) ≡ false = lt_no k (length all) more in
          let b : nat_le (k + 1) (length all) ≡ false = le_no (k + 1) (length all) (omega arith) in
          ap (λ t. given_or_missing (option_map (λ (v : ℕ × Field). v.1) (if t then slice_get all (length all - k - 1) else None))) a
          ∙ sym (ap (λ t. if t then accesses.value_or_missing (slice_get all (length all - (k + 1))) else Missing) b)
    ]

-- with one more value each stands one further from the end
pub from_end-more : (values : List (ℕ × Field)) (x : ℕ × Field) (k : ℕ) → 1 ≤ k → from_end (values ++ x ∷ []) (k + 1) ≡ from_end values k
from_end-more values x k h =
    let l : length (values ++ x ∷ []) ≡ length values + 1 = length-append values (x ∷ []) in
    elim (below_or_not (length values) k) [
      | inl less ↦
          let a : nat_le (k + 1) (length (values ++ x ∷ [])) ≡ false = le_no (k + 1) (length (values ++ x ∷ [])) (omega arith) in
          let b : nat_le k (length values) ≡ false = le_no k (length values) less in
          ap (λ t. if t then accesses.value_or_missing (slice_get (values ++ x ∷ []) (length (values ++ x ∷ []) - (k + 1))) else Missing) a
          ∙ sym (ap (λ t. if t then accesses.value_or_missing (slice_get values (length values - k)) else Missing) b)
      | inr more ↦
          let a : nat_le (k + 1) (length (values ++ x ∷ [])) ≡ true = le_yes (k + 1) (length (values ++ x ∷ [])) (omega arith) in
          let b : nat_le k (length values) ≡ true = le_yes k (length values) more in
          let i : length (values ++ x ∷ []) - (k + 1) ≡ length values - k = omega arith in
          ap (λ t. if t then accesses.value_or_missing (slice_get (values ++ x ∷ []) (length (values ++ x ∷ []) - (k + 1))) else Missing) a
          ∙ (ap (λ j. accesses.value_or_missing (slice_get (values ++ x ∷ []) j)) i
          ∙ (ap accesses.value_or_missing (slice_get-append_left values (x ∷ []) (length values - k) (omega arith))
          ∙ sym (ap (λ t. if t then accesses.value_or_missing (slice_get values (length values - k)) else Missing) b)))
    ]

-- what a ring answers is what the whole list does
pub ring_answers : (names : Naming) (ring : List Value) (n : ℕ) (all : List (ℕ × Field)) (k : ℕ) (o : Option Value) → map (read names) ring ≡ keep_last n (map (λ v. v.1) all) → k < n → o ≡ before_newest k ring
    → read_outcome names (value_or_missing o) ≡ from_end all (k + 1)
ring_answers names ring n all k o e h q =
    answer_of_value names o
    ∙ (ap (λ (p : Option Value). given_or_missing (option_map (read names) p)) q
    ∙ (ap given_or_missing (sym (before_newest-map (read names) k ring)
    ∙ (ap (before_newest k) e ∙ (before_newest-kept k n (map (λ (v : ℕ × Field). v.1) all) h ∙ before_newest-map (λ (v : ℕ × Field). v.1) k all)))
    ∙ from_end-before all k))

-- a ring that is given a value
pub ring_told : (names : Naming) (ring : List Value) (n : ℕ) (all : List (ℕ × Field)) (v : Value) (time : ℕ) → map (read names) ring ≡ keep_last n (map (λ v. v.1) all)
    → map (read names) (keep_last n (ring ++ v ∷ [])) ≡ keep_last n (map (λ v. v.1) (all ++ (time, read names v) ∷ []))
ring_told names ring n all v time e =
    map-keep_last (read names) n (ring ++ v ∷ [])
    ∙ (ap (keep_last n) (map_last (read names) ring v ∙ ap (λ l. l ++ read names v ∷ []) e)
    ∙ (keep_last-again n (map (λ (v : ℕ × Field). v.1) all) (read names v)
    ∙ ap (keep_last n) (sym (map_last (λ (v : ℕ × Field). v.1) all (time, read names v)))))
  where
    map_last : {A B : Type 0} (f : A → B) (xs : List A) (x : A) → map f (xs ++ x ∷ []) ≡ map f xs ++ f x ∷ []
    map_last f [] x = refl
    map_last f (y ∷ xs) x = ap (λ l. f y ∷ l) (map_last f xs x)
