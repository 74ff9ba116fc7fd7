-- What an instance recalls, and what its calls answer of that.
use Rattle.std.proofs.Common.{◌≡◌, ℕ, zero, suc, ◌+◌, ◌-◌, ◌≤◌, ◌<◌, List, [], ◌∷◌, ◌++◌, length, map, refl, ap, sym, ◌∙◌, subst, arith, Option, Some, None, slice_get, nat_le, nat_eq, if◌then◌else◌, true, false, IsTrue, length-append}
use Rattle.std.specs.Option.{option_map}
use Rattle.std.proofs.lemmas.Bool.Decides.{nat_tests}
use Rattle.std.proofs.lemmas.Bool.{leb-true, leb-false}
use Rattle.std.proofs.lemmas.List.{append-nil, length-map}
use Rattle.std.proofs.lemmas.Option.{slice_get-map}
use Rattle.lola_value.specs.declared.text.Field.{Field}
use Rattle.lola_value.specs.declared.value.Kind.{Kind}
use Rattle.lola_value.specs.declared.value.Value.{Value}
use Rattle.lola_value.specs.declared.value.Outcome.{Outcome}
use Rattle.lola_value.specs.declared.value.Outcome.TheVariants as outcome
use Rattle.lola_value.specs.Answer.{Missing}
use Rattle.lola_value.specs.Naming.{Naming, read, read_outcome, IsHeld, IsHeldIn}
use Rattle.lola_value.specs.Kinds.{is_of_kind}
use Rattle.lola_model.specs.Accesses.{from_end, one_more, value_or_missing}
use Rattle.lola_model.specs.Reading.{held_answer}
use Rattle.lola_model.specs.Store.{is_outcome_of}
use Rattle.lola_store.specs.declared.tally.Timed.{Timed}
use Rattle.lola_store.specs.declared.instance.Instance.{Instance}
use Rattle.lola_store.specs.Tallies.{read_timed, AllOf}
use Rattle.lola_store.specs.Instances.{shown, item_or_missing, outcome_from_end, AllHeld, Recalls}

le_yes : (a b : ℕ) → a ≤ b → nat_le a b ≡ true
le_yes a b h = grind (arith, nat_tests)

le_no : (a b : ℕ) → b < a → nat_le a b ≡ false
le_no a b h = grind (arith, nat_tests)

-- reading from the end

item_read : (names : Naming) (o : Option Timed) → read_outcome names (item_or_missing o) ≡ value_or_missing (option_map (read_timed names) o)
item_read names None = refl
item_read names (Some v) = refl

from_end-read : (names : Naming) (vs : List Timed) (k : ℕ) → read_outcome names (outcome_from_end vs k) ≡ from_end (map (read_timed names) vs) k
from_end-read names vs k =
    (elim (nat_le k (length vs)) as (λ b. read_outcome names (if b then item_or_missing (slice_get vs (length vs - k)) else outcome.Missing) ≡ (if b then value_or_missing (slice_get (map (read_timed names) vs) (length vs - k)) else Missing)) [
      | true ↦ item_read names (slice_get vs (length vs - k)) ∙ ap value_or_missing (sym (slice_get-map (read_timed names) vs (length vs - k)))
      | false ↦ refl
    ])
    ∙ ap (λ n. if nat_le k n then value_or_missing (slice_get (map (read_timed names) vs) (n - k)) else Missing) (sym (length-map vs (read_timed names)))

slice_get-left : (xs ys : List (ℕ × Field)) (i : ℕ) → i < length xs → slice_get (xs ++ ys) i ≡ slice_get xs i
slice_get-left [] ys i h = absurd (omega arith)
slice_get-left (x ∷ xs) ys zero h = refl
slice_get-left (x ∷ xs) ys (suc i) h = slice_get-left xs ys i (omega arith)

from_end-more : (values : List (ℕ × Field)) (x : ℕ × Field) (k : ℕ) → 1 ≤ k → from_end (values ++ x ∷ []) (k + 1) ≡ from_end values k
from_end-more values x k h =
    let l : length (values ++ x ∷ []) ≡ length values + 1 = length-append values (x ∷ []) in
    (elim (nat_le k (length values)) as (λ b. nat_le k (length values) ≡ b → from_end (values ++ x ∷ []) (k + 1) ≡ (if b then value_or_missing (slice_get values (length values - k)) else Missing)) [
      | false ↦ λ e.
          let less : length values < k = leb-false k (length values) e in
          let a : nat_le (k + 1) (length (values ++ x ∷ [])) ≡ false = le_no (k + 1) (length (values ++ x ∷ [])) (omega arith) in
          ap (λ t. if t then value_or_missing (slice_get (values ++ x ∷ []) (length (values ++ x ∷ []) - (k + 1))) else Missing) a
      | true ↦ λ e.
          let more : k ≤ length values = leb-true k (length values) e in
          let a : nat_le (k + 1) (length (values ++ x ∷ [])) ≡ true = le_yes (k + 1) (length (values ++ x ∷ [])) (omega arith) in
          let i : length (values ++ x ∷ []) - (k + 1) ≡ length values - k = omega arith in
          ap (λ t. if t then value_or_missing (slice_get (values ++ x ∷ []) (length (values ++ x ∷ []) - (k + 1))) else Missing) a
          ∙ (ap (λ j. value_or_missing (slice_get (values ++ x ∷ []) j)) i
          ∙ ap value_or_missing (slice_get-left values (x ∷ []) (length values - k) (omega arith)))
    ]) refl

-- what is held

item_held : (names : Naming) (vs : List Timed) (j : ℕ) → AllHeld names vs → IsHeldIn names (item_or_missing (slice_get vs j))
item_held names [] zero h = tt
item_held names [] (suc j) h = tt
item_held names (v ∷ vs) zero h = h.0
item_held names (v ∷ vs) (suc j) h = item_held names vs j h.1

end_held : (names : Naming) (vs : List Timed) (k : ℕ) → AllHeld names vs → IsHeldIn names (outcome_from_end vs k)
end_held names vs k h =
    elim (nat_le k (length vs)) as (λ b. IsHeldIn names (if b then item_or_missing (slice_get vs (length vs - k)) else outcome.Missing)) [
      | true ↦ item_held names vs (length vs - k) h
      | false ↦ tt
    ]

pub held-more : (names : Naming) (vs : List Timed) (v : Timed) → AllHeld names vs → IsHeld names v.item → AllHeld names (vs ++ v ∷ [])
held-more names [] v h k = (k, tt)
held-more names (x ∷ vs) v h k = (h.0, held-more names vs v h.1 k)

-- values of a kind

item_kind : (k : Kind) (vs : List Timed) (j : ℕ) → AllOf k vs → IsTrue (is_outcome_of k (item_or_missing (slice_get vs j)))
item_kind k [] zero h = refl
item_kind k [] (suc j) h = refl
item_kind k (v ∷ vs) zero h = h.0
item_kind k (v ∷ vs) (suc j) h = item_kind k vs j h.1

pub end_kind : (k : Kind) (vs : List Timed) (n : ℕ) → AllOf k vs → IsTrue (is_outcome_of k (outcome_from_end vs n))
end_kind k vs n h =
    elim (nat_le n (length vs)) as (λ b. IsTrue (is_outcome_of k (if b then item_or_missing (slice_get vs (length vs - n)) else outcome.Missing))) [
      | true ↦ item_kind k vs (length vs - n) h
      | false ↦ refl
    ]

pub kind-more : (k : Kind) (vs : List Timed) (v : Timed) → AllOf k vs → IsTrue (is_of_kind k v.item) → AllOf k (vs ++ v ∷ [])
kind-more k [] v h e = (e, tt)
kind-more k (x ∷ vs) v h e = (h.0, kind-more k vs v h.1 e)

pub shown_kind : (k : Kind) (step : ℕ) (x : Instance) → IsTrue (is_outcome_of k x.outcome) → IsTrue (is_outcome_of k (shown step x))
shown_kind k step x h = elim (nat_eq x.told_at step) as (λ b. IsTrue (is_outcome_of k (if b then x.outcome else outcome.Missing))) [ true ↦ h | false ↦ refl ]

-- the answers of an instance

no_more : (time : ℕ) (names : Naming) (o : Outcome) → ((v : Value) → o ≡ outcome.Value v → ⊥) → one_more time (read_outcome names o) ≡ []
no_more time names (outcome.Value v) h = absurd (h v refl)
no_more time names outcome.Missing h = refl
no_more time names (outcome.Fault k) h = refl
no_more time names outcome.Poison h = refl

module _ (time step : ℕ) (names : Naming) (x : Instance) (values : List (ℕ × Field)) (h : Recalls time step names x values) where
  without : ((v : Value) → shown step x ≡ outcome.Value v → ⊥) → map (read_timed names) x.values.items ≡ values
  without none = h.all ∙ (ap (λ vs. values ++ vs) (no_more time names (shown step x) none) ∙ append-nil values)

  pub back-else : (k : ℕ) (r : Outcome) → ((v : Value) → shown step x ≡ outcome.Value v → ⊥) → r ≡ outcome_from_end x.values.items k → (read_outcome names r ≡ from_end values k) × IsHeldIn names r
  back-else k r none e = (
    ap (read_outcome names) e ∙ (from_end-read names x.values.items k ∙ ap (λ vs. from_end vs k) (without none)),
    subst (IsHeldIn names) (sym e) (end_held names x.values.items k h.held),
  )

  pub back-value : (k : ℕ) (r : Outcome) (v : Value) → shown step x ≡ outcome.Value v → 1 ≤ k → r ≡ outcome_from_end x.values.items (k + 1) → (read_outcome names r ≡ from_end values k) × IsHeldIn names r
  back-value k r v some l e =
      let all : map (read_timed names) x.values.items ≡ values ++ (time, read names v) ∷ [] = h.all ∙ ap (λ o. values ++ one_more time (read_outcome names o)) some in (
        ap (read_outcome names) e ∙ (from_end-read names x.values.items (k + 1) ∙ (ap (λ vs. from_end vs (k + 1)) all ∙ from_end-more values (time, read names v) k l)),
        subst (IsHeldIn names) (sym e) (end_held names x.values.items (k + 1) h.held),
      )

  pub newest-missing : (r : Outcome) → shown step x ≡ outcome.Missing → r ≡ outcome_from_end x.values.items 1 → (read_outcome names r ≡ held_answer (read_outcome names (shown step x)) values) × IsHeldIn names r
  newest-missing r none e =
      let p = back-else 1 r (λ v q. let w : outcome.Missing ≡ outcome.Value v = sym none ∙ q in cc) e in
      (p.0 ∙ sym (ap (λ o. held_answer (read_outcome names o) values) none), p.1)

  pub newest-shown : (r : Outcome) → (shown step x ≡ outcome.Missing → ⊥) → r ≡ shown step x → (read_outcome names r ≡ held_answer (read_outcome names (shown step x)) values) × IsHeldIn names r
  newest-shown r some e = (ap (read_outcome names) e ∙ still (shown step x) some, subst (IsHeldIn names) (sym e) h.now_held)
    where
      still : (o : Outcome) → (o ≡ outcome.Missing → ⊥) → read_outcome names o ≡ held_answer (read_outcome names o) values
      still (outcome.Value v) g = refl
      still outcome.Missing g = absurd (g refl)
      still (outcome.Fault k) g = refl
      still outcome.Poison g = refl
