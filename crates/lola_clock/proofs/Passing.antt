-- The loop that sets timers, one by one.
use Rattle.std.proofs.Common.{◌≡◌, ℕ, ◌+◌, ◌<◌, ◌≤◌, List, [], ◌∷◌, length, get_or, set, map, min, suc, zero, Bool, refl, ap, arith, sym, ◌∙◌, subst}
use Rattle.std.proofs.Math.Numerals.{add-one}
use Rattle.lola_model.specs.StepOrder.{IsPositiveRate, AreRates}
use Rattle.lola_clock.specs.declared.timers.Timer.{Timer}
use Rattle.lola_clock.specs.Timers.{too_late, set_timer, timer_rates, earliest, IsUsable, AreUsable}

-- the first so many of these timers set, and the others as they were
abbrev pub set_front : ℕ → ℕ → ℕ → List Timer → List Timer
set_front start to zero timers = timers
set_front start to (suc n) [] = []
set_front start to (suc n) (k ∷ timers) = set_timer start to k ∷ set_front start to n timers

-- those behind the first so many
abbrev pub behind : ℕ → List Timer → List Timer
behind zero timers = timers
behind (suc n) [] = []
behind (suc n) (k ∷ timers) = behind n timers

-- what the loop keeps, after so many timers
pub record IsSetUpTo (known : Bool) (start to : ℕ) (initial timers : List Timer) (n least : ℕ) : Type 0 where
  pub front : timers ≡ set_front start to n initial
  pub usable : AreUsable known start to (behind n initial)
  pub rates : AreRates (timer_rates (behind n initial)) → AreRates (timer_rates initial)
  pub first : min least (earliest (map (set_timer start to) (behind n initial))) ≡ earliest (map (set_timer start to) initial)
  pub most : least ≤ too_late

-- the least moment is no later than the one after the latest
earliest_most : (timers : List Timer) → earliest timers ≤ too_late
earliest_most [] = omega arith
earliest_most (k ∷ timers) = let rest = earliest_most timers in omega arith

-- before the first
pub none_set : (known : Bool) (start to : ℕ) (timers : List Timer) → AreUsable known start to timers → IsSetUpTo known start to timers timers 0 too_late
none_set known start to timers usable = record {
  front = refl;
  usable = usable;
  rates = λ h. h;
  first = (let most : earliest (map (set_timer start to) timers) ≤ too_late = earliest_most _ in omega arith);
  most = omega arith;
}

-- the timer that comes next is as it was
front_at : (start to n : ℕ) (timers : List Timer) (d : Timer) → get_or (set_front start to n timers) n d ≡ get_or timers n d
front_at start to zero timers d = refl
front_at start to (suc n) [] d = refl
front_at start to (suc n) (k ∷ timers) d = front_at start to n timers d

-- and is the first of those behind
behind_at : (n : ℕ) (timers : List Timer) (d : Timer) → n < length timers → behind n timers ≡ get_or timers n d ∷ behind (suc n) timers
behind_at zero [] d h = absurd (omega arith)
behind_at zero (k ∷ timers) d h = refl
behind_at (suc n) [] d h = absurd (omega arith)
behind_at (suc n) (k ∷ timers) d h = behind_at n timers d (omega arith)

-- one more is set
front_more : (start to n : ℕ) (timers : List Timer) (d : Timer) → n < length timers
    → set (set_front start to n timers) n (set_timer start to (get_or timers n d)) ≡ set_front start to (suc n) timers
front_more start to zero [] d h = absurd (omega arith)
front_more start to zero (k ∷ timers) d h = refl
front_more start to (suc n) [] d h = absurd (omega arith)
front_more start to (suc n) (k ∷ timers) d h = ap (λ ks. set_timer start to k ∷ ks) (front_more start to n timers d (omega arith))

-- all are set
front_all : (start to : ℕ) (timers : List Timer) (n : ℕ) → length timers ≤ n → set_front start to n timers ≡ map (set_timer start to) timers
front_all start to [] zero h = refl
front_all start to [] (suc n) h = refl
front_all start to (k ∷ timers) zero h = absurd (omega arith)
front_all start to (k ∷ timers) (suc n) h = ap (λ ks. set_timer start to k ∷ ks) (front_all start to timers n (omega arith))

behind_all : (timers : List Timer) (n : ℕ) → length timers ≤ n → behind n timers ≡ []
behind_all [] zero h = refl
behind_all [] (suc n) h = refl
behind_all (k ∷ timers) zero h = absurd (omega arith)
behind_all (k ∷ timers) (suc n) h = behind_all timers n (omega arith)

front_length : (start to n : ℕ) (timers : List Timer) → length (set_front start to n timers) ≡ length timers
front_length start to zero timers = refl
front_length start to (suc n) [] = refl
front_length start to (suc n) (k ∷ timers) = let rest = front_length start to n timers in omega arith

module _ (known : Bool) (start to : ℕ) (initial timers : List Timer) (n least : ℕ) (d : Timer) (h : IsSetUpTo known start to initial timers n least) where
  -- the next timer may be set
  pub next_usable : n < length timers → IsUsable known start to (get_or timers n d)
  next_usable lt =
      let size : length timers ≡ length initial = ap length h.front ∙ front_length start to n initial in
      let same : get_or timers n d ≡ get_or initial n d = ap (λ (ks : List Timer). get_or ks n d) h.front ∙ front_at start to n initial d in
      let all : AreUsable known start to (get_or initial n d ∷ behind (suc n) initial) = subst (AreUsable known start to) (behind_at n initial d (omega arith)) h.usable in
      subst (IsUsable known start to) (sym same) all.0

  -- and then one more is set
  pub more_set : (k : Timer) → n < length timers → IsPositiveRate (get_or timers n d).rate → k ≡ set_timer start to (get_or timers n d)
      → IsSetUpTo known start to initial (set timers n k) (n + 1) (min least k.due)
  more_set k lt rate e =
      let size : length timers ≡ length initial = ap length h.front ∙ front_length start to n initial in
      let same : get_or timers n d ≡ get_or initial n d = ap (λ (ks : List Timer). get_or ks n d) h.front ∙ front_at start to n initial d in
      let e' : k ≡ set_timer start to (get_or initial n d) = e ∙ ap (set_timer start to) same in
      let due : k.due ≡ (set_timer start to (get_or initial n d)).due = ap (λ (t : Timer). t.due) e' in
      let split : behind n initial ≡ get_or initial n d ∷ behind (suc n) initial = behind_at n initial d (omega arith) in
      let all : AreUsable known start to (get_or initial n d ∷ behind (suc n) initial) = subst (AreUsable known start to) split h.usable in
      let rate' : IsPositiveRate (get_or initial n d).rate = subst (λ (t : Timer). IsPositiveRate t.rate) same rate in
      let first : min least (earliest (map (set_timer start to) (get_or initial n d ∷ behind (suc n) initial))) ≡ earliest (map (set_timer start to) initial) =
      subst (λ ks. min least (earliest (map (set_timer start to) ks)) ≡ earliest (map (set_timer start to) initial)) split h.first in
      let most : least ≤ too_late = h.most in
      rw add-one (record {
        front = ap (λ ks. set ks n k) h.front ∙ (ap (λ t. set (set_front start to n initial) n t) e' ∙ front_more start to n initial d (omega arith));
        usable = all.1;
        rates = λ rest. h.rates (subst (λ ks. AreRates (timer_rates ks)) (sym split) (rate', rest));
        first = omega arith;
        most = omega arith;
      })

-- at the end all are
pub all_set : (known : Bool) (start to : ℕ) (initial timers : List Timer) (n least : ℕ) → IsSetUpTo known start to initial timers n least → length timers ≤ n
    → (timers ≡ map (set_timer start to) initial) × AreRates (timer_rates initial) × (least ≡ earliest timers)
all_set known start to initial timers n least h end =
    let size : length timers ≡ length initial = ap length h.front ∙ front_length start to n initial in
    let new : timers ≡ map (set_timer start to) initial = h.front ∙ front_all start to initial n (omega arith) in
    let none : behind n initial ≡ [] = behind_all initial n (omega arith) in
    let first : min least too_late ≡ earliest (map (set_timer start to) initial) =
    subst (λ ks. min least (earliest (map (set_timer start to) ks)) ≡ earliest (map (set_timer start to) initial)) none h.first in
    let most : least ≤ too_late = h.most in
    let same : earliest timers ≡ earliest (map (set_timer start to) initial) = ap earliest new in (
      new,
      h.rates (subst (λ ks. AreRates (timer_rates ks)) (sym none) tt),
      omega arith,
    )
