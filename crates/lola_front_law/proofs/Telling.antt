-- What can be told: whether something holds, and of which numbers below a limit.
use Rattle.std.proofs.Common.{◌≡◌, ◌≢◌, ◌⊎◌, inl, inr, ℕ, zero, suc, ◌<◌, List, [], ◌∷◌, ◌++◌, length, get_or, subst, sym, arith}
use Rattle.std.specs.List.{AllPairs, Contains}
use Rattle.std.proofs.lemmas.Bool.{cases_eq}
use Rattle.std.proofs.lemmas.List.{get_or_default}
use Rattle.std.proofs.lemmas.List.Elements.{Contains-append_left, Contains-push, Contains-push_cases}
use Rattle.std.proofs.lemmas.List.Quantifiers.{all_pairs_push}
use Rattle.lola_model.proofs.Strictly.{AllPairs-nil, Contains-cases, Contains-here, Contains-none, Contains-there}

-- it holds, or it does not
abbrev pub Told : Type 0 → Type 0
Told P = P ⊎ (P → ⊥)

pub both_told : {P Q : Type 0} → Told P → Told Q → Told (P × Q)
both_told (inl p) (inl q) = inl (p, q)
both_told (inl p) (inr nq) = inr (λ h. nq h.1)
both_told (inr np) t = inr (λ h. np h.0)

-- two numbers differ
pub other_told : (n m : ℕ) → Told (n ≢ m)
other_told n m = elim (cases_eq n m) [ inl e ↦ inr (λ ne. ne e) | inr ne ↦ inl ne ]

-- a number is listed
pub contains_told : (xs : List ℕ) (n : ℕ) → Told (Contains xs n)
contains_told [] n = inr (Contains-none n)
contains_told (x ∷ xs) n = go (cases_eq x n) (contains_told xs n)
  where
    neither : x ≢ n → (Contains xs n → ⊥) → Contains (x ∷ xs) n → ⊥
    neither ne none c = elim (Contains-cases x n xs c) [ inl e ↦ ne e | inr d ↦ none d ]

    go : (x ≡ n) ⊎ (x ≢ n) → Told (Contains xs n) → Told (Contains (x ∷ xs) n)
    go (inl e) t = inl (subst (λ (m : ℕ). Contains (x ∷ xs) m) e (Contains-here x xs))
    go (inr ne) (inl c) = inl (Contains-there x n xs c)
    go (inr ne) (inr none) = inr (neither ne none)

module _ (P : ℕ → Type 0) where
  -- the least number below a limit for which it holds
  abbrev pub Least : ℕ → Type 0
  Least k = ((n : ℕ) × (n < k) × P n × ((m : ℕ) → m < n → P m → ⊥)) ⊎ ((n : ℕ) → n < k → P n → ⊥)

  -- all numbers below a limit for which it holds, in order
  pub record IsListed (k : ℕ) : Type 0 where
    pub numbers : List ℕ
    pub ordered : AllPairs (λ (m n : ℕ). m < n) numbers
    pub low : (n : ℕ) → Contains numbers n → n < k
    pub hold : (n : ℕ) → Contains numbers n → P n
    pub all : (n : ℕ) → n < k → P n → Contains numbers n

  module _ (told : (n : ℕ) → Told (P n)) where
    pub least_below : (k : ℕ) → Least k
    least_below zero = inr (λ n low h. omega (arith, low))
    least_below (suc k) = go (least_below k) (told k)
      where
        beyond : ((n : ℕ) → n < k → P n → ⊥) → (P k → ⊥) → (n : ℕ) → n < suc k → P n → ⊥
        beyond none never n low h = elim (cases_eq n k) [ inl e ↦ never (subst P e h) | inr ne ↦ none n (omega (arith, ne, low)) h ]

        go : Least k → Told (P k) → Least (suc k)
        go (inl some) t = inl (some.0, omega (arith, some.1), some.2, some.3)
        go (inr none) (inl h) = inl (k, omega arith, h, none)
        go (inr none) (inr never) = inr (beyond none never)

    pub listed_below : (k : ℕ) → IsListed k
    listed_below zero = record {
      numbers = [];
      ordered = AllPairs-nil (λ (m n : ℕ). m < n);
      low = λ n c. absurd (Contains-none n c);
      hold = λ n c. absurd (Contains-none n c);
      all = λ n low h. absurd (omega (arith, low));
    }
    listed_below (suc k) = go (listed_below k) (told k)
      where
        same : IsListed k → (P k → ⊥) → IsListed (suc k)
        same l never = record {
          numbers = l.numbers;
          ordered = l.ordered;
          low = λ n c. omega (arith, l.low n c);
          hold = l.hold;
          all = λ n low h. elim (cases_eq n k) [ inl e ↦ absurd (never (subst P e h)) | inr ne ↦ l.all n (omega (arith, ne, low)) h ];
        }

        below_last : (l : IsListed k) (i d : ℕ) → i < length l.numbers → get_or l.numbers i d < k
        below_last l i d lt = l.low (get_or l.numbers i d) (i, lt, sym (get_or_default l.numbers i d (get_or l.numbers i d) lt))

        more : IsListed k → P k → IsListed (suc k)
        more l h = record {
          numbers = l.numbers ++ k ∷ [];
          ordered = all_pairs_push (λ (m n : ℕ). m < n) l.numbers k l.ordered (below_last l);
          low = λ n c. elim (Contains-push_cases l.numbers k n c) [ inl a ↦ omega (arith, l.low n a) | inr e ↦ omega (arith, e) ];
          hold = λ n c. elim (Contains-push_cases l.numbers k n c) [ inl a ↦ l.hold n a | inr e ↦ subst P e h ];
          all = λ n low g. elim (cases_eq n k) [
            | inl e ↦ subst (λ (m : ℕ). Contains (l.numbers ++ k ∷ []) m) (sym e) (Contains-push l.numbers k)
            | inr ne ↦ Contains-append_left l.numbers (k ∷ []) n (l.all n (omega (arith, ne, low)) g)
          ];
        }

        go : IsListed k → Told (P k) → IsListed (suc k)
        go l (inl h) = more l h
        go l (inr never) = same l never
