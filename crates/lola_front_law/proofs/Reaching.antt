-- Which numbers are reached from which, over numbers below a limit.
use Rattle.std.proofs.Common.{◌≡◌, ◌≢◌, ◌⊎◌, inl, inr, ℕ, zero, suc, ◌<◌, List, [], ◌∷◌, ◌++◌, subst, arith}
use Rattle.std.proofs.lemmas.Bool.{cases_eq}
use Rattle.lola_front_law.proofs.Telling.{Told}

-- numbers below a limit
abbrev pub AreBelow : ℕ → List ℕ → Type 0
AreBelow k [] = Unit {0}
AreBelow k (n ∷ ns) = (n < k) × AreBelow k ns

more_below : (k : ℕ) (ns : List ℕ) → AreBelow k ns → AreBelow (suc k) ns
more_below k [] h = tt
more_below k (n ∷ ns) h = (omega (arith, h.0), more_below k ns h.1)

all_below : (k : ℕ) (ms ns : List ℕ) → AreBelow k ms → AreBelow k ns → AreBelow k (ms ++ ns)
all_below k [] ns h g = g
all_below k (m ∷ ms) ns h g = (h.0, all_below k ms ns h.1 g)

module _ (E : ℕ → ℕ → Type 0) where
  -- step by step from one number to another, over these in between
  abbrev pub IsPathBy : ℕ → List ℕ → ℕ → Type 0
  IsPathBy from [] to = E from to
  IsPathBy from (n ∷ ns) to = E from n × IsPathBy n ns to

  -- .. over numbers below a limit
  pub record IsReached (k from to : ℕ) : Type 0 where
    pub over : List ℕ
    pub path : IsPathBy from over to
    pub below : AreBelow k over

  joined : (from mid to : ℕ) (ms ns : List ℕ) → IsPathBy from ms mid → IsPathBy mid ns to → IsPathBy from (ms ++ mid ∷ ns) to
  joined from mid to [] ns p q = (p, q)
  joined from mid to (m ∷ ms) ns p q = (p.0, joined m mid to ms ns p.1 q)

  -- a path over numbers up to k avoids k, or leads to k and on from k
  abbrev Splits : ℕ → ℕ → ℕ → Type 0
  Splits k from to = IsReached k from to ⊎ (IsReached k from k × IsReached k k to)

  longer : (k from n to : ℕ) → E from n → n < k → IsReached k n to → IsReached k from to
  longer k from n to e low r = record { over = n ∷ r.over; path = (e, r.path); below = (low, r.below) }

  direct : (k from to : ℕ) → E from to → IsReached k from to
  direct k from to e = record { over = []; path = e; below = tt }

  before : (k from n to : ℕ) → E from n → n < k → Splits k n to → Splits k from to
  before k from n to e low (inl r) = inl (longer k from n to e low r)
  before k from n to e low (inr s) = inr (longer k from n k e low s.0, s.1)

  at_limit : (k from to : ℕ) → E from k → Splits k k to → Splits k from to
  at_limit k from to e (inl r) = inr (direct k from k e, r)
  at_limit k from to e (inr s) = inr (direct k from k e, s.1)

  split : (k : ℕ) (over : List ℕ) (from to : ℕ) → IsPathBy from over to → AreBelow (suc k) over → Splits k from to
  split k [] from to p h = inl (direct k from to p)
  split k (n ∷ ns) from to p h = go (cases_eq n k) (split k ns n to p.1 h.1)
    where
      go : (n ≡ k) ⊎ (n ≢ k) → Splits k n to → Splits k from to
      go (inl e) s = at_limit k from to (subst (λ (m : ℕ). E from m) e p.0) (subst (λ (m : ℕ). Splits k m to) e s)
      go (inr ne) s = before k from n to p.0 (omega (arith, ne, h.0)) s

  through : (k from to : ℕ) → IsReached k from k → IsReached k k to → IsReached (suc k) from to
  through k from to r s = record {
    over = r.over ++ k ∷ s.over;
    path = joined from k to r.over s.over r.path s.path;
    below = all_below (suc k) r.over (k ∷ s.over) (more_below k r.over r.below) (omega arith, more_below k s.over s.below);
  }

  raised : (k from to : ℕ) → IsReached k from to → IsReached (suc k) from to
  raised k from to r = record { over = r.over; path = r.path; below = more_below k r.over r.below }

  module _ (told : (n m : ℕ) → Told (E n m)) where
    none_over : (from to : ℕ) → (E from to → ⊥) → (over : List ℕ) → IsPathBy from over to → AreBelow 0 over → ⊥
    none_over from to never [] p h = never p
    none_over from to never (n ∷ ns) p h = omega (arith, h.0)

    one_way : (k from to : ℕ) → Told (IsReached k from to) → Told (IsReached k from k) → Told (IsReached k k to) → Told (IsReached (suc k) from to)
    one_way k from to (inl r) a b = inl (raised k from to r)
    one_way k from to (inr never) (inl r) (inl s) = inl (through k from to r s)
    one_way k from to (inr never) (inl r) (inr none) = inr (λ q. elim (split k q.over from to q.path q.below) [ inl t ↦ never t | inr t ↦ none t.1 ])
    one_way k from to (inr never) (inr none) b = inr (λ q. elim (split k q.over from to q.path q.below) [ inl t ↦ never t | inr t ↦ none t.0 ])

    -- it can be told
    pub reached_told : (k from to : ℕ) → Told (IsReached k from to)
    reached_told zero from to = elim (told from to) [ inl e ↦ inl (direct 0 from to e) | inr never ↦ inr (λ r. none_over from to never r.over r.path r.below) ]
    reached_told (suc k) from to = one_way k from to (reached_told k from to) (reached_told k from k) (reached_told k k to)

  -- where each step leads below the limit, so do all in between
  pub path_below : (k : ℕ) → ((n m : ℕ) → E n m → m < k) → (over : List ℕ) (from to : ℕ) → IsPathBy from over to → AreBelow k over
  path_below k low [] from to p = tt
  path_below k low (n ∷ ns) from to p = (low from n p.0, path_below k low ns n to p.1)
