-- The list of open questions stays falling, is short, and the work falls.
use Rattle.std.proofs.Common.{◌≡◌, ◌≢◌, refl, ap, ℕ, ◌+◌, ◌*◌, ◌<◌, ◌≤◌, List, [], ◌∷◌, ◌++◌, arith, length}
use Rattle.std.specs.List.{AllByRecursion}
use Rattle.lola_replay_step.specs.Stacks.{IsFalling, last_rank, work_left}

module _ {Q : Type 0} (rank : Q → ℕ) where
  all-mapped : (P R : Q → Type 0) → ((q : Q) → P q → R q) → (qs : List Q) → AllByRecursion P qs → AllByRecursion R qs
  all-mapped P R f [] all = tt
  all-mapped P R f (q ∷ qs) all = (f q all.0, all-mapped P R f qs all.1)

  all-last : (P : Q → Type 0) (qs : List Q) (t : Q) → AllByRecursion P (qs ++ t ∷ []) → P t
  all-last P [] t all = all.0
  all-last P (q ∷ qs) t all = all-last P qs t all.1

  all-front : (P : Q → Type 0) (qs : List Q) (t : Q) → AllByRecursion P (qs ++ t ∷ []) → AllByRecursion P qs
  all-front P [] t all = tt
  all-front P (q ∷ qs) t all = (all.0, all-front P qs t all.1)

  all-more : (P : Q → Type 0) (qs : List Q) (t : Q) → AllByRecursion P qs → P t → AllByRecursion P (qs ++ t ∷ [])
  all-more P [] t all is = (is, tt)
  all-more P (q ∷ qs) t all is = (all.0, all-more P qs t all.1 is)

  -- a question that the last one waits for
  pub pushed : (qs : List Q) (t q : Q) → IsFalling rank (qs ++ t ∷ []) → rank q < rank t → IsFalling rank ((qs ++ t ∷ []) ++ q ∷ [])
  pushed [] t q falls low = ((low, tt), (tt, tt))
  pushed (r ∷ rs) t q falls low =
      let top : rank t < rank r = all-last (λ x. rank x < rank r) rs t falls.0 in
      (all-more (λ x. rank x < rank r) (rs ++ t ∷ []) q falls.0 (omega (arith, top, low)), pushed rs t q falls.1 low)

  -- the last one is answered
  pub popped : (qs : List Q) (t : Q) → IsFalling rank (qs ++ t ∷ []) → IsFalling rank qs
  popped [] t falls = tt
  popped (r ∷ rs) t falls = (all-front (λ x. rank x < rank r) rs t falls.0, popped rs t falls.1)

  -- and is none of the others, which stay open
  pub others : (qs : List Q) (t : Q) → IsFalling rank (qs ++ t ∷ []) → AllByRecursion (λ r. r ≢ t) qs
  others [] t falls = tt
  others (r ∷ rs) t falls =
      let top : rank t < rank r = all-last (λ x. rank x < rank r) rs t falls.0 in
      ((λ same. let e = ap rank same in absurd (omega (arith, top, e))), others rs t falls.1)

  -- so no more are open than the first one's rank says
  pub short : (q : Q) (qs : List Q) → IsFalling rank (q ∷ qs) → length qs ≤ rank q
  short q [] falls = omega arith
  short q (r ∷ rs) falls =
      let less = falls.0.0 in
      let rest = short r rs falls.1 in
      omega (arith, less, rest)

  pub last-of : (qs : List Q) (t : Q) → last_rank rank (qs ++ t ∷ []) ≡ rank t
  last-of [] t = refl
  last-of (q ∷ []) t = refl
  last-of (q ∷ r ∷ rs) t = last-of (r ∷ rs) t

  last-low : (most : ℕ) (qs : List Q) → AllByRecursion (λ r. rank r ≤ most) qs → last_rank rank qs ≤ most
  last-low most [] all = omega arith
  last-low most (q ∷ []) all = all.0
  last-low most (q ∷ r ∷ rs) all = last-low most (r ∷ rs) all.1

  more : (c k : ℕ) → (c + 1) * k ≡ c * k + k
  more c k = omega arith

  -- with an answer there is less to do, and with a question too
  pub less-answered : (c most : ℕ) (qs : List Q) (t : Q) → AllByRecursion (λ r. rank r ≤ most) qs → work_left rank c most qs < work_left rank (c + 1) most (qs ++ t ∷ [])
  less-answered c most qs t all =
      let low = last-low most qs all in
      let is = more c (most + 1) in
      omega (arith, low, is)

  pub less-asked : (c most : ℕ) (qs : List Q) (t q : Q) → rank q < rank t → work_left rank c most ((qs ++ t ∷ []) ++ q ∷ []) < work_left rank c most (qs ++ t ∷ [])
  less-asked c most qs t q low =
      let a = last-of (qs ++ t ∷ []) q in
      let b = last-of qs t in
      omega (arith, a, b, low)
