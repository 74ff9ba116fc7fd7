-- Instances that are listed to be closed, each before the next.
use Rattle.std.proofs.Common.{◌≡◌, refl, ap, ◌∙◌, sym, subst, ℕ, zero, suc, ◌+◌, ◌<◌, ◌≤◌, ◌⊎◌, inl, inr, List, [], ◌∷◌, ◌++◌, Some, true, false, slice_get, length, arith, append-nil, IsTrue}
use Rattle.std.proofs.lemmas.Option.{slice_get_within}
use Rattle.lola_value.specs.declared.value.Outcome.{Outcome}
use Rattle.lola_value.specs.declared.value.Outcome.TheVariants as outcome
use Rattle.lola_value.specs.declared.value.Value.TheVariants as value
use Rattle.lola_model.specs.Store.{Seen, instances_seen, spawns_in}
use Rattle.lola_step.specs.Closings.{AreUpTo, closed_by}
use Rattle.lola_step.specs.Notes.{AreClosable, IsBefore, IsClosable}
use Rattle.lola_step.specs.declared.tasks.Task.{Task}
use Rattle.lola_step.proofs.Elements.{Element, element}

before_later : (n i j : ℕ) (t : Task) → i ≤ j → IsBefore t (record { stream = n; index = i }) → IsBefore t (record { stream = n; index = j })
before_later n i j t le (inl lt) = inl lt
before_later n i j t le (inr h) = inr (h.0, omega (arith, h.1))

before_stream : (n i : ℕ) (t : Task) → IsBefore t (record { stream = n; index = i }) → IsBefore t (record { stream = n + 1; index = 0 })
before_stream n i t (inl lt) = inl (omega arith)
before_stream n i t (inr h) = inl (omega (arith, h.0))

pub before_all : (a b c : Task) → IsBefore a b → IsBefore b c → IsBefore a c
before_all a b c (inl p) (inl q) = inl (omega arith)
before_all a b c (inl p) (inr q) = inl (omega (arith, q.0))
before_all a b c (inr p) (inl q) = inl (omega (arith, p.0))
before_all a b c (inr p) (inr q) = inr (p.0 ∙ q.0, omega (arith, p.1, q.1))

-- an element of a list with one more
pushed_at : (ts : List Task) (t : Task) (i : ℕ) (u : Task) → slice_get (ts ++ t ∷ []) i ≡ Some u → (slice_get ts i ≡ Some u) ⊎ ((i ≡ length ts) × (t ≡ u))
pushed_at [] t zero u e = let p : t ≡ u = cc in inr (refl, p)
pushed_at [] t (suc i) u e = absurd (cc)
pushed_at (s ∷ ts) t zero u e = inl e
pushed_at (s ∷ ts) t (suc i) u e = elim (pushed_at ts t i u e) [ inl h ↦ inl h | inr h ↦ inr (ap suc h.0, h.1) ]

module _ (s : Seen) where
  none_yet : (b : Task) → AreUpTo s b []
  none_yet b = record { closable = record { each = λ i t e. absurd (cc); ordered = λ i t u e f. absurd (cc) }; before = λ i t e. absurd (cc) }

  -- nothing is listed
  pub up_to_first : (b : Task) (ts : List Task) → ts ≡ [] → AreUpTo s b ts
  up_to_first b ts e = subst (AreUpTo s b) (sym e) (none_yet b)

  -- a later place
  pub up_to_later : (n i j : ℕ) (ts : List Task) → i ≤ j → AreUpTo s (record { stream = n; index = i }) ts → AreUpTo s (record { stream = n; index = j }) ts
  up_to_later n i j ts le h = record { closable = h.closable; before = λ a t e. before_later n i j t le (h.before a t e) }

  -- the next stream
  pub up_to_stream : (n i : ℕ) (ts : List Task) → AreUpTo s (record { stream = n; index = i }) ts → AreUpTo s (record { stream = n + 1; index = 0 }) ts
  up_to_stream n i ts h = record { closable = h.closable; before = λ j t e. before_stream n i t (h.before j t e) }

  module _ (n i : ℕ) (ts : List Task) (h : AreUpTo s (record { stream = n; index = i }) ts) where
    abbrev here : Task
    here = record { stream = n; index = i }

    abbrev after : Task
    after = record { stream = n; index = i + 1 }

    -- the next instance
    up_to_next : AreUpTo s after ts
    up_to_next = up_to_later n i (i + 1) ts (omega arith) h

    each_pushed : IsClosable s here → (j : ℕ) (t : Task) → slice_get (ts ++ here ∷ []) j ≡ Some t → IsClosable s t
    each_pushed k j t e = elim (pushed_at ts here j t e) [ inl p ↦ h.closable.each j t p | inr p ↦ subst (IsClosable s) p.1 k ]

    ordered_pushed : (j : ℕ) (t u : Task) → slice_get (ts ++ here ∷ []) j ≡ Some t → slice_get (ts ++ here ∷ []) (j + 1) ≡ Some u → IsBefore t u
    ordered_pushed j t u e f = by (pushed_at ts here j t e) (pushed_at ts here (j + 1) u f)
      where
        by : (slice_get ts j ≡ Some t) ⊎ ((j ≡ length ts) × (here ≡ t)) → (slice_get ts (j + 1) ≡ Some u) ⊎ ((j + 1 ≡ length ts) × (here ≡ u)) → IsBefore t u
        by (inl p) (inl q) = h.closable.ordered j t u p q
        by (inl p) (inr q) = subst (IsBefore t) q.1 (h.before j t p)
        by (inr p) (inl q) = absurd (omega (arith, slice_get_within ts (j + 1) u q, p.0))
        by (inr p) (inr q) = absurd (omega (arith, q.0, p.0))

    before_pushed : (j : ℕ) (t : Task) → slice_get (ts ++ here ∷ []) j ≡ Some t → IsBefore t after
    before_pushed j t e = elim (pushed_at ts here j t e) [ inl p ↦ before_later n i (i + 1) t (omega arith) (h.before j t p) | inr p ↦ subst (λ (u : Task). IsBefore u after) p.1 (inr (refl, omega arith)) ]

    up_to_pushed : IsClosable s here → AreUpTo s after (ts ++ here ∷ [])
    up_to_pushed k = record { closable = record { each = each_pushed k; ordered = ordered_pushed }; before = before_pushed }

    up_to_same : AreUpTo s after (ts ++ [])
    up_to_same = subst (AreUpTo s after) (sym (append-nil ts)) up_to_next

    up_to_closed : (o : Outcome) → IsClosable s here → AreUpTo s after (ts ++ closed_by o here)
    up_to_closed (outcome.Value (value.Bool true)) k = up_to_pushed k
    up_to_closed (outcome.Value (value.Bool false)) k = up_to_same
    up_to_closed (outcome.Value (value.Int z)) k = up_to_same
    up_to_closed (outcome.Value (value.Text id)) k = up_to_same
    up_to_closed outcome.Missing k = up_to_same
    up_to_closed (outcome.Fault e) k = up_to_same
    up_to_closed outcome.Poison k = up_to_same

    -- an instance is listed, or not
    pub up_to_noted : (o : Outcome) (us : List Task) → us ≡ ts ++ closed_by o here → IsTrue (spawns_in (slice_get s.layout.streams n)) → i < length (instances_seen s n) → AreUpTo s after us
    up_to_noted o us e spawns lives = subst (AreUpTo s after) (sym e) (up_to_closed o (record { spawns = spawns; lives = lives }))

-- each is before all later ones
pub earlier_before : (s : Seen) (ts : List Task) → AreClosable s ts → (d j : ℕ) (t u : Task) → slice_get ts j ≡ Some t → slice_get ts (j + suc d) ≡ Some u → IsBefore t u
earlier_before s ts h zero j t u e f = h.ordered j t u e f
earlier_before s ts h (suc d) j t u e f =
    let k : ℕ = j + suc d in
    let there : Element ts k = element ts k (omega (arith, slice_get_within ts (j + suc (suc d)) u f)) in
    let last : slice_get ts (k + 1) ≡ Some u = subst (λ m. slice_get ts m ≡ Some u) (omega arith) f in
    before_all t there.at u (earlier_before s ts h d j t there.at e there.is) (h.ordered k there.at u there.is last)
