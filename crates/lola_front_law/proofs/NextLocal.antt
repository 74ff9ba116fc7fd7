-- The local deadline that a store tells is the first.
use Rattle.std.proofs.Common.{◌≡◌, ℕ, zero, suc, ◌≤◌, ◌⊎◌, inl, inr, sym, subst, List, [], ◌∷◌, slice_get}
use Rattle.std.specs.List.{Contains}
use Rattle.lola_value.specs.Ratio.{Ratio}
use Rattle.lola_value.specs.Times.{latest}
use Rattle.lola_model.specs.Dues.{due_among, due_in, due_seen, locals_of}
use Rattle.lola_model.specs.NextStep.{first_due, IsDeadlineSince, IsLeast}
use Rattle.lola_model.specs.StepOrder.{AreRates}
use Rattle.lola_model.specs.Store.{Seen, SeenInstance, SeenStream, StreamLayout, instances_of}
use Rattle.lola_model.proofs.Due.{first_due_least}
use Rattle.lola_model.proofs.Strictly.{Contains-here, Contains-there, Contains-cases, Contains-none}
use Rattle.lola_front_law.specs.LocalDues.{IsLocalDeadline, NextIsFirst}
use Rattle.lola_front_law.proofs.LeastMoments.{least_in_time}
use Rattle.lola_model.proofs.Due.{least_by, least_of_two}

module _ (from : ℕ) where
  -- of these instances
  pub record IsAmong (rates : List Ratio) (xs : List SeenInstance) (t : ℕ) : Type 0 where
    pub instance : SeenInstance
    pub lives : Contains xs instance
    pub counts : IsDeadlineSince instance.born rates t
    pub later : from ≤ t

  -- of one alone
  abbrev IsOf : List Ratio → SeenInstance → ℕ → Type 0
  IsOf rates x t = IsDeadlineSince x.born rates t × (from ≤ t)

  among_to : (rates : List Ratio) (x : SeenInstance) (xs : List SeenInstance) (t : ℕ) → IsOf rates x t ⊎ IsAmong rates xs t → IsAmong rates (x ∷ xs) t
  among_to rates x xs t (inl c) = record { instance = x; lives = Contains-here x xs; counts = c.0; later = c.1 }
  among_to rates x xs t (inr w) = record { instance = w.instance; lives = Contains-there x w.instance xs w.lives; counts = w.counts; later = w.later }

  among_back : (rates : List Ratio) (x : SeenInstance) (xs : List SeenInstance) (t : ℕ) → IsAmong rates (x ∷ xs) t → IsOf rates x t ⊎ IsAmong rates xs t
  among_back rates x xs t w = go (Contains-cases x w.instance xs w.lives)
    where
      go : (x ≡ w.instance) ⊎ Contains xs w.instance → IsOf rates x t ⊎ IsAmong rates xs t
      go (inl e) = inl (subst (λ (y : SeenInstance). IsDeadlineSince y.born rates t) (sym e) w.counts, w.later)
      go (inr c) = inr (record { instance = w.instance; lives = c; counts = w.counts; later = w.later })

  among_least : (rates : List Ratio) (xs : List SeenInstance) → AreRates rates → IsLeast (IsAmong rates xs) (due_among rates from xs)
  among_least rates [] h = λ t w. Contains-none w.instance w.lives
  among_least rates (x ∷ xs) h =
      least_by (λ t. IsOf rates x t ⊎ IsAmong rates xs t) (IsAmong rates (x ∷ xs)) (among_to rates x xs) (among_back rates x xs) (due_among rates from (x ∷ xs))
      (least_of_two (IsOf rates x) (IsAmong rates xs) (first_due x.born rates from) (due_among rates from xs) (first_due_least x.born rates from h) (among_least rates xs h))

  -- of the instances of these streams
  pub record IsIn (ls : List StreamLayout) (ss : List SeenStream) (t : ℕ) : Type 0 where
    pub place : ℕ
    pub among : IsAmong (locals_of (slice_get ls place)) (instances_of (slice_get ss place)) t

  in_to : (l : StreamLayout) (ls : List StreamLayout) (s : SeenStream) (ss : List SeenStream) (t : ℕ) → IsAmong l.locals s.instances t ⊎ IsIn ls ss t → IsIn (l ∷ ls) (s ∷ ss) t
  in_to l ls s ss t (inl w) = record { place = 0; among = w }
  in_to l ls s ss t (inr w) = record { place = suc w.place; among = w.among }

  in_back : (l : StreamLayout) (ls : List StreamLayout) (s : SeenStream) (ss : List SeenStream) (t : ℕ) → IsIn (l ∷ ls) (s ∷ ss) t → IsAmong l.locals s.instances t ⊎ IsIn ls ss t
  in_back l ls s ss t w = go w.place w.among
    where
      go : (n : ℕ) → IsAmong (locals_of (slice_get (l ∷ ls) n)) (instances_of (slice_get (s ∷ ss) n)) t → IsAmong l.locals s.instances t ⊎ IsIn ls ss t
      go zero h = inl h
      go (suc n) h = inr (record { place = n; among = h })

  in_least : (ls : List StreamLayout) (ss : List SeenStream) → ((n : ℕ) → AreRates (locals_of (slice_get ls n))) → IsLeast (IsIn ls ss) (due_in from ls ss)
  in_least [] ss h = λ t w. Contains-none w.among.counts.rate w.among.counts.listed
  in_least (l ∷ ls) [] h = λ t w. Contains-none w.among.instance w.among.lives
  in_least (l ∷ ls) (s ∷ ss) h =
      least_by (λ t. IsAmong l.locals s.instances t ⊎ IsIn ls ss t) (IsIn (l ∷ ls) (s ∷ ss)) (in_to l ls s ss) (in_back l ls s ss) (due_in from (l ∷ ls) (s ∷ ss))
      (least_of_two (IsAmong l.locals s.instances) (IsIn ls ss) (due_among l.locals from s.instances) (due_in from ls ss) (among_least l.locals s.instances (h 0)) (in_least ls ss (λ n. h (suc n))))

  -- of all that a store shows
  seen_to : (s : Seen) (t : ℕ) → IsIn s.layout.streams s.streams t × (t ≤ latest) → IsLocalDeadline s t × (from ≤ t) × (t ≤ latest)
  seen_to s t w = (record { stream = w.0.place; instance = w.0.among.instance; lives = w.0.among.lives; counts = w.0.among.counts }, w.0.among.later, w.1)

  seen_back : (s : Seen) (t : ℕ) → IsLocalDeadline s t × (from ≤ t) × (t ≤ latest) → IsIn s.layout.streams s.streams t × (t ≤ latest)
  seen_back s t w = (record { place = w.0.stream; among = record { instance = w.0.instance; lives = w.0.lives; counts = w.0.counts; later = w.1 } }, w.2)

-- the law
pub next_local : NextIsFirst
next_local s has from =
    least_by (λ t. IsIn from s.layout.streams s.streams t × (t ≤ latest)) (λ t. IsLocalDeadline s t × (from ≤ t) × (t ≤ latest)) (seen_to from s) (seen_back from s) (due_seen s from)
    (least_in_time (IsIn from s.layout.streams s.streams) (due_in from s.layout.streams s.streams) (in_least from s.layout.streams s.streams has))
