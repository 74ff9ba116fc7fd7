-- The places that a store lists as due.
use Rattle.std.proofs.Common.{◌≡◌, ℕ, zero, suc, ◌+◌, ◌-◌, ◌<◌, ◌⊎◌, inl, inr, refl, sym, subst, List, [], ◌∷◌, Some, Bool, true, false, ◌||◌, if◌then◌else◌, slice_get, arith}
use Rattle.std.specs.List.{AllPairs, Contains}
use Rattle.std.proofs.lemmas.Bool.{or_left, or_right}
use Rattle.lola_value.specs.Ratio.{Ratio}
use Rattle.lola_value.specs.Rate.{IsDeadline}
use Rattle.lola_model.specs.Activity.{is_deadline}
use Rattle.lola_model.specs.Dues.{due_from, due_places, is_due, locals_of}
use Rattle.lola_model.specs.NextStep.{IsDeadlineSince}
use Rattle.lola_model.specs.StepOrder.{AreRates}
use Rattle.lola_model.specs.Store.{Seen, SeenInstance, instances_seen}
use Rattle.lola_model.proofs.Strictly.{AllPairs-cons, AllPairs-nil, All-from_members, Contains-here, Contains-there, Contains-cases, Contains-none, same_by_members}
use Rattle.lola_front_law.specs.LocalDues.{HasLocalRates, IsDueAt, AreDuePlaces, PlacesAreDue}
use Rattle.lola_front_law.proofs.RateFormula.{formula_sound, formula_complete}

-- the test of a birth is of deadlines
since_more : (r : Ratio) (rs : List Ratio) (born time : ℕ) → IsDeadlineSince born rs time → IsDeadlineSince born (r ∷ rs) time
since_more r rs born time w = record { rate = w.rate; listed = Contains-there r w.rate rs w.listed; later = w.later; deadline = w.deadline }

due_sound : (rs : List Ratio) (born time : ℕ) → AreRates rs → is_due rs born time ≡ true → IsDeadlineSince born rs time
due_sound [] born time h e = absurd (cc)
due_sound (r ∷ rs) born time h e = go (is_deadline r (time - born)) refl e (due_sound rs born time h.1)
  where
    go : (b : Bool) → is_deadline r (time - born) ≡ b → (b || is_due rs born time) ≡ true → (is_due rs born time ≡ true → IsDeadlineSince born rs time) → IsDeadlineSince born (r ∷ rs) time
    go true at e more =
        let w = formula_sound r h.0 (time - born) at in
        let later : 0 < time - born = w.0 in
        record { rate = r; listed = Contains-here r rs; later = omega arith; deadline = w.1 }
    go false at e more = since_more r rs born time (more e)

due_complete : (rs : List Ratio) (born time : ℕ) → AreRates rs → IsDeadlineSince born rs time → is_due rs born time ≡ true
due_complete [] born time h w = absurd (Contains-none w.rate w.listed)
due_complete (r ∷ rs) born time h w = go (Contains-cases r w.rate rs w.listed) (due_complete rs born time h.1)
  where
    go : (r ≡ w.rate) ⊎ Contains rs w.rate → (IsDeadlineSince born rs time → is_due rs born time ≡ true) → is_due (r ∷ rs) born time ≡ true
    go (inl e) more =
        let later : born < time = w.later in
        or_left (is_deadline r (time - born)) (is_due rs born time)
        (formula_complete r h.0 (time - born) (omega arith) (subst (λ q. IsDeadline q (time - born)) (sym e) w.deadline))
    go (inr c) more =
        or_right (is_deadline r (time - born)) (is_due rs born time) (more (record { rate = w.rate; listed = c; later = w.later; deadline = w.deadline }))

abbrev Ascends : List ℕ → Type 0
Ascends places = AllPairs (λ (a b : ℕ). a < b) places

module _ (rates : List Ratio) (time : ℕ) where
  -- the instance at a place passes the test, of these from place i on
  pub record IsFound (i : ℕ) (xs : List SeenInstance) (p : ℕ) : Type 0 where
    pub place : ℕ
    pub instance : SeenInstance
    pub at : slice_get xs place ≡ Some instance
    pub number : i + place ≡ p
    pub due : is_due rates instance.born time ≡ true

  found_more : (i : ℕ) (x : SeenInstance) (xs : List SeenInstance) (p : ℕ) → IsFound (i + 1) xs p → IsFound i (x ∷ xs) p
  found_more i x xs p w = let n : i + 1 + w.place ≡ p = w.number in record { place = suc w.place; instance = w.instance; at = w.at; number = omega arith; due = w.due }

  sound : (i : ℕ) (xs : List SeenInstance) (p : ℕ) → Contains (due_from rates time i xs) p → IsFound i xs p
  sound i [] p c = absurd (Contains-none p c)
  sound i (x ∷ xs) p c = go (is_due rates x.born time) refl c (sound (i + 1) xs p)
    where
      go : (b : Bool) → is_due rates x.born time ≡ b → Contains (if b then i ∷ due_from rates time (i + 1) xs else due_from rates time (i + 1) xs) p
          → (Contains (due_from rates time (i + 1) xs) p → IsFound (i + 1) xs p) → IsFound i (x ∷ xs) p
      go true e c more = elim (Contains-cases i p (due_from rates time (i + 1) xs) c) [
        | inl q ↦ record { place = 0; instance = x; at = refl; number = omega (arith, q); due = e }
        | inr d ↦ found_more i x xs p (more d)
      ]
      go false e c more = found_more i x xs p (more c)

  kept : (b : Bool) (i p : ℕ) (ps : List ℕ) → Contains ps p → Contains (if b then i ∷ ps else ps) p
  kept true i p ps c = Contains-there i p ps c
  kept false i p ps c = c

  put : (b : Bool) (i p : ℕ) (ps : List ℕ) → b ≡ true → i ≡ p → Contains (if b then i ∷ ps else ps) p
  put true i p ps e q = subst (λ z. Contains (i ∷ ps) z) q (Contains-here i ps)
  put false i p ps e q = absurd (cc)

  complete : (i : ℕ) (xs : List SeenInstance) (p : ℕ) → IsFound i xs p → Contains (due_from rates time i xs) p
  complete i [] p w = absurd (let e = w.at in cc)
  complete i (x ∷ xs) p w = go w.place w.at w.number (complete (i + 1) xs p)
    where
      go : (n : ℕ) → slice_get (x ∷ xs) n ≡ Some w.instance → i + n ≡ p → (IsFound (i + 1) xs p → Contains (due_from rates time (i + 1) xs) p) → Contains (due_from rates time i (x ∷ xs)) p
      go zero at q more =
          let same : w.instance ≡ x = cc in
          put (is_due rates x.born time) i p (due_from rates time (i + 1) xs) (subst (λ (y : SeenInstance). is_due rates y.born time ≡ true) same w.due) (omega arith)
      go (suc n) at q more =
          kept (is_due rates x.born time) i p (due_from rates time (i + 1) xs) (more (record { place = n; instance = w.instance; at = at; number = omega arith; due = w.due }))

  ascends_if : (b : Bool) (i : ℕ) (ps : List ℕ) → ((p : ℕ) → Contains ps p → i < p) → Ascends ps → Ascends (if b then i ∷ ps else ps)
  ascends_if true i ps above h = AllPairs-cons (λ (a b : ℕ). a < b) i ps (All-from_members (λ p. i < p) ps above) h
  ascends_if false i ps above h = h

  ascends : (i : ℕ) (xs : List SeenInstance) → Ascends (due_from rates time i xs)
  ascends i [] = AllPairs-nil (λ (a b : ℕ). a < b)
  ascends i (x ∷ xs) =
      ascends_if (is_due rates x.born time) i (due_from rates time (i + 1) xs)
      (λ p c. let w = sound (i + 1) xs p c in let n : i + 1 + w.place ≡ p = w.number in omega arith)
      (ascends (i + 1) xs)

module _ (s : Seen) (has : HasLocalRates s) (stream time : ℕ) where
  abbrev rates : List Ratio
  rates = locals_of (slice_get s.layout.streams stream)

  members_to : (p : ℕ) → Contains (due_places s stream time) p → IsDueAt s stream time p
  members_to p c =
      let w = sound rates time 0 (instances_seen s stream) p c in
      let n : 0 + w.place ≡ p = w.number in
      let same : w.place ≡ p = omega arith in
      record {
        instance = w.instance;
        at = subst (λ z. slice_get (instances_seen s stream) z ≡ Some w.instance) same w.at;
        counts = due_sound rates w.instance.born time (has stream) w.due;
      }

  members_back : (p : ℕ) → IsDueAt s stream time p → Contains (due_places s stream time) p
  members_back p w =
      complete rates time 0 (instances_seen s stream) p
      (record { place = p; instance = w.instance; at = w.at; number = omega arith; due = due_complete rates w.instance.born time (has stream) w.counts })

  are_due : AreDuePlaces s stream time (due_places s stream time)
  are_due = record { ascending = ascends rates time 0 (instances_seen s stream); members = λ p. (members_to p, members_back p) }

  strict : (a b : ℕ) → a < b → b < a → ⊥
  strict a b h g = omega arith

  only : (places : List ℕ) → AreDuePlaces s stream time places → places ≡ due_places s stream time
  only places h =
      same_by_members (λ (a b : ℕ). a < b) strict places (due_places s stream time) h.ascending (ascends rates time 0 (instances_seen s stream))
      (λ p c. members_back p ((h.members p).0 c))
      (λ p c. (h.members p).1 (members_to p c))

-- the law
pub places_listed : PlacesAreDue
places_listed s has stream time places =
    (only s has stream time places, λ e. subst (λ (ps : List ℕ). AreDuePlaces s stream time ps) (sym e) (are_due s has stream time))
