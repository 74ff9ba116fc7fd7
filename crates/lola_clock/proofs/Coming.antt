-- The least moment at which a timer stands is the clock's next deadline.
use Rattle.std.proofs.Common.{◌≡◌, ℕ, ◌+◌, ◌-◌, ◌<◌, ◌≤◌, List, [], ◌∷◌, Option, Some, None, Bool, true, false, map, min, nat_le, refl, ap, arith, sym, ◌∙◌, subst, option_and_then, if◌then◌else◌}
use Rattle.std.proofs.lemmas.Bool.{leb-true, leb-false}
use Rattle.lola_value.specs.Ratio.{Ratio}
use Rattle.lola_value.specs.Rate.{next_deadline, IsDeadline}
use Rattle.lola_value.specs.Times.{latest, up_to_latest}
use Rattle.lola_model.specs.Steps.{first_after, earlier_of_two}
use Rattle.lola_model.specs.StepOrder.{AreRates}
use Rattle.lola_model.proofs.Deadlines.{first_after_above, first_after_least, first_after_is, rate_of_some, some_of_rate, IsSomeDeadline}
use Rattle.lola_clock.specs.declared.timers.Timer.{Timer}
use Rattle.lola_clock.specs.Clock.{ClockState, IsClock, IsToCome, IsNextDue, first_to_come}
use Rattle.lola_clock.specs.Timers.{due_of, too_late, set_timer, timer_rates, earliest, AreSet, AreTimers}

-- the moment of a first deadline, with one moment for all later than the latest
abbrev capped : ℕ → Option ℕ → ℕ
capped start None = too_late
capped start (Some offset) = min (start + offset) too_late

-- the earlier of two
capped_two : (o : Option ℕ) (start n : ℕ) → min (min (start + n) too_late) (capped start o) ≡ capped start (Some (earlier_of_two o n))
capped_two None start n = omega arith
capped_two (Some s) start n = omega arith

-- set timers stand at the first deadline of all
earliest_is : (start passed : ℕ) (timers : List Timer) → earliest (map (set_timer start passed) timers) ≡ capped start (first_after (timer_rates timers) (passed - start))
unfolding due_of
earliest_is start passed [] = refl
earliest_is start passed (k ∷ timers) =
    ap (λ n. min (min (start + next_deadline k.rate (passed - start)) too_late) n) (earliest_is start passed timers)
    ∙ capped_two (first_after (timer_rates timers) (passed - start)) start (next_deadline k.rate (passed - start))

-- a moment that is a time or not
time_if : (b : Bool) (t least : ℕ) → nat_le t latest ≡ b → least ≡ min t too_late → least ≤ latest → Some least ≡ (if b then Some t else None)
time_if true t least e h in_time = let k : t ≤ latest = leb-true t latest e in ap Some (omega arith)
time_if false t least e h in_time = let k : latest < t = leb-false t latest e in absurd (omega arith)

no_time_if : (b : Bool) (t least : ℕ) → nat_le t latest ≡ b → least ≡ min t too_late → latest < least → None ≡ (if b then Some t else None)
no_time_if true t least e h late = let k : t ≤ latest = leb-true t latest e in absurd (omega arith)
no_time_if false t least e h late = refl

-- the first deadline, where the least moment is a time
time_of : (o : Option ℕ) (start least : ℕ) → least ≡ capped start o → least ≤ latest → Some least ≡ option_and_then (λ t. up_to_latest (start + t)) o
time_of None start least h in_time = absurd (omega arith)
time_of (Some offset) start least h in_time = time_if (nat_le (start + offset) latest) (start + offset) least refl h in_time

no_time_of : (o : Option ℕ) (start least : ℕ) → least ≡ capped start o → latest < least → None ≡ option_and_then (λ t. up_to_latest (start + t)) o
no_time_of None start least h late = refl
no_time_of (Some offset) start least h late = no_time_if (nat_le (start + offset) latest) (start + offset) least refl h late

-- the clock with these timers
abbrev state_of : Option ℕ → ℕ → List Timer → ClockState
state_of start passed timers = record { rates = timer_rates timers; start = start; passed = passed }

first_of_set : (start passed : ℕ) (timers : List Timer) (least : ℕ) → AreSet start passed timers least → least ≡ capped start (first_after (timer_rates timers) (passed - start))
first_of_set start passed timers least h = h.first ∙ (ap earliest h.set ∙ earliest_is start passed timers)

-- the clock's least moment is its next deadline, where it is a time
pub next_is : (start : Option ℕ) (passed : ℕ) (timers : List Timer) (least : ℕ) → AreTimers start passed timers least → least ≤ latest → Some least ≡ first_to_come (state_of start passed timers)
next_is None passed timers least h in_time = absurd (omega arith)
next_is (Some start) passed timers least h in_time =
    time_of (first_after (timer_rates timers) (passed - start)) start least (first_of_set start passed timers least h) in_time

-- and there is none, where it is not
pub next_is_none : (start : Option ℕ) (passed : ℕ) (timers : List Timer) (least : ℕ) → AreTimers start passed timers least → latest < least → None ≡ first_to_come (state_of start passed timers)
next_is_none None passed timers least h late = refl
next_is_none (Some start) passed timers least h late =
    no_time_of (first_after (timer_rates timers) (passed - start)) start least (first_of_set start passed timers least h) late

module _ (rates : List Ratio) (start passed : ℕ) (are : AreRates rates) (order : start ≤ passed) where
  -- the clock with these rates
  abbrev clock : ClockState
  clock = record { rates = rates; start = Some start; passed = passed }

  -- a moment to come, as a deadline of some rate
  to_come : (t : ℕ) → IsToCome clock t → IsSomeDeadline rates (t - start) × (passed < t)
  to_come t h =
      let e : start ≡ h.start = cc (h.started) in
      (some_of_rate rates h.rate (t - start) h.listed (subst (λ s. IsDeadline h.rate (t - s)) (sym e) h.deadline), h.later)

  -- it is not before the first
  not_before : (t : ℕ) → IsToCome clock t → (offset : ℕ) × (first_after rates (passed - start) ≡ Some offset) × (start + offset ≤ t)
  not_before t h =
      let d = to_come t h in
      let later : passed < t = d.1 in
      let w = first_after_least rates (passed - start) (t - start) are d.0 (omega arith) in
      let near : w.0 ≤ t - start = w.2 in
      (w.0, w.1, omega arith)

  -- the first is to come
  first_comes : (offset : ℕ) → first_after rates (passed - start) ≡ Some offset → IsToCome clock (start + offset)
  first_comes offset e =
      let above : passed - start < offset = first_after_above rates (passed - start) offset are e in
      let w = rate_of_some rates offset (first_after_is rates (passed - start) offset are e) in
      let back : offset ≡ start + offset - start = omega arith in
      record {
        start = start;
        started = refl;
        rate = w.0;
        listed = w.1;
        later = omega arith;
        deadline = subst (λ x. IsDeadline w.0 x) back w.2;
      }

  -- by whether the first is a time
  next_if : (b : Bool) (offset : ℕ) → first_after rates (passed - start) ≡ Some offset → nat_le (start + offset) latest ≡ b → IsNextDue clock (if b then Some (start + offset) else None)
  next_if true offset e in_time = (
    first_comes offset e,
    leb-true (start + offset) latest in_time,
    λ s h. let w = not_before s h in let same : offset ≡ w.0 = cc (e, w.1) in let near : start + w.0 ≤ s = w.2 in omega arith,
  )
  next_if false offset e late =
      λ t h. let w = not_before t h in
      let same : offset ≡ w.0 = cc (e, w.1) in
      let near : start + w.0 ≤ t = w.2 in
      let above : latest < start + offset = leb-false (start + offset) latest late in
      omega arith

  -- by whether there is a first
  next_of : (o : Option ℕ) → first_after rates (passed - start) ≡ o → IsNextDue clock (option_and_then (λ t. up_to_latest (start + t)) o)
  next_of None e = λ t h. absurd (let w = not_before t h in cc (e, w.1))
  next_of (Some offset) e = next_if (nat_le (start + offset) latest) offset e refl

-- the first deadline of the list of steps is the next deadline
pub first_is_next : (start : Option ℕ) (passed : ℕ) (timers : List Timer) (least : ℕ) → AreTimers start passed timers least → IsNextDue (state_of start passed timers) (first_to_come (state_of start passed timers))
first_is_next None passed timers least h = λ t d. absurd (cc (d.started))
first_is_next (Some start) passed timers least h =
    next_of (timer_rates timers) start passed h.rates h.order (first_after (timer_rates timers) (passed - start)) refl

-- so the least moment is it, where it is a time
pub least_is_next : (start : Option ℕ) (passed : ℕ) (timers : List Timer) (least : ℕ) → AreTimers start passed timers least → least ≤ latest → IsNextDue (state_of start passed timers) (Some least)
least_is_next start passed timers least h in_time =
    subst (IsNextDue (state_of start passed timers)) (sym (next_is start passed timers least h in_time)) (first_is_next start passed timers least h)

-- and nothing is, where it is none
pub none_is_next : (start : Option ℕ) (passed : ℕ) (timers : List Timer) (least : ℕ) → AreTimers start passed timers least → latest < least → IsNextDue (state_of start passed timers) None
none_is_next start passed timers least h late =
    subst (IsNextDue (state_of start passed timers)) (sym (next_is_none start passed timers least h late)) (first_is_next start passed timers least h)

-- a clock with such timers is one
pub is_clock : (start : Option ℕ) (passed : ℕ) (timers : List Timer) (least : ℕ) → AreTimers start passed timers least → IsClock (state_of start passed timers)
is_clock None passed timers least h = λ s e. absurd (cc)
is_clock (Some start) passed timers least h =
    λ s e. let same : start ≡ s = cc in let order : start ≤ passed = h.order in (omega arith, h.in_time, h.rates)
