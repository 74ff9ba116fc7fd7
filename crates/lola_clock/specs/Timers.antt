-- The timers of a clock: each rate with the moment of its first deadline that is not passed.
use Rattle.std.specs.Prelude.{ℕ, ◌≡◌, ◌+◌, ◌-◌, ◌*◌, ◌/◌, ◌%◌, ◌<◌, ◌≤◌, List, [], ◌∷◌, Option, Some, None, Bool, IsTrue, if◌then◌else◌, nat_lt, map, min}
use Rattle.lola_value.specs.Ratio.{Ratio}
use Rattle.lola_value.specs.Rate.{deadline, next_deadline, next_number, period_over}
use Rattle.lola_value.specs.Times.{latest}
use Rattle.lola_model.specs.StepOrder.{IsPositiveRate, AreRates}
use Rattle.lola_clock.specs.declared.timers.Timer.{Timer}

-- the moment after the latest time, which stands for all later ones
abbrev pub too_late : ℕ
too_late = 4000000000000000001

-- the moment of a rate's first deadline above another moment
unfoldable pub due_of : ℕ → ℕ → Ratio → ℕ
due_of start passed rate = min (start + next_deadline rate (passed - start)) too_late

-- what cutting that deadline to whole nanoseconds left, in parts of one, of which the rate's numerator are one; 0 where it is too late
unfoldable pub rest_of : ℕ → ℕ → Ratio → ℕ
rest_of start passed rate =
    if nat_lt (start + next_deadline rate (passed - start)) too_late then (next_number rate (passed - start) * period_over rate) % rate.num else 0

-- a timer of a rate, which knows its period in whole nanoseconds and in parts of one
abbrev pub timer_at : Ratio → ℕ → ℕ → Timer
timer_at rate due rest = record { rate = rate; due = due; rest = rest; whole = period_over rate / rate.num; part = period_over rate % rate.num }

-- a timer that stands there
abbrev pub set_timer : ℕ → ℕ → Timer → Timer
set_timer start passed timer = timer_at timer.rate (due_of start passed timer.rate) (rest_of start passed timer.rate)

-- a timer that was never set
abbrev pub new_timer : Ratio → Timer
new_timer rate = timer_at rate 0 0

-- a moment is the deadline of this number, and what cutting it left
pub record IsMoment (start : ℕ) (rate : Ratio) (number due rest : ℕ) : Type 0 where
  pub due_is : due ≡ start + deadline rate number
  pub rest_is : rest ≡ (number * period_over rate) % rate.num

-- the timer's period is that of its rate
pub record HasPeriod (timer : Timer) : Type 0 where
  pub whole : timer.whole ≡ period_over timer.rate / timer.rate.num
  pub part : timer.part ≡ period_over timer.rate % timer.rate.num

-- the timer stands at a deadline
abbrev pub StandsAt : ℕ → Timer → Type 0
StandsAt start timer = (number : ℕ) × IsMoment start timer.rate number timer.due timer.rest

abbrev pub timer_rates : List Timer → List Ratio
timer_rates timers = map (λ (timer : Timer). timer.rate) timers

-- the least moment at which a timer stands
abbrev pub earliest : List Timer → ℕ
earliest [] = too_late
earliest (timer ∷ timers) = min timer.due (earliest timers)

-- a timer that stands above a moment is right for it; one that does not stands at a deadline, where that is known
pub record IsUsable (known : Bool) (start to : ℕ) (timer : Timer) : Type 0 where
  pub period : HasPeriod timer
  pub above : to < timer.due → IsPositiveRate timer.rate × (timer ≡ set_timer start to timer)
  pub stands : IsTrue known → timer.due ≤ to → StandsAt start timer

-- a timer that is set for a moment, if there is one
abbrev pub IsSetOne : ℕ → ℕ → Option Timer → Type 0
IsSetOne start to None = Unit {0}
IsSetOne start to (Some timer) = IsPositiveRate timer.rate × (timer ≡ set_timer start to timer)

abbrev pub AreUsable : Bool → ℕ → ℕ → List Timer → Type 0
AreUsable known start to [] = Unit {0}
AreUsable known start to (timer ∷ timers) = IsUsable known start to timer × AreUsable known start to timers

-- the timers of a clock that has started
pub record AreSet (start passed : ℕ) (timers : List Timer) (least : ℕ) : Type 0 where
  pub order : start ≤ passed
  pub in_time : passed ≤ latest
  pub rates : AreRates (timer_rates timers)
  pub set : timers ≡ map (set_timer start passed) timers
  pub first : least ≡ earliest timers

-- the timers of a clock, which were never set before it starts
abbrev pub AreTimers : Option ℕ → ℕ → List Timer → ℕ → Type 0
AreTimers None passed timers least = (timers ≡ map new_timer (timer_rates timers)) × (least ≡ too_late)
AreTimers (Some start) passed timers least = AreSet start passed timers least
