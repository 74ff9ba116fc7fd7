-- How timers are set: those that stand above a moment are right for it, and all are right once each was set.
use Rattle.std.proofs.Common.{◌≡◌, ℕ, ◌-◌, ◌<◌, ◌≤◌, List, [], ◌∷◌, true, false, map, refl, ap, arith, sym, ◌∙◌, subst}
use Rattle.lola_value.specs.Ratio.{Ratio}
use Rattle.lola_value.specs.Rate.{next_number}
use Rattle.lola_value.specs.Times.{latest}
use Rattle.lola_model.specs.StepOrder.{IsPositiveRate, AreRates}
use Rattle.lola_clock.specs.declared.timers.Timer.{Timer}
use Rattle.lola_clock.specs.Timers.{due_of, rest_of, timer_at, set_timer, new_timer, timer_rates, earliest, IsUsable, AreUsable, AreSet}
use Rattle.lola_clock.proofs.Moments.{due_kept, rest_kept, set_stands}

-- timers that were never set are behind every moment
pub new_usable : (start to : ℕ) (rates : List Ratio) → AreUsable false start to (map new_timer rates)
new_usable start to [] = tt
new_usable start to (r ∷ rates) =
    (record { period = record { whole = refl; part = refl }; above = λ above. absurd (omega arith); stands = λ known. absurd (cc (known)) }, new_usable start to rates)

-- setting keeps the rates
pub set_rates : (start to : ℕ) (timers : List Timer) → timer_rates (map (set_timer start to) timers) ≡ timer_rates timers
set_rates start to [] = refl
set_rates start to (k ∷ timers) = ap (λ rs. k.rate ∷ rs) (set_rates start to timers)

-- a timer that was set is set
pub one_set : (start to : ℕ) (old new : Timer) → IsPositiveRate old.rate → new ≡ set_timer start to old → IsPositiveRate new.rate × (new ≡ set_timer start to new)
one_set start to old new rate e = subst (λ (t : Timer). IsPositiveRate t.rate × (t ≡ set_timer start to t)) (sym e) (rate, refl)

-- what is set is set
pub set_again : (start to : ℕ) (timers : List Timer) → map (set_timer start to) timers ≡ map (set_timer start to) (map (set_timer start to) timers)
set_again start to [] = refl
set_again start to (k ∷ timers) = ap (λ ks. set_timer start to k ∷ ks) (set_again start to timers)

module _ (start passed to : ℕ) (order : start ≤ passed) (later : passed ≤ to) (in_time : to ≤ latest) where
  -- a timer that was set for one moment, seen from another
  one_usable : (k : Timer) → IsPositiveRate k.rate → k ≡ set_timer start passed k → IsUsable true start to k
  one_usable k h e =
      let due : k.due ≡ due_of start passed k.rate = ap (λ (t : Timer). t.due) e in
      let rest : k.rest ≡ rest_of start passed k.rate = ap (λ (t : Timer). t.rest) e in
      record {
        period = record { whole = ap (λ (t : Timer). t.whole) e; part = ap (λ (t : Timer). t.part) e };
        above = λ above.
            let above' : to < due_of start passed k.rate = omega arith in (
              h,
              e ∙ (λ i. timer_at k.rate (due_kept start passed to k.rate h order later above' i) (rest_kept start passed to k.rate h order later above' i)),
            );
        stands = λ known le. (
          next_number k.rate (passed - start),
          let m = set_stands start passed to k.rate in_time (omega arith) in
              record { due_is = due ∙ m.due_is; rest_is = rest ∙ m.rest_is },
        );
      }

  -- timers that were set for one moment, seen from another
  pub set_usable : (timers : List Timer) → AreRates (timer_rates timers) → timers ≡ map (set_timer start passed) timers → AreUsable true start to timers
  set_usable [] h e = tt
  set_usable (k ∷ timers) h e =
      let one : k ≡ set_timer start passed k = cc in
      let rest : timers ≡ map (set_timer start passed) timers = cc in
      (one_usable k h.0 one, set_usable timers h.1 rest)

-- timers that all stand above a moment are set for it
all_above : (start to : ℕ) (timers : List Timer) → to < earliest timers → AreUsable true start to timers → timers ≡ map (set_timer start to) timers
all_above start to [] above h = refl
all_above start to (k ∷ timers) above h =
    let one : k ≡ set_timer start to k = (h.0.above (omega arith)).1 in
    let rest : timers ≡ map (set_timer start to) timers = all_above start to timers (omega arith) h.1 in
    ap (λ t. t ∷ timers) one ∙ ap (λ ts. set_timer start to k ∷ ts) rest

-- set timers, after no deadline was passed
pub still_set : (start passed to : ℕ) (timers : List Timer) (least : ℕ) → AreSet start passed timers least → passed ≤ to → to ≤ latest → to < least → AreSet start to timers least
still_set start passed to timers least h later in_time above =
    let first : least ≡ earliest timers = h.first in
    let start_first : start ≤ passed = h.order in
    record {
      order = omega arith;
      in_time = in_time;
      rates = h.rates;
      set = all_above start to timers (omega arith) (set_usable start passed to start_first later in_time timers h.rates h.set);
      first = first;
    }

-- timers that were set one by one
pub now_set : (start to : ℕ) (old new : List Timer) (least : ℕ) → start ≤ to → to ≤ latest → AreRates (timer_rates old) → new ≡ map (set_timer start to) old → least ≡ earliest new → AreSet start to new least
now_set start to old new least order in_time rates set first = record {
  order = order;
  in_time = in_time;
  rates = subst AreRates (sym (ap timer_rates set ∙ set_rates start to old)) rates;
  set = set ∙ (set_again start to old ∙ ap (map (set_timer start to)) (sym set));
  first = first;
}

-- and their rates
pub same_rates : (start to : ℕ) (old new : List Timer) → new ≡ map (set_timer start to) old → timer_rates new ≡ timer_rates old
same_rates start to old new set = ap timer_rates set ∙ set_rates start to old

-- new timers have the rates that they were made of
pub new_rates : (rates : List Ratio) → timer_rates (map new_timer rates) ≡ rates
new_rates [] = refl
new_rates (r ∷ rates) = ap (λ rs. r ∷ rs) (new_rates rates)

-- and are new
pub are_new : (timers : List Timer) (rates : List Ratio) → timers ≡ map new_timer rates → timers ≡ map new_timer (timer_rates timers)
are_new timers rates e = e ∙ ap (map new_timer) (sym (ap timer_rates e ∙ new_rates rates))
