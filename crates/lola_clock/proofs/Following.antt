-- How the list of steps goes on, by what a clock says: for those who run the steps.
use Rattle.std.proofs.Common.{◌≡◌, ℕ, zero, suc, ◌+◌, ◌-◌, ◌<◌, ◌≤◌, List, [], ◌∷◌, Option, Some, None, Bool, true, false, map, nat_le, refl, ap, arith, ◌∙◌, option_and_then, if◌then◌else◌}
use Rattle.std.proofs.lemmas.Bool.{leb-false}
use Rattle.lola_value.specs.Ratio.{Ratio}
use Rattle.lola_value.specs.Times.{latest, up_to_latest}
use Rattle.lola_model.specs.Steps.{first_after, deadlines_between, deadlines_up_to, deadline_steps, deadline_step}
use Rattle.lola_model.proofs.Deadlines.{deadlines_begin, deadlines_end}
use Rattle.lola_clock.specs.Clock.{ClockState, IsClock, first_to_come}

-- the first deadline of the rates, where it is a time
from_if : (b : Bool) (t u : ℕ) → (if b then Some t else None) ≡ Some u → t ≡ u
from_if true t u h = cc
from_if false t u h = absurd (cc)

-- and where it is none
late_if : (b : Bool) (t : ℕ) → nat_le t latest ≡ b → ◌≡◌ {A = Option ℕ} (if b then Some t else None) None → latest < t
late_if true t e h = absurd (cc)
late_if false t e h = leb-false t latest e

-- the moment after what is passed
abbrev moment_of : ℕ → Option ℕ → Option ℕ
moment_of start o = option_and_then (λ t. up_to_latest (start + t)) o

offset_of : (o : Option ℕ) (start t : ℕ) → moment_of start o ≡ Some t → (offset : ℕ) × (o ≡ Some offset) × (start + offset ≡ t)
offset_of None start t h = absurd (cc)
offset_of (Some offset) start t h = (offset, refl, from_if (nat_le (start + offset) latest) (start + offset) t h)

-- no rate has a deadline
none_between : (m : ℕ) (rates : List Ratio) (passed limit : ℕ) → first_after rates passed ≡ None → deadlines_up_to m rates passed limit ≡ []
none_between zero rates passed limit e = refl
none_between (suc m) [] passed limit e = refl
none_between (suc m) (r ∷ rates) passed limit e = absurd (cc)

-- no deadline is below a limit that is no later than the latest time and one, where none is a time
none_below : (o : Option ℕ) (rates : List Ratio) (start passed limit : ℕ) → first_after rates (passed - start) ≡ o → moment_of start o ≡ None → limit ≤ latest + 1
    → deadlines_between rates (passed - start) (limit - start) ≡ []
none_below None rates start passed limit e h most = none_between (limit - start - (passed - start)) rates (passed - start) (limit - start) e
none_below (Some offset) rates start passed limit e h most =
    let late : latest < start + offset = late_if (nat_le (start + offset) latest) (start + offset) refl h in
    deadlines_end rates (passed - start) (limit - start) offset e (omega arith)

module _ (rates : List Ratio) (start passed : ℕ) where
  -- the clock with these rates
  abbrev clock : ClockState
  clock = record { rates = rates; start = Some start; passed = passed }

  -- the next deadline below a limit is the next step
  pub deadlines_go_on : IsClock clock → (t limit : ℕ) → first_to_come clock ≡ Some t → t < limit
      → deadline_steps rates start (passed - start) (limit - start) ≡ deadline_step t ∷ deadline_steps rates start (t - start) (limit - start)
  deadlines_go_on h t limit e below =
      let w = offset_of (first_after rates (passed - start)) start t e in
      let sum : start + w.0 ≡ t = w.2 in
      let back : w.0 ≡ t - start = omega arith in
      let list : deadlines_between rates (passed - start) (limit - start) ≡ w.0 ∷ deadlines_between rates w.0 (limit - start) =
      deadlines_begin rates (passed - start) (limit - start) w.0 (h start refl).2 w.1 (omega arith) in
      let list' : deadlines_between rates (passed - start) (limit - start) ≡ w.0 ∷ deadlines_between rates (t - start) (limit - start) =
      list ∙ ap (λ n. w.0 ∷ deadlines_between rates n (limit - start)) back in
      ap (map (λ n. deadline_step (start + n))) list' ∙ ap (λ n. deadline_step n ∷ deadline_steps rates start (t - start) (limit - start)) sum

  -- and none is, where the next deadline is not below it
  pub deadlines_stop : (t limit : ℕ) → first_to_come clock ≡ Some t → limit ≤ t → deadline_steps rates start (passed - start) (limit - start) ≡ []
  deadlines_stop t limit e below =
      let w = offset_of (first_after rates (passed - start)) start t e in
      let sum : start + w.0 ≡ t = w.2 in
      ap (map (λ n. deadline_step (start + n))) (deadlines_end rates (passed - start) (limit - start) w.0 w.1 (omega arith))

  -- nor where there is none
  pub deadlines_are_done : (limit : ℕ) → first_to_come clock ≡ None → limit ≤ latest + 1 → deadline_steps rates start (passed - start) (limit - start) ≡ []
  deadlines_are_done limit e most =
      ap (map (λ n. deadline_step (start + n))) (none_below (first_after rates (passed - start)) rates start passed limit refl e most)
