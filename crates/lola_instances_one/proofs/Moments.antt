-- The moment of an instance's next deadline: how it is found, and that it stays the next until it is passed.
use Rattle.std.proofs.Common.{◌≡◌, ℕ, suc, ◌+◌, ◌-◌, ◌^◌, ◌<◌, ◌≤◌, List, [], ◌∷◌, Option, Some, None, Bool, true, false, ◌&&◌, ◌||◌, min, nat_eq, nat_lt, nat_le, refl, ap, sym, ◌∙◌, arith, if◌then◌else◌, drop, length, get_or, subst, add-one, drop-cons}
use Rattle.std.proofs.lemmas.List.{drop_all}
use Rattle.std.proofs.lemmas.Bool.{leb-false}
use Rattle.std.proofs.lemmas.Bool.Decides.{nat_tests}
use Rattle.std.specs.Option.{option_map}
use Rattle.lola_value.specs.Ratio.{Ratio}
use Rattle.lola_value.specs.Rate.{next_deadline, next_number, next_in_time}
use Rattle.lola_value.specs.Times.{latest}
use Rattle.lola_model.specs.Activity.{is_deadline}
use Rattle.lola_model.specs.Dues.{is_due}
use Rattle.lola_model.specs.Steps.{first_after, earlier_of_two}
use Rattle.lola_model.specs.StepOrder.{IsPositiveRate, AreRates}
use Rattle.lola_model.proofs.Deadlines.{next_deadline_above, next_deadline_least}
use Rattle.lola_instances_one.specs.Moments.{cut, due_at, due_by, after_latest}

-- the answer of a rate for an offset
found_if : (b : Bool) (m x n offset born : ℕ) → ◌≡◌ {A = Option (ℕ × ℕ)} (Some (n, offset)) (if b then Some (m, x) else None) → min (born + offset) after_latest ≡ min (born + x) after_latest
found_if true m x n offset born h =
    let e : ◌≡◌ {A = ℕ × ℕ} (n, offset) (m, x) = cc in ap (λ (p : ℕ × ℕ). min (born + p.1) after_latest) e
found_if false m x n offset born h = absurd (cc)

none_if : (b : Bool) (m x born : ℕ) → nat_le x latest ≡ b → ◌≡◌ {A = Option (ℕ × ℕ)} None (if b then Some (m, x) else None) → after_latest ≡ min (born + x) after_latest
none_if true m x born e h = absurd (cc)
none_if false m x born e h = let above : latest < x = leb-false x latest e in omega arith

-- a sum that is cut may be cut before
pub cut_before : (n : ℕ) → min (min n (2 ^ 64 - 1)) after_latest ≡ min n after_latest
cut_before n = omega arith

-- is that of the deadline, where it is a time and where it is none
pub due_found : (born from : ℕ) (r : Ratio) (n offset : ℕ) → ◌≡◌ {A = Option (ℕ × ℕ)} (Some (n, offset)) (next_in_time r (from - born - 1)) → min (born + offset) after_latest ≡ due_by r born from
unfolding due_by
due_found born from r n offset h =
    found_if (nat_le (next_deadline r (from - born - 1)) latest) (next_number r (from - born - 1)) (next_deadline r (from - born - 1)) n offset born h

pub due_none : (born from : ℕ) (r : Ratio) → ◌≡◌ {A = Option (ℕ × ℕ)} None (next_in_time r (from - born - 1)) → after_latest ≡ due_by r born from
unfolding due_by
due_none born from r h =
    none_if (nat_le (next_deadline r (from - born - 1)) latest) (next_number r (from - born - 1)) (next_deadline r (from - born - 1)) born refl h

-- the earlier of the first rate's and the others'
two : (o : Option ℕ) (born n : ℕ) → cut (Some (born + earlier_of_two o n)) ≡ min (min (born + n) after_latest) (cut (option_map (λ t. born + t) o))
two None born n = omega arith
two (Some s) born n = omega arith

pub due_none_of : (born from : ℕ) → due_at [] born from ≡ after_latest
unfolding due_at
due_none_of born from = refl

pub due_more : (r : Ratio) (rs : List Ratio) (born from : ℕ) → due_at (r ∷ rs) born from ≡ min (due_by r born from) (due_at rs born from)
unfolding due_at due_by
due_more r rs born from = two (first_after rs (from - born - 1)) born (next_deadline r (from - born - 1))

-- it is never later than the moment after all
pub due_within : (rates : List Ratio) (born from : ℕ) → due_at rates born from ≤ after_latest
due_within [] born from = let e = due_none_of born from in omega arith
due_within (r ∷ rs) born from = let e = due_more r rs born from in let k = due_within rs born from in omega arith

-- a deadline of one rate stays the next until it is passed
same_moment : (born from to x y : ℕ) → from ≤ to → to ≤ min (born + x) after_latest → from - born - 1 < x → to - born - 1 < y → (to - born - 1 < x → y ≤ x) → (from - born - 1 < y → x ≤ y)
    → min (born + y) after_latest ≡ min (born + x) after_latest
same_moment born from to x y order until above above' least least' =
    let k : y ≤ x = least (omega arith) in
    let l : x ≤ y = least' (omega arith) in
    omega arith

one_stays : (r : Ratio) (born from to : ℕ) → IsPositiveRate r → from ≤ to → to ≤ due_by r born from → due_by r born to ≡ due_by r born from
unfolding due_by
one_stays r born from to h order until =
    same_moment born from to (next_deadline r (from - born - 1)) (next_deadline r (to - born - 1)) order until
    (next_deadline_above r (from - born - 1) h)
    (next_deadline_above r (to - born - 1) h)
    (next_deadline_least r (to - born - 1) (next_number r (from - born - 1)) h)
    (next_deadline_least r (from - born - 1) (next_number r (to - born - 1)) h)

-- and so does that of all
pub due_stays : (rates : List Ratio) (born from to : ℕ) → AreRates rates → from ≤ to → to ≤ due_at rates born from → due_at rates born to ≡ due_at rates born from
due_stays [] born from to h order until = due_none_of born to ∙ sym (due_none_of born from)
due_stays (r ∷ rs) born from to h order until =
    let e = due_more r rs born from in
    let g = due_more r rs born to in
    let one : due_by r born to ≡ due_by r born from = one_stays r born from to h.0 order (omega arith) in
    let rest : due_at rs born to ≡ due_at rs born from = due_stays rs born from to h.1 order (omega arith) in
    omega arith

-- of several rates in turn: the next one, and that they are rates
pub one_more : (rates : List Ratio) (i least one born from : ℕ) (r : Ratio) → i < length rates → r ≡ get_or rates i r → one ≡ due_by r born from
    → min least (due_at (drop i rates) born from) ≡ due_at rates born from → min (min one least) (due_at (drop (i + 1) rates) born from) ≡ due_at rates born from
one_more rates i least one born from r within is by so_far =
    let split : drop i rates ≡ r ∷ drop (i + 1) rates = rw (add-one) (drop-cons rates i r within ∙ ap (λ x. x ∷ drop (suc i) rates) (sym is)) in
    let e : due_at (drop i rates) born from ≡ min (due_by r born from) (due_at (drop (i + 1) rates) born from) = ap (λ rs. due_at rs born from) split ∙ due_more r (drop (i + 1) rates) born from in
    omega arith

pub rates_more : (rates : List Ratio) (i : ℕ) (r : Ratio) → i < length rates → r ≡ get_or rates i r → IsPositiveRate r → (AreRates (drop i rates) → AreRates rates) → AreRates (drop (i + 1) rates) → AreRates rates
rates_more rates i r within is rate so_far rest =
    let split : drop i rates ≡ r ∷ drop (i + 1) rates = rw (add-one) (drop-cons rates i r within ∙ ap (λ x. x ∷ drop (suc i) rates) (sym is)) in
    so_far (subst AreRates (sym split) (rate, rest))

pub all_done : (rates : List Ratio) (i least born from : ℕ) → length rates ≤ i → least ≤ after_latest → min least (due_at (drop i rates) born from) ≡ due_at rates born from → least ≡ due_at rates born from
all_done rates i least born from end within so_far =
    let split : drop i rates ≡ [] = drop_all i rates end in
    let e : due_at (drop i rates) born from ≡ after_latest = ap (λ rs. due_at rs born from) split ∙ due_none_of born from in
    omega arith

pub all_rates : (rates : List Ratio) (i : ℕ) → length rates ≤ i → (AreRates (drop i rates) → AreRates rates) → AreRates rates
all_rates rates i end so_far = so_far (subst AreRates (sym (drop_all i rates end)) tt)

-- a moment is a deadline of one of the rates where it is the first of all that are not before it
now_if : (born time x : ℕ) → time ≤ latest → time - born - 1 < x → nat_eq (min (born + x) after_latest) time ≡ (nat_lt 0 (time - born) && nat_eq x (time - born))
now_if born time x in_time above = grind (arith, nat_tests)

either : (a b time : ℕ) → time ≤ a → time ≤ b → nat_eq (min a b) time ≡ (nat_eq a time || nat_eq b time)
either a b time one rest = grind (arith, nat_tests)

due_by_not_before : (r : Ratio) (born time : ℕ) → IsPositiveRate r → time ≤ latest → time ≤ due_by r born time
unfolding due_by
due_by_not_before r born time is in_time =
    let above : time - born - 1 < next_deadline r (time - born - 1) = next_deadline_above r (time - born - 1) is in
    omega arith

due_not_before : (rates : List Ratio) (born time : ℕ) → AreRates rates → time ≤ latest → time ≤ due_at rates born time
due_not_before [] born time are in_time = let e = due_none_of born time in omega arith
due_not_before (r ∷ rs) born time are in_time =
    let e = due_more r rs born time in
    let one : time ≤ due_by r born time = due_by_not_before r born time are.0 in_time in
    let rest : time ≤ due_at rs born time = due_not_before rs born time are.1 in_time in
    omega arith

now_by : (r : Ratio) (born time : ℕ) → IsPositiveRate r → time ≤ latest → nat_eq (due_by r born time) time ≡ is_deadline r (time - born)
unfolding due_by
now_by r born time is in_time = now_if born time (next_deadline r (time - born - 1)) in_time (next_deadline_above r (time - born - 1) is)

pub due_now : (rates : List Ratio) (born time : ℕ) → AreRates rates → time ≤ latest → nat_eq (due_at rates born time) time ≡ is_due rates born time
due_now [] born time are in_time = let e = due_none_of born time in grind (arith, nat_tests)
due_now (r ∷ rs) born time are in_time =
    let one : time ≤ due_by r born time = due_by_not_before r born time are.0 in_time in
    let rest : time ≤ due_at rs born time = due_not_before rs born time are.1 in_time in
    ap (λ t. nat_eq t time) (due_more r rs born time)
    ∙ (either (due_by r born time) (due_at rs born time) time one rest
    ∙ λ j. now_by r born time are.0 in_time j || due_now rs born time are.1 in_time j)
