-- The earlier of moments, where only times count, the next deadline of what is shown, and the places of those that are at a moment.
use Rattle.std.proofs.Common.{◌≡◌, ℕ, ◌+◌, ◌-◌, ◌≤◌, ◌<◌, List, [], ◌∷◌, map, min, refl, ap, sym, ◌∙◌, arith, length, get_or, drop, drop-cons, add-one, Option, Some, None, slice_get, nat_eq, nat_le, nat_lt, if◌then◌else◌, Bool, ◌&&◌, true, false}
use Rattle.std.proofs.lemmas.Bool.{leb-true, leb-false, lt-ltb}
use Rattle.std.proofs.lemmas.Bool.Decides.{nat_tests}
use Rattle.lola_value.specs.Ratio.{Ratio}
use Rattle.lola_value.specs.Rate.{next_deadline, next_in_time, next_number}
use Rattle.lola_value.specs.Times.{latest, up_to_latest}
use Rattle.lola_model.specs.Activity.{is_deadline}
use Rattle.lola_model.specs.Dues.{due_among, due_from, due_in, due_places, is_due, locals_of}
use Rattle.lola_model.specs.NextStep.{earlier, first_due}
use Rattle.lola_store.specs.declared.instance.Instance.{Instance}
use Rattle.lola_store.specs.declared.population.Population.{Population}
use Rattle.lola_store.specs.declared.store.WholeStore.{WholeStore}
use Rattle.lola_store.specs.Dues.{if_time, due_lives, due_of_lives, due_of_streams}
use Rattle.lola_store.specs.Instances.{instance_seen}
use Rattle.lola_store.specs.Populations.{lives_in, population_layout, population_seen}
use Rattle.lola_store.specs.Stores.{whole_seen}
use Rattle.lola_store.proofs.Places.{layout_at, lives_seen}

-- the order in which the earliest is looked for does not matter

pub earlier_rest : (a b c : Option ℕ) → earlier (earlier a b) c ≡ earlier a (earlier b c)
earlier_rest None b c = refl
earlier_rest (Some s) None c = refl
earlier_rest (Some s) (Some t) None = refl
earlier_rest (Some s) (Some t) (Some u) = ap Some (omega arith)

pub earlier_none : (a : Option ℕ) → earlier a None ≡ a
earlier_none None = refl
earlier_none (Some t) = refl

-- the earlier of two, where only times count

time_yes : (t : ℕ) → t ≤ latest → up_to_latest t ≡ Some t
time_yes t h = let e : nat_le t latest ≡ true = grind (arith, nat_tests) in ap (λ b. if b then Some t else None) e

time_no : (t : ℕ) → latest < t → up_to_latest t ≡ None
time_no t h = let e : nat_le t latest ≡ false = grind (arith, nat_tests) in ap (λ b. if b then Some t else None) e

two_times : (s t : ℕ) (b c : Bool) → nat_le s latest ≡ b → nat_le t latest ≡ c → up_to_latest (min t s) ≡ earlier (up_to_latest s) (up_to_latest t)
two_times s t true true e f =
    let h = leb-true s latest e in
    let k = leb-true t latest f in
    time_yes (min t s) (omega arith) ∙ sym (ap (λ o. earlier o (up_to_latest t)) (time_yes s h) ∙ ap (earlier (Some s)) (time_yes t k))
two_times s t true false e f =
    let h = leb-true s latest e in
    let k = leb-false t latest f in
    let m : min t s ≡ s = omega arith in
    ap up_to_latest m ∙ (time_yes s h ∙ sym (ap (λ o. earlier o (up_to_latest t)) (time_yes s h) ∙ ap (earlier (Some s)) (time_no t k)))
two_times s t false true e f =
    let h = leb-false s latest e in
    let k = leb-true t latest f in
    let m : min t s ≡ t = omega arith in
    ap up_to_latest m ∙ sym (ap (λ o. earlier o (up_to_latest t)) (time_no s h))
two_times s t false false e f =
    let h = leb-false s latest e in
    let k = leb-false t latest f in
    time_no (min t s) (omega arith) ∙ sym (ap (λ o. earlier o (up_to_latest t)) (time_no s h) ∙ time_no t k)

pub earlier_time : (a b : Option ℕ) → if_time (earlier a b) ≡ earlier (if_time a) (if_time b)
earlier_time None b = refl
earlier_time (Some s) None = sym (earlier_none (up_to_latest s))
earlier_time (Some s) (Some t) = two_times s t (nat_le s latest) (nat_le t latest) refl refl

-- an item and those behind it
pub cut_at : {X : Type 0} (xs : List X) (i : ℕ) (x : X) → i < length xs → x ≡ get_or xs i x → drop i xs ≡ x ∷ drop (i + 1) xs
cut_at xs i x l e = drop-cons xs i x l ∙ (λ j. sym e j ∷ drop (sym (add-one i) j) xs)

-- the earliest so far, and one more
pub one_more_due : (so rest all one found next : Option ℕ) → earlier so (if_time rest) ≡ if_time all → rest ≡ earlier one next → found ≡ earlier so (if_time one)
    → earlier found (if_time next) ≡ if_time all
one_more_due so rest all one found next h e f =
    ap (λ o. earlier o (if_time next)) f
    ∙ (earlier_rest so (if_time one) (if_time next)
    ∙ (ap (earlier so) (sym (earlier_time one next))
    ∙ (ap (λ o. earlier so (if_time o)) (sym e) ∙ h)))

-- what is shown of streams has this next deadline

lives_due : (rates : List Ratio) (from step : ℕ) (xs : List Instance) → due_among rates from (map (instance_seen step) xs) ≡ due_of_lives rates from xs
lives_due rates from step [] = refl
lives_due rates from step (x ∷ xs) = ap (earlier (first_due x.born rates from)) (lives_due rates from step xs)

pub streams_due : (from step : ℕ) (ls : List Population) → due_in from (map population_layout ls) (map (population_seen step) ls) ≡ due_of_streams from ls
streams_due from step [] = refl
streams_due from step (l ∷ ls) =
    ap (λ o. earlier o (due_in from (map population_layout ls) (map (population_seen step) ls))) (lives_due l.locals.items from step l.lives.items)
    ∙ ap (earlier (due_of_lives l.locals.items from l.lives.items)) (streams_due from step ls)

-- and the same places of those that are due

lives_places : (rates : List Ratio) (time i step : ℕ) (xs : List Instance) → due_lives rates time i xs ≡ due_from rates time i (map (instance_seen step) xs)
lives_places rates time i step [] = refl
lives_places rates time i step (x ∷ xs) = ap (λ ps. if is_due rates x.born time then i ∷ ps else ps) (lives_places rates time (i + 1) step xs)

pub places_shown : (s : WholeStore) (n time : ℕ) (l : Population) → slice_get s.streams.items n ≡ Some l → due_lives l.locals.items time 0 l.lives.items ≡ due_places (whole_seen s) n time
places_shown s n time l e =
    let seen = lives_seen s.step s.streams.items n ∙ ap (λ o. map (instance_seen s.step) (lives_in o)) e in
    lives_places l.locals.items time 0 s.step l.lives.items
    ∙ λ j. due_from (locals_of (sym (layout_at s.streams.items n l e) j)) time 0 (sym seen j)

-- a moment that a rate's next deadline passes over is none of its own

deadline_if : (t : Bool) (x n after m offset : ℕ) → ◌≡◌ {A = Option (ℕ × ℕ)} (Some (m, offset)) (if t then Some (n, x) else None) → nat_eq offset after ≡ nat_eq x after
deadline_if true x n after m offset h = let e : ◌≡◌ {A = ℕ × ℕ} (m, offset) (n, x) = cc in ap (λ (p : ℕ × ℕ). nat_eq p.1 after) e
deadline_if false x n after m offset h = absurd (cc)

pub deadline_found : (r : Ratio) (after m offset : ℕ) → 0 < after → ◌≡◌ {A = Option (ℕ × ℕ)} (Some (m, offset)) (next_in_time r (after - 1)) → nat_eq offset after ≡ is_deadline r after
deadline_found r after m offset above h =
    deadline_if (nat_le (next_deadline r (after - 1)) latest) (next_deadline r (after - 1)) (next_number r (after - 1)) after m offset h
    ∙ sym (ap (λ t. t && nat_eq (next_deadline r (after - 1)) after) (lt-ltb 0 after above))

late_if : (t : Bool) (x n after : ℕ) → nat_le x latest ≡ t → after ≤ latest → ◌≡◌ {A = Option (ℕ × ℕ)} None (if t then Some (n, x) else None) → nat_eq x after ≡ false
late_if true x n after e in_time h = absurd (cc)
late_if false x n after e in_time h = let above = leb-false x latest e in grind (arith, nat_tests)

pub deadline_late : (r : Ratio) (after : ℕ) → after ≤ latest → ◌≡◌ {A = Option (ℕ × ℕ)} None (next_in_time r (after - 1)) → false ≡ is_deadline r after
deadline_late r after in_time h =
    let e : nat_eq (next_deadline r (after - 1)) after ≡ false =
    late_if (nat_le (next_deadline r (after - 1)) latest) (next_deadline r (after - 1)) (next_number r (after - 1)) after refl in_time h in
    sym (ap (λ t. nat_lt 0 after && t) e ∙ and_false (nat_lt 0 after))
  where
    and_false : (t : Bool) → (t && false) ≡ false
    and_false true = refl
    and_false false = refl
