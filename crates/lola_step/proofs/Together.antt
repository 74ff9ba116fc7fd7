-- The instances of a whole stream are given what they come to at once, as if one after another.
use Rattle.std.proofs.Common.{◌≡◌, ◌∙◌, refl, ap, sym, subst, ℕ, zero, suc, ◌+◌, ◌<◌, ◌≤◌, arith, List, [], ◌∷◌, length, Option, Some, None, slice_get, take, drop, add-one, IsTrue}
use Rattle.std.proofs.lemmas.Option.{slice_get_within}
use Rattle.lola_value.specs.Naming.{Naming, IsHeldIn, read_outcome}
use Rattle.lola_value.specs.declared.value.Outcome.{Outcome}
use Rattle.lola_value.specs.declared.value.Outcome.TheVariants as outcome
use Rattle.lola_model.specs.Content.{Content, seen}
use Rattle.lola_model.specs.Given.{AreHeldIn, AreOutcomesOf, after_each, after_given}
use Rattle.lola_model.specs.Store.{IsRunning, Memories, Seen, SeenInstance, Stands, instances_seen, is_silent, kind_in, now_at, now_seen, StreamLayout}
use Rattle.lola_model.proofs.Giving.{each_next, given_missing, given_none}
use Rattle.lola_step_contents.specs.Changed.{told}
use Rattle.lola_step_contents.proofs.Tellings.{stands_told}
use Rattle.lola_step.specs.Given.{AreKnown, AreFirstOf, CanGive, CanGiveAll, after_all, after_giving, told_outcomes}
use Rattle.lola_step.specs.declared.tasks.Task.{Task}
use Rattle.lola_step.proofs.Keeping.{now_else}
use Rattle.lola_step.proofs.OneByOne.{stands_missing}

-- a part is given, and then another

layout_giving : (s : Seen) (t : Task) (r : Outcome) → (after_giving s t r).layout ≡ s.layout
layout_giving s t (outcome.Value v) = refl
layout_giving s t outcome.Missing = refl
layout_giving s t (outcome.Fault k) = refl
layout_giving s t outcome.Poison = refl

pub layout_all : (s : Seen) (ts : List Task) (rs : List Outcome) → (after_all s ts rs).layout ≡ s.layout
layout_all s [] rs = refl
layout_all s (t ∷ ts) [] = refl
layout_all s (t ∷ ts) (r ∷ rs) = layout_all (after_giving s t r) ts rs ∙ layout_giving s t r

all_nothing : (s : Seen) (k : ℕ) → after_all s (take k []) (take k []) ≡ s
all_nothing s zero = refl
all_nothing s (suc k) = refl

pub all_parts : (s : Seen) (ts : List Task) (rs : List Outcome) (i k m : ℕ) → length ts ≡ length rs → m ≡ i + k
    → after_all (after_all s (take i ts) (take i rs)) (take k (drop i ts)) (take k (drop i rs)) ≡ after_all s (take m ts) (take m rs)
all_parts s ts rs zero k m e q = ap (λ j. after_all s (take j ts) (take j rs)) (omega arith)
all_parts s [] [] (suc i) k m e q = all_nothing s k ∙ sym (all_nothing s m)
all_parts s [] (r ∷ rs) (suc i) k m e q = absurd (omega arith)
all_parts s (t ∷ ts) [] (suc i) k m e q = absurd (omega arith)
all_parts s (t ∷ ts) (r ∷ rs) (suc i) k zero e q = absurd (omega arith)
all_parts s (t ∷ ts) (r ∷ rs) (suc i) k (suc m) e q = all_parts (after_giving s t r) ts rs i k m (omega arith) (omega arith)

told_nothing_more : (names : Naming) (c : Content) (k : ℕ) → told_outcomes names c (take k []) (take k []) ≡ c
told_nothing_more names c zero = refl
told_nothing_more names c (suc k) = refl

pub told_parts : (names : Naming) (c : Content) (ts : List Task) (rs : List Outcome) (i k m : ℕ) → length ts ≡ length rs → m ≡ i + k
    → told_outcomes names (told_outcomes names c (take i ts) (take i rs)) (take k (drop i ts)) (take k (drop i rs)) ≡ told_outcomes names c (take m ts) (take m rs)
told_parts names c ts rs zero k m e q = ap (λ j. told_outcomes names c (take j ts) (take j rs)) (omega arith)
told_parts names c [] [] (suc i) k m e q = told_nothing_more names c k ∙ sym (told_nothing_more names c m)
told_parts names c [] (r ∷ rs) (suc i) k m e q = absurd (omega arith)
told_parts names c (t ∷ ts) [] (suc i) k m e q = absurd (omega arith)
told_parts names c (t ∷ ts) (r ∷ rs) (suc i) k zero e q = absurd (omega arith)
told_parts names c (t ∷ ts) (r ∷ rs) (suc i) k (suc m) e q = told_parts names (told c t.stream t.index (seen (read_outcome names r))) ts rs i k m (omega arith) (omega arith)

pub can_later : (s : Seen) (ts : List Task) (rs : List Outcome) (k : ℕ) → CanGiveAll s ts rs → CanGiveAll (after_all s (take k ts) (take k rs)) (drop k ts) (drop k rs)
can_later s ts rs zero h = h
can_later s [] [] (suc k) h = tt
can_later s [] (r ∷ rs) (suc k) h = absurd h
can_later s (t ∷ ts) [] (suc k) h = absurd h
can_later s (t ∷ ts) (r ∷ rs) (suc k) h = can_later (after_giving s t r) ts rs k h.1

pub can_taken : (s : Seen) (ts : List Task) (rs : List Outcome) (k : ℕ) → CanGiveAll s ts rs → CanGiveAll s (take k ts) (take k rs)
can_taken s ts rs zero h = tt
can_taken s [] [] (suc k) h = tt
can_taken s [] (r ∷ rs) (suc k) h = absurd h
can_taken s (t ∷ ts) [] (suc k) h = absurd h
can_taken s (t ∷ ts) (r ∷ rs) (suc k) h = (h.0, can_taken (after_giving s t r) ts rs k h.1)

pub held_taken : (names : Naming) (rs : List Outcome) (k : ℕ) → AreHeldIn names rs → AreHeldIn names (take k rs)
held_taken names rs zero h = tt
held_taken names [] (suc k) h = tt
held_taken names (r ∷ rs) (suc k) h = (h.0, held_taken names rs k h.1)

pub held_dropped : (names : Naming) (rs : List Outcome) (k : ℕ) → AreHeldIn names rs → AreHeldIn names (drop k rs)
held_dropped names rs zero h = h
held_dropped names [] (suc k) h = tt
held_dropped names (r ∷ rs) (suc k) h = held_dropped names rs k h.1

known_dropped : (s : Seen) (ts : List Task) (k : ℕ) → AreKnown s ts → AreKnown s (drop k ts)
known_dropped s ts zero h = h
known_dropped s [] (suc k) h = h
known_dropped s (t ∷ ts) (suc k) h = known_dropped s ts k (λ i u e. h (suc i) u e)

-- of tasks that are left
pub known_later : (s now : Seen) (ts : List Task) (k : ℕ) → now.layout ≡ s.layout → AreKnown s ts → AreKnown now (drop k ts)
known_later s now ts k e h = λ i t at. let w = known_dropped s ts k h i t at in omega (arith, w, ap (λ l. length l.streams) e)

-- the tasks of a whole stream

abbrev tasks_of_stream : ℕ → ℕ → List Outcome → List Task
tasks_of_stream n i [] = []
tasks_of_stream n i (r ∷ rs) = record { stream = n; index = i } ∷ tasks_of_stream n (i + 1) rs

tasks_are : (n : ℕ) (ts : List Task) (rs : List Outcome) (k : ℕ) → length ts ≡ length rs → ((i : ℕ) → i < length ts → slice_get ts i ≡ Some (record { stream = n; index = k + i })) → ts ≡ tasks_of_stream n k rs
tasks_are n [] [] k e h = refl
tasks_are n [] (r ∷ rs) k e h = absurd (omega arith)
tasks_are n (t ∷ ts) [] k e h = absurd (omega arith)
tasks_are n (t ∷ ts) (r ∷ rs) k e h =
    let a : Some t ≡ Some (record { stream = n; index = k + 0 }) = h 0 (omega arith) in
    let b : t ≡ record { stream = n; index = k + 0 } = cc in
    let z : k + 0 ≡ k = omega arith in
    let head : t ≡ record { stream = n; index = k } = b ∙ ap (λ j. record { stream = n; index = j }) z in
    let rest = tasks_are n ts rs (k + 1) (omega arith) (λ i l.
    h (suc i) (omega arith) ∙ ap (λ j. Some (record { stream = n; index = j })) (let s : k + suc i ≡ k + 1 + i = omega arith in s)) in
    λ i. head i ∷ rest i

-- one of them has its duty
giving_is : (s : Seen) (n i : ℕ) (r : Outcome) → after_giving s (record { stream = n; index = i }) r ≡ after_given s n i r
giving_is s n i (outcome.Value v) = refl
giving_is s n i outcome.Missing = given_missing s n i
giving_is s n i (outcome.Fault k) = refl
giving_is s n i outcome.Poison = refl

-- where a list begins behind a place
begins : {X : Type 0} (xs : List X) (i : ℕ) (x : X) (ys : List X) → drop i xs ≡ x ∷ ys → (slice_get xs i ≡ Some x) × (drop (suc i) xs ≡ ys)
begins [] zero x ys e = absurd (cc)
begins [] (suc i) x ys e = absurd (cc)
begins (z ∷ xs) zero x ys e = (cc, cc)
begins (z ∷ xs) (suc i) x ys e = begins xs i x ys e

ends : {X : Type 0} (xs : List X) (i : ℕ) → drop i xs ≡ [] → take i xs ≡ xs
ends [] zero e = refl
ends [] (suc i) e = refl
ends (z ∷ xs) zero e = absurd (cc)
ends (z ∷ xs) (suc i) e = ap (λ ys. z ∷ ys) (ends xs i e)

rest_given : (s : Seen) (n : ℕ) (rs qs : List Outcome) (i : ℕ) → drop i rs ≡ qs → after_all (after_each s n (take i rs)) (tasks_of_stream n i qs) qs ≡ after_each s n rs
rest_given s n rs [] i e = ap (after_each s n) (ends rs i e)
rest_given s n rs (r ∷ qs) i e =
    let b = begins rs i r qs e in
    let one : after_giving (after_each s n (take i rs)) (record { stream = n; index = i }) r ≡ after_each s n (take (i + 1) rs) =
    giving_is (after_each s n (take i rs)) n i r ∙ each_next s n rs i r b.0 ∙ ap (λ k. after_each s n (take k rs)) (sym (add-one i)) in
    ap (λ t. after_all t (tasks_of_stream n (i + 1) qs) qs) one ∙ rest_given s n rs qs (i + 1) (ap (λ k. drop k rs) (add-one i) ∙ b.1)

-- all of them at once are all of them in order
pub whole_given : (s : Seen) (n : ℕ) (ts : List Task) (rs : List Outcome) → length ts ≡ length rs → AreFirstOf n ts → after_all s ts rs ≡ after_each s n rs
whole_given s n ts rs e h =
    ap (λ us. after_all s us rs) (tasks_are n ts rs 0 e (λ i l. h i l ∙ ap (λ j. Some (record { stream = n; index = j })) (let z : i ≡ 0 + i = omega arith in z)))
    ∙ ap (λ t. after_all t (tasks_of_stream n 0 rs) rs) (given_none s n) ∙ rest_given s n rs rs 0 refl

-- what may be given in order may be given at once

pub whole_running : (s : Seen) (ts : List Task) (rs : List Outcome) → 1 ≤ length rs → CanGiveAll s ts rs → IsRunning s
whole_running s [] [] l h = absurd (omega arith)
whole_running s [] (r ∷ rs) l h = absurd h
whole_running s (t ∷ ts) [] l h = absurd h
whole_running s (t ∷ ts) (r ∷ rs) l h = h.0.running

kinds_in_order : (s : Seen) (n k : ℕ) (rs : List Outcome) → CanGiveAll s (tasks_of_stream n k rs) rs → AreOutcomesOf (kind_in (slice_get s.layout.streams n)) rs
kinds_in_order s n k [] h = tt
kinds_in_order s n k (r ∷ rs) h = (
  h.0.kind,
  subst (λ (l : List StreamLayout). AreOutcomesOf (kind_in (slice_get l n)) rs) (ap (λ l. l.streams) (layout_giving s (record { stream = n; index = k }) r))
      (kinds_in_order (after_giving s (record { stream = n; index = k }) r) n (k + 1) rs h.1),
)

silent_in_order : (s : Seen) (n k : ℕ) (rs : List Outcome) → CanGiveAll s (tasks_of_stream n k rs) rs → (i j : ℕ) → j ≡ k + i → i < length rs → IsTrue (is_silent (now_seen s n j))
silent_in_order s n k [] h i j e l = absurd (omega arith)
silent_in_order s n k (r ∷ rs) h zero j e l = let w : k ≡ j = omega arith in subst (λ m. IsTrue (is_silent (now_seen s n m))) w h.0.silent
silent_in_order s n k (r ∷ rs) h (suc i) j e l =
    subst (λ o. IsTrue (is_silent o)) (now_else s (record { stream = n; index = k }) r n j (λ a b. omega arith))
    (silent_in_order (after_giving s (record { stream = n; index = k }) r) n (k + 1) rs h.1 i j (omega arith) (omega arith))

module _ (s : Seen) (n : ℕ) (ts : List Task) (rs : List Outcome) (e : length ts ≡ length rs) (of : AreFirstOf n ts) (can : CanGiveAll s ts rs) where
  in_order : CanGiveAll s (tasks_of_stream n 0 rs) rs
  in_order = subst (λ us. CanGiveAll s us rs) (tasks_are n ts rs 0 e (λ i l. of i l ∙ ap (λ j. Some (record { stream = n; index = j })) (let z : i ≡ 0 + i = omega arith in z))) can

  pub whole_kinds : AreOutcomesOf (kind_in (slice_get s.layout.streams n)) rs
  whole_kinds = kinds_in_order s n 0 rs in_order

  pub whole_silent : length rs ≡ length (instances_seen s n) → (i : ℕ) → IsTrue (is_silent (now_seen s n i))
  whole_silent count i = by (slice_get (instances_seen s n) i) refl
    where
      by : (o : Option SeenInstance) → slice_get (instances_seen s n) i ≡ o → IsTrue (is_silent (now_at o))
      by None q = refl
      by (Some x) q =
          subst (λ o. IsTrue (is_silent (now_at o))) q (silent_in_order s n 0 rs in_order i i (omega arith) (let w = slice_get_within (instances_seen s n) i x q in omega arith))

-- what the store stands for

stands_one : (names : Naming) (R : Memories) (s : Seen) (c : Content) (t : Task) (r : Outcome) → CanGive s t r → IsHeldIn names r → Stands names R s c
    → Stands names R (after_giving s t r) (told c t.stream t.index (seen (read_outcome names r)))
stands_one names R s c t (outcome.Value v) can held h = stands_told names R R (λ m j values k. k) s c t.stream t.index (outcome.Value v) held h
stands_one names R s c t outcome.Missing can held h = stands_missing names R s c t.stream t.index can.silent h
stands_one names R s c t (outcome.Fault k) can held h = stands_told names R R (λ m j values k. k) s c t.stream t.index outcome.Poison tt h
stands_one names R s c t outcome.Poison can held h = stands_told names R R (λ m j values k. k) s c t.stream t.index outcome.Poison tt h

pub stands_all : (names : Naming) (R : Memories) (ts : List Task) (rs : List Outcome) (s : Seen) (c : Content) → CanGiveAll s ts rs → AreHeldIn names rs → Stands names R s c
    → Stands names R (after_all s ts rs) (told_outcomes names c ts rs)
stands_all names R [] [] s c can held h = h
stands_all names R [] (r ∷ rs) s c can held h = absurd can
stands_all names R (t ∷ ts) [] s c can held h = absurd can
stands_all names R (t ∷ ts) (r ∷ rs) s c can held h =
    stands_all names R ts rs (after_giving s t r) (told c t.stream t.index (seen (read_outcome names r))) can.1 held.1 (stands_one names R s c t r can.0 held.0 h)

-- the first of them

module _ (s : Seen) (t : Task) (r : Outcome) where
  pub can_head : (ts : List Task) (rs : List Outcome) → slice_get ts 0 ≡ Some t → slice_get rs 0 ≡ Some r → CanGiveAll s ts rs → CanGive s t r
  can_head [] rs e f h = absurd (cc)
  can_head (u ∷ ts) [] e f h = absurd (cc)
  can_head (u ∷ ts) (q ∷ rs) e f h =
      let a : u ≡ t = cc in
      let b : q ≡ r = cc in
      subst (λ z. CanGive s t z) b (subst (λ z. CanGive s z q) a h.0)

  pub all_head : (ts : List Task) (rs : List Outcome) → slice_get ts 0 ≡ Some t → slice_get rs 0 ≡ Some r → after_giving s t r ≡ after_all s (take 1 ts) (take 1 rs)
  all_head [] rs e f = absurd (cc)
  all_head (u ∷ ts) [] e f = absurd (cc)
  all_head (u ∷ ts) (q ∷ rs) e f =
      let a : t ≡ u = cc in
      let b : r ≡ q = cc in
      ap (λ z. after_giving s z r) a ∙ ap (λ z. after_giving s u z) b

pub told_head : (names : Naming) (c : Content) (t : Task) (r : Outcome) (ts : List Task) (rs : List Outcome) → slice_get ts 0 ≡ Some t → slice_get rs 0 ≡ Some r
    → told c t.stream t.index (seen (read_outcome names r)) ≡ told_outcomes names c (take 1 ts) (take 1 rs)
told_head names c t r [] rs e f = absurd (cc)
told_head names c t r (u ∷ ts) [] e f = absurd (cc)
told_head names c t r (u ∷ ts) (q ∷ rs) e f =
    let a : t ≡ u = cc in
    let b : r ≡ q = cc in
    ap (λ z. told c z.stream z.index (seen (read_outcome names r))) a ∙ ap (λ z. told c u.stream u.index (seen (read_outcome names z))) b

pub held_head : (names : Naming) (r : Outcome) (rs : List Outcome) → slice_get rs 0 ≡ Some r → AreHeldIn names rs → IsHeldIn names r
held_head names r [] f h = absurd (cc)
held_head names r (q ∷ rs) f h = let b : q ≡ r = cc in subst (IsHeldIn names) b h.0
