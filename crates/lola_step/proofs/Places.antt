-- Which places of a stream are asked: those of the instances that pass a test, in order of birth.
use Rattle.std.proofs.Common.{◌≡◌, refl, ap, ◌∙◌, sym, subst, ℕ, zero, suc, ◌+◌, ◌<◌, ◌≤◌, ◌⊎◌, inl, inr, List, [], ◌∷◌, ◌++◌, Option, Some, None, Bool, true, false, if◌then◌else◌, length, slice_get, take, get_or, arith, add-zero, zero-add, eq-eqb, nat_eq, nat_lt}
use Rattle.std.proofs.lemmas.Bool.{cases_lt, eqb-true, le-ltb, lt-ltb}
use Rattle.std.proofs.lemmas.List.{take_more}
use Rattle.lola_value.specs.Ratio.{Ratio}
use Rattle.lola_model.specs.Dues.{due_from, is_due, locals_of}
use Rattle.lola_model.specs.NextStep.{is_local}
use Rattle.lola_model.specs.Store.{Seen, SeenInstance, instances_seen}
use Rattle.lola_model.specs.declared.pacing.Pacing.{Pacing}
use Rattle.lola_model.specs.declared.pacing.Pacing.TheVariants.{Event, Periodic, Local}
use Rattle.lola_model.specs.Whereabouts.{may_stand_at}
use Rattle.lola_model.specs.declared.store.Whereabouts.{Whereabouts}
use Rattle.lola_model.specs.declared.store.Whereabouts.TheVariants.{At, Nowhere, Unknown}
use Rattle.lola_step.specs.Moments.{IsListedIn, active_for_in, birth_at, born_seen}
use Rattle.lola_step.specs.Notes.{AreOfStream, places_asked, places_from, places_paced, tasks_at}
use Rattle.lola_step.specs.declared.moment.Moment.{Moment}
use Rattle.lola_step.specs.declared.tasks.Task.{Task}
use Rattle.lola_step.proofs.Undue.{undue_is_inactive}

-- tasks at places

abbrev pub task_at : ℕ → ℕ → Task
task_at n i = record { stream = n; index = i }

pub length_tasks : (n : ℕ) (ps : List ℕ) → length (tasks_at n ps) ≡ length ps
length_tasks n [] = refl
length_tasks n (i ∷ ps) = ap suc (length_tasks n ps)

pub tasks_both : (n : ℕ) (ps qs : List ℕ) → tasks_at n (ps ++ qs) ≡ tasks_at n ps ++ tasks_at n qs
tasks_both n [] qs = refl
tasks_both n (i ∷ ps) qs = ap (λ ts. task_at n i ∷ ts) (tasks_both n ps qs)

pub length_places : (i k : ℕ) → length (places_from i k) ≡ k
length_places i zero = refl
length_places i (suc k) = ap suc (length_places (i + 1) k)

places_suc : (i k j : ℕ) → j ≡ i + k → places_from i (suc k) ≡ places_from i k ++ j ∷ []
places_suc i zero j e = let q : j ≡ i = omega arith in rw q refl
places_suc i (suc k) j e = ap (λ ps. i ∷ ps) (places_suc (i + 1) k j (omega arith))

-- one place more, in the loops that list the tasks

pub tasks_more : (n k : ℕ) → tasks_at n (places_from 0 (k + 1)) ≡ tasks_at n (places_from 0 k) ++ task_at n k ∷ []
tasks_more n k =
    let one : k + 1 ≡ suc k = omega arith in
    ap (λ j. tasks_at n (places_from 0 j)) one ∙ (ap (tasks_at n) (places_suc 0 k k (omega arith)) ∙ tasks_both n (places_from 0 k) (k ∷ []))

pub listed_more : (n : ℕ) (ps : List ℕ) (k : ℕ) → k < length ps → tasks_at n (take (k + 1) ps) ≡ tasks_at n (take k ps) ++ task_at n (get_or ps k 0) ∷ []
listed_more n ps k h = ap (tasks_at n) (take_more ps k 0 h) ∙ tasks_both n (take k ps) (get_or ps k 0 ∷ [])

-- of so many places from a number on those that pass a test

abbrev pub places_where : (ℕ → Bool) → ℕ → ℕ → List ℕ
places_where asks i zero = []
places_where asks i (suc k) = if asks i then i ∷ places_where asks (i + 1) k else places_where asks (i + 1) k

-- they are no more than there are
pub few_where : (asks : ℕ → Bool) (i k : ℕ) → length (places_where asks i k) ≤ k
few_where asks i zero = omega arith
few_where asks i (suc k) = by (asks i) (places_where asks (i + 1) k) (few_where asks (i + 1) k)
  where
    by : (b : Bool) (ps : List ℕ) → length ps ≤ k → length (if b then i ∷ ps else ps) ≤ suc k
    by true ps h = omega (arith, h)
    by false ps h = omega (arith, h)

pub of_stream_from : (n i top : ℕ) (ts : List Task) → AreOfStream n (i + 1) top ts → AreOfStream n i top ts
of_stream_from n i top [] h = tt
of_stream_from n i top (t ∷ ts) h = (h.0, omega (arith, h.1), h.2, h.3)

-- and so they are where there are more instances
pub of_stream_up : (n i k top : ℕ) (ts : List Task) → k ≤ top → AreOfStream n i k ts → AreOfStream n i top ts
of_stream_up n i k top [] le h = tt
of_stream_up n i k top (t ∷ ts) le h = (h.0, h.1, omega (arith, le, h.2), of_stream_up n (t.index + 1) k top ts le h.3)

-- their tasks are of instances of the stream, in order
pub of_stream_where : (asks : ℕ → Bool) (n i k top : ℕ) → i + k ≤ top → AreOfStream n i top (tasks_at n (places_where asks i k))
of_stream_where asks n i zero top h = tt
of_stream_where asks n i (suc k) top h = by (asks i) (places_where asks (i + 1) k) (of_stream_where asks n (i + 1) k top (omega (arith, h)))
  where
    by : (b : Bool) (ps : List ℕ) → AreOfStream n (i + 1) top (tasks_at n ps) → AreOfStream n i top (tasks_at n (if b then i ∷ ps else ps))
    by true ps r = (refl, omega arith, omega (arith, h), r)
    by false ps r = of_stream_from n i top (tasks_at n ps) r

all_where : (i k : ℕ) → places_from i k ≡ places_where (λ j. true) i k
all_where i zero = refl
all_where i (suc k) = ap (λ ps. i ∷ ps) (all_where (i + 1) k)

due_where : (rates : List Ratio) (time : ℕ) (all : List SeenInstance) (i : ℕ) (xs : List SeenInstance) → ((j : ℕ) → slice_get all (i + j) ≡ slice_get xs j)
    → due_from rates time i xs ≡ places_where (λ j. is_due rates (birth_at (slice_get all j)) time) i (length xs)
due_where rates time all i [] h = refl
due_where rates time all i (x ∷ xs) h =
    let rest = due_where rates time all (i + 1) xs (λ j. ap (λ k. slice_get all k) (same_place i j) ∙ h (suc j)) in
    let here : x.born ≡ birth_at (slice_get all i) = sym (ap birth_at (ap (λ k. slice_get all k) (sym (add-zero i)) ∙ h 0)) in
    ap (λ b. if is_due rates b time then i ∷ due_from rates time (i + 1) xs else due_from rates time (i + 1) xs) here
    ∙ ap (λ ps. if is_due rates (birth_at (slice_get all i)) time then i ∷ ps else ps) rest
  where
    same_place : (a b : ℕ) → (a + 1) + b ≡ a + suc b
    same_place a b = omega arith

-- the test of the instances of stream n for a clause with a pacing: those that have a deadline where it is local, and else all
abbrev pub paced_for : Option Pacing → Moment → Seen → ℕ → ℕ → Bool
paced_for (Some (Local r)) m s n i = is_due (locals_of (slice_get s.layout.streams n)) (born_seen s n i) m.time
paced_for _ m s n i = true

pub paced_where : (p : Option Pacing) (m : Moment) (s : Seen) (n : ℕ) → places_paced p m s n ≡ places_where (paced_for p m s n) 0 (length (instances_seen s n))
paced_where None m s n = all_where 0 (length (instances_seen s n))
paced_where (Some (Event sets)) m s n = all_where 0 (length (instances_seen s n))
paced_where (Some (Periodic r)) m s n = all_where 0 (length (instances_seen s n))
paced_where (Some (Local r)) m s n =
    due_where (locals_of (slice_get s.layout.streams n)) m.time (instances_seen s n) 0 (instances_seen s n) (λ j. ap (λ k. slice_get (instances_seen s n) k) (zero-add j))

-- for an instance that does not pass it the clause is not active
pub unpaced_is_inactive : (p : Option Pacing) (m : Moment) (s : Seen) (n i : ℕ) → IsListedIn p (locals_of (slice_get s.layout.streams n)) → paced_for p m s n i ≡ false
    → active_for_in m (born_seen s n i) p ≡ false
unpaced_is_inactive None m s n i listed e = absurd (cc)
unpaced_is_inactive (Some (Event sets)) m s n i listed e = absurd (cc)
unpaced_is_inactive (Some (Periodic r)) m s n i listed e = absurd (cc)
unpaced_is_inactive (Some (Local r)) m s n i listed e = undue_is_inactive m (born_seen s n i) r (locals_of (slice_get s.layout.streams n)) listed e

other_place : (a b : ℕ) → (a ≡ b → ⊥) → nat_eq a b ≡ false
other_place a b ne = by (nat_eq a b) refl
  where
    by : (t : Bool) → nat_eq a b ≡ t → nat_eq a b ≡ false
    by true q = absurd (ne (eqb-true a b q))
    by false q = q

at_least : (a b : ℕ) → b ≤ a → (a ≡ b → ⊥) → b + 1 ≤ a
at_least a b le ne = by (cases_lt b a)
  where
    by : (b < a) ⊎ (a ≤ b) → b + 1 ≤ a
    by (inl h) = omega (arith, h)
    by (inr h) = absurd (ne (omega (arith, le, h)))

-- of places from a number on one, or none

none_where : (j i k : ℕ) → j < i → places_where (λ q. nat_eq j q) i k ≡ []
none_where j i zero h = refl
none_where j i (suc k) h =
    ap (λ b. if b then i ∷ places_where (λ q. nat_eq j q) (i + 1) k else places_where (λ q. nat_eq j q) (i + 1) k) (other_place j i (λ e. omega (arith, h, e)))
    ∙ none_where j (i + 1) k (omega (arith, h))

same_place : (a b : ℕ) → a + suc b ≡ (a + 1) + b
same_place a b = omega arith

above : (a b : ℕ) → b ≤ a → nat_eq a b ≡ false → b + 1 ≤ a
above a b le e = at_least a b le (λ q. absurd (let t = eq-eqb a b q in cc))

one_where : (j i k : ℕ) → i ≤ j → (if nat_lt j (i + k) then j ∷ [] else []) ≡ places_where (λ q. nat_eq j q) i k
one_where j i zero h = ap (λ b. if b then j ∷ [] else []) (le-ltb j (i + 0) (omega (arith, h)))
one_where j i (suc k) h = by (nat_eq j i) refl (one_where j (i + 1) k)
  where
    here : j ≡ i → (if nat_lt j (i + suc k) then j ∷ [] else []) ≡ i ∷ places_where (λ q. nat_eq j q) (i + 1) k
    here e =
        ap (λ b. if b then j ∷ [] else []) (lt-ltb j (i + suc k) (omega (arith, e)))
        ∙ (ap (λ q. q ∷ []) e ∙ ap (λ ps. i ∷ ps) (sym (none_where j (i + 1) k (omega (arith, e)))))

    by : (b : Bool) → nat_eq j i ≡ b → (i + 1 ≤ j → (if nat_lt j ((i + 1) + k) then j ∷ [] else []) ≡ places_where (λ q. nat_eq j q) (i + 1) k)
        → (if nat_lt j (i + suc k) then j ∷ [] else []) ≡ (if nat_eq j i then i ∷ places_where (λ q. nat_eq j q) (i + 1) k else places_where (λ q. nat_eq j q) (i + 1) k)
    by true e rest = here (eqb-true j i e) ∙ sym (ap (λ b. if b then i ∷ places_where (λ q. nat_eq j q) (i + 1) k else places_where (λ q. nat_eq j q) (i + 1) k) e)
    by false e rest =
        ap (λ n. if nat_lt j n then j ∷ [] else []) (same_place i k)
        ∙ (rest (above j i h e)
        ∙ sym (ap (λ b. if b then i ∷ places_where (λ q. nat_eq j q) (i + 1) k else places_where (λ q. nat_eq j q) (i + 1) k) e))

none_at_all : (i k : ℕ) → [] ≡ places_where (λ q. false) i k
none_at_all i zero = refl
none_at_all i (suc k) = none_at_all (i + 1) k

-- the test of the instances of stream n that are asked, where it is noted where they stand
abbrev pub asks_of : Whereabouts → Option Pacing → Moment → Seen → ℕ → ℕ → Bool
asks_of Unknown p m s n i = paced_for p m s n i
asks_of Nowhere p m s n i = false
asks_of (At j) p m s n i = nat_eq j i

pub asked_where : (w : Whereabouts) (p : Option Pacing) (m : Moment) (s : Seen) (n : ℕ) → places_asked w p m s n ≡ places_where (asks_of w p m s n) 0 (length (instances_seen s n))
asked_where Unknown p m s n = paced_where p m s n
asked_where Nowhere p m s n = none_at_all 0 (length (instances_seen s n))
asked_where (At j) p m s n =
    ap (λ k. if nat_lt j k then j ∷ [] else []) (sym (zero-add (length (instances_seen s n)))) ∙ one_where j 0 (length (instances_seen s n)) (omega arith)

-- one that is not asked does not stand there, or the clause is not active for it
pub unasked_so : (w : Whereabouts) (p : Option Pacing) (m : Moment) (s : Seen) (n i : ℕ) → asks_of w p m s n i ≡ false → (may_stand_at w i ≡ false) ⊎ (paced_for p m s n i ≡ false)
unasked_so Unknown p m s n i e = inr e
unasked_so Nowhere p m s n i e = inl refl
unasked_so (At j) p m s n i e = inl e

-- so the instances that are asked are of the stream, in order, and no more than it has

pub few_asked : (w : Whereabouts) (p : Option Pacing) (m : Moment) (s : Seen) (n : ℕ) → length (tasks_at n (places_asked w p m s n)) ≤ length (instances_seen s n)
few_asked w p m s n =
    let a = length_tasks n (places_asked w p m s n) in
    let b = ap length (asked_where w p m s n) in
    let c = few_where (asks_of w p m s n) 0 (length (instances_seen s n)) in
    omega (arith, a, b, c)

pub asked_of_stream : (w : Whereabouts) (p : Option Pacing) (m : Moment) (s : Seen) (n : ℕ) → AreOfStream n 0 (length (instances_seen s n)) (tasks_at n (places_asked w p m s n))
asked_of_stream w p m s n =
    subst (λ ps. AreOfStream n 0 (length (instances_seen s n)) (tasks_at n ps)) (sym (asked_where w p m s n))
    (of_stream_where (asks_of w p m s n) n 0 (length (instances_seen s n)) (length (instances_seen s n)) (omega arith))

-- the place of a single instance, where a clause is active for all alike
pub paced_single : (p : Option Pacing) (m : Moment) (s : Seen) (n : ℕ) → is_local p ≡ false → length (instances_seen s n) ≡ 1 → places_paced p m s n ≡ 0 ∷ []
paced_single None m s n e one = ap (places_from 0) one
paced_single (Some (Event sets)) m s n e one = ap (places_from 0) one
paced_single (Some (Periodic r)) m s n e one = ap (places_from 0) one
paced_single (Some (Local r)) m s n e one = absurd (cc)
