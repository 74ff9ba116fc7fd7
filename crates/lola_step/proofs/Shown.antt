-- What a store shows once a stream of it changes.
use Rattle.std.proofs.Common.{◌≡◌, refl, ap, ◌∙◌, sym, subst, ℕ, zero, suc, ◌+◌, ◌≤◌, ◌<◌, set, List, [], ◌∷◌, Option, Some, length, map, slice_get, if◌then◌else◌, arith}
use Rattle.lola_value.specs.declared.value.Outcome.{Outcome}
use Rattle.lola_model.specs.Model.{most_instances}
use Rattle.lola_model.specs.Store.{Seen, SeenInstance, SeenStream, after_outcome, changed_at, has_spawned, instances_of, now_at, now_seen, told_at}
use Rattle.lola_model.specs.declared.plan.Plan.{Plan}
use Rattle.lola_step.specs.Progress.{GoesOn, IsOf}
use Rattle.lola_step.specs.Rooms.{room_of}

-- what stands at each place of a list in which one element is set

pub set_here : {A : Type 0} (xs : List A) (n : ℕ) (x : A) → n < length xs → slice_get (set xs n x) n ≡ Some x
set_here [] n x lt = absurd (omega (arith, lt))
set_here (y ∷ ys) zero x lt = refl
set_here (y ∷ ys) (suc n) x lt = set_here ys n x (omega (arith, lt))

pub set_else : {A : Type 0} (xs : List A) (n m : ℕ) (x : A) → (m ≡ n → ⊥) → slice_get (set xs n x) m ≡ slice_get xs m
set_else [] n m x d = refl
set_else (y ∷ ys) zero zero x d = absurd (d refl)
set_else (y ∷ ys) zero (suc m) x d = refl
set_else (y ∷ ys) (suc n) zero x d = refl
set_else (y ∷ ys) (suc n) (suc m) x d = set_else ys n m x (λ e. d (ap suc e))

-- as many streams as before
pub changed_length : (ss : List SeenStream) (n : ℕ) (f : SeenStream → SeenStream) → length (changed_at ss n f) ≡ length ss
changed_length [] n f = refl
changed_length (s ∷ ss) zero f = refl
changed_length (s ∷ ss) (suc n) f = ap suc (changed_length ss n f)

-- other streams stay
pub changed_else : (ss : List SeenStream) (n m : ℕ) (f : SeenStream → SeenStream) → (m ≡ n → ⊥) → slice_get (changed_at ss n f) m ≡ slice_get ss m
changed_else [] n m f d = refl
changed_else (s ∷ ss) zero zero f d = absurd (d refl)
changed_else (s ∷ ss) zero (suc m) f d = refl
changed_else (s ∷ ss) (suc n) zero f d = refl
changed_else (s ∷ ss) (suc n) (suc m) f d = changed_else ss n m f (λ e. d (ap suc e))

-- what is the same of the stream that changes is the same of all
pub kept_of : {A : Type 0} (q : Option SeenStream → A) (f : SeenStream → SeenStream) (ss : List SeenStream) (n m : ℕ)
    → ((x : SeenStream) → slice_get ss n ≡ Some x → q (Some (f x)) ≡ q (Some x)) → q (slice_get (changed_at ss n f) m) ≡ q (slice_get ss m)
kept_of q f [] n m h = refl
kept_of q f (s ∷ ss) zero zero h = h s refl
kept_of q f (s ∷ ss) zero (suc m) h = refl
kept_of q f (s ∷ ss) (suc n) zero h = refl
kept_of q f (s ∷ ss) (suc n) (suc m) h = kept_of q f ss n m h

-- and what goes on to hold of it goes on to hold of all
pub moved_of : (P : Option SeenStream → Type 0) (f : SeenStream → SeenStream) (ss : List SeenStream) (n m : ℕ)
    → ((x : SeenStream) → slice_get ss n ≡ Some x → P (Some x) → P (Some (f x))) → P (slice_get ss m) → P (slice_get (changed_at ss n f) m)
moved_of P f [] n m h p = p
moved_of P f (s ∷ ss) zero zero h p = h s refl p
moved_of P f (s ∷ ss) zero (suc m) h p = p
moved_of P f (s ∷ ss) (suc n) zero h p = p
moved_of P f (s ∷ ss) (suc n) (suc m) h p = moved_of P f ss n m h p

pub kept_each : {A : Type 0} (q : SeenStream → A) (f : SeenStream → SeenStream) (ss : List SeenStream) (n : ℕ)
    → ((x : SeenStream) → slice_get ss n ≡ Some x → q (f x) ≡ q x) → map q (changed_at ss n f) ≡ map q ss
kept_each q f [] n h = refl
kept_each q f (s ∷ ss) zero h = ap (λ y. y ∷ map q ss) (h s refl)
kept_each q f (s ∷ ss) (suc n) h = ap (λ ys. q s ∷ ys) (kept_each q f ss n h)

-- how many instances are shown
abbrev pub count_of : Option SeenStream → ℕ
count_of o = length (instances_of o)

-- where no instance of the stream goes, none goes
pub none_goes : (f : SeenStream → SeenStream) (ss : List SeenStream) (n m : ℕ)
    → ((x : SeenStream) → slice_get ss n ≡ Some x → length x.instances ≤ length (f x).instances) → count_of (slice_get ss m) ≤ count_of (slice_get (changed_at ss n f) m)
none_goes f [] n m h = omega arith
none_goes f (s ∷ ss) zero zero h = h s refl
none_goes f (s ∷ ss) zero (suc m) h = omega arith
none_goes f (s ∷ ss) (suc n) zero h = omega arith
none_goes f (s ∷ ss) (suc n) (suc m) h = none_goes f ss n m h

-- a step goes on
pub goes_on_same : (s : Seen) → GoesOn s s
goes_on_same s = record { layout = refl; phase = refl; prepared = refl; steps = refl; rooms = refl; stay = λ n. omega arith }

pub goes_on_far : (r s t : Seen) → GoesOn r s → GoesOn s t → GoesOn r t
goes_on_far r s t g h =
    record {
      layout = h.layout ∙ g.layout;
      phase = h.phase ∙ g.phase;
      prepared = h.prepared ∙ g.prepared;
      steps = h.steps ∙ g.steps;
      rooms = h.rooms ∙ g.rooms;
      stay = λ n. (let a = g.stay n in let b = h.stay n in omega (arith, a, b));
    }

-- a stream that changes with as many instances
module _ (plan : Plan) (s : Seen) (n : ℕ) (f : SeenStream → SeenStream) where
  abbrev pub changed_seen : Seen
  changed_seen = record s { streams = changed_at s.streams n f }

  pub of_same : ((x : SeenStream) → slice_get s.streams n ≡ Some x → length (f x).instances ≡ length x.instances) → IsOf plan s → IsOf plan changed_seen
  of_same h of =
      record {
        layout = of.layout;
        streams = changed_length s.streams n f ∙ of.streams;
        few = λ m. subst (λ k. k ≤ most_instances) (sym (kept_of count_of f s.streams n m h)) (of.few m);
        single = λ m stream at none. kept_of count_of f s.streams n m h ∙ of.single m stream at none;
        order = of.order;
        in_time = of.in_time;
      }

  pub goes_on_by : ((x : SeenStream) → slice_get s.streams n ≡ Some x → room_of (f x) ≡ room_of x)
      → ((x : SeenStream) → slice_get s.streams n ≡ Some x → length x.instances ≤ length (f x).instances) → GoesOn s changed_seen
  goes_on_by h more = record { layout = refl; phase = refl; prepared = refl; steps = refl; rooms = kept_each room_of f s.streams n h; stay = λ m. none_goes f s.streams n m more }

-- an outcome of an instance

told_length : (xs : List SeenInstance) (i : ℕ) (o : Outcome) → length (told_at xs i o) ≡ length xs
told_length [] i o = refl
told_length (x ∷ xs) zero o = refl
told_length (x ∷ xs) (suc i) o = ap suc (told_length xs i o)

module _ (plan : Plan) (s : Seen) (n i : ℕ) (o : Outcome) where
  abbrev tells : SeenStream → SeenStream
  tells x = record x { instances = told_at x.instances i o }

  pub told_of : IsOf plan s → IsOf plan (after_outcome s n i o)
  told_of of = of_same plan s n tells (λ x at. told_length x.instances i o) of

  pub told_goes_on : GoesOn s (after_outcome s n i o)
  told_goes_on = goes_on_by plan s n tells (λ x at. ap (λ k. k + (if x.spawned then 0 else 1)) (told_length x.instances i o))
      (λ x at. let e = told_length x.instances i o in omega (arith, e))

  pub told_else : (m j : ℕ) → (m ≡ n → ⊥) → now_seen (after_outcome s n i o) m j ≡ now_seen s m j
  told_else m j d = ap (λ p. now_at (slice_get (instances_of p) j)) (changed_else s.streams n m tells d)

  pub told_spawned : (m : ℕ) → has_spawned (slice_get (after_outcome s n i o).streams m) ≡ has_spawned (slice_get s.streams m)
  told_spawned m = kept_of has_spawned tells s.streams n m (λ x at. refl)
