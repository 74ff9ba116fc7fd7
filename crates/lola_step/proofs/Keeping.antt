-- What stays as instances are given their outcomes.
use Rattle.std.proofs.Common.{◌≡◌, refl, ap, ◌∙◌, sym, subst, ℕ, zero, suc, ◌+◌, ◌<◌, ◌≤◌, ◌⊎◌, inl, inr, List, [], ◌∷◌, ◌++◌, Option, Some, length, map, slice_get, arith}
use Rattle.std.proofs.lemmas.Bool.{cases_eq}
use Rattle.lola_value.specs.declared.value.Outcome.{Outcome}
use Rattle.lola_value.specs.declared.value.Outcome.TheVariants as outcome
use Rattle.lola_value.specs.Kinds.{is_outcome_of}
use Rattle.lola_model.specs.Store.{Seen, SeenInstance, SeenStream, after_outcome, changed_at, has_spawned, instances_of, instances_seen, is_running, is_silent, kind_in, now_at, now_seen, told_at}
use Rattle.lola_step.specs.Given.{CanGive, CanGiveAll, after_all, after_giving}
use Rattle.lola_step.specs.Rooms.{room_of, rooms}
use Rattle.lola_step.specs.declared.tasks.Task.{Task}

-- one stream changes

as_many_told : (xs : List SeenInstance) (i : ℕ) (o : Outcome) → length (told_at xs i o) ≡ length xs
as_many_told [] i o = refl
as_many_told (x ∷ xs) zero o = refl
as_many_told (x ∷ xs) (suc i) o = ap suc (as_many_told xs i o)

told_else : (xs : List SeenInstance) (i j : ℕ) (o : Outcome) → (j ≡ i → ⊥) → slice_get (told_at xs i o) j ≡ slice_get xs j
told_else [] i j o h = refl
told_else (x ∷ xs) zero zero o h = absurd (h refl)
told_else (x ∷ xs) zero (suc j) o h = refl
told_else (x ∷ xs) (suc i) zero o h = refl
told_else (x ∷ xs) (suc i) (suc j) o h = told_else xs i j o (λ e. h (ap suc e))

-- what the change keeps is as it was in each stream
same_of : {A : Type 0} (φ : Option SeenStream → A) (f : SeenStream → SeenStream) → ((x : SeenStream) → φ (Some (f x)) ≡ φ (Some x))
    → (ss : List SeenStream) (n m : ℕ) → φ (slice_get (changed_at ss n f) m) ≡ φ (slice_get ss m)
same_of φ f h [] n m = refl
same_of φ f h (x ∷ ss) zero zero = h x
same_of φ f h (x ∷ ss) zero (suc m) = refl
same_of φ f h (x ∷ ss) (suc n) zero = refl
same_of φ f h (x ∷ ss) (suc n) (suc m) = same_of φ f h ss n m

same_else : {A : Type 0} (φ : Option SeenStream → A) (f : SeenStream → SeenStream) (ss : List SeenStream) (n m : ℕ) → (m ≡ n → ⊥) → φ (slice_get (changed_at ss n f) m) ≡ φ (slice_get ss m)
same_else φ f [] n m h = refl
same_else φ f (x ∷ ss) zero zero h = absurd (h refl)
same_else φ f (x ∷ ss) zero (suc m) h = refl
same_else φ f (x ∷ ss) (suc n) zero h = refl
same_else φ f (x ∷ ss) (suc n) (suc m) h = same_else φ f ss n m (λ e. h (ap suc e))

same_map : {A : Type 0} (φ : SeenStream → A) (f : SeenStream → SeenStream) → ((x : SeenStream) → φ (f x) ≡ φ x) → (ss : List SeenStream) (n : ℕ) → map φ (changed_at ss n f) ≡ map φ ss
same_map φ f h [] n = refl
same_map φ f h (x ∷ ss) zero = ap (λ y. y ∷ map φ ss) (h x)
same_map φ f h (x ∷ ss) (suc n) = ap (λ ys. φ x ∷ ys) (same_map φ f h ss n)

as_many : (f : SeenStream → SeenStream) (ss : List SeenStream) (n : ℕ) → length (changed_at ss n f) ≡ length ss
as_many f [] n = refl
as_many f (x ∷ ss) zero = refl
as_many f (x ∷ ss) (suc n) = ap suc (as_many f ss n)

abbrev telling : ℕ → Outcome → SeenStream → SeenStream
telling i o x = record x { instances = told_at x.instances i o }

-- all but outcomes is as it was
pub record Keeps (old new : Seen) : Type 0 where
  pub layout : new.layout ≡ old.layout
  pub phase : new.phase ≡ old.phase
  pub prepared : new.prepared ≡ old.prepared
  pub steps : new.steps ≡ old.steps
  pub streams : length new.streams ≡ length old.streams
  pub rooms_are : rooms new ≡ rooms old
  pub counts : (n : ℕ) → length (instances_seen new n) ≡ length (instances_seen old n)
  pub spawned : (n : ℕ) → has_spawned (slice_get new.streams n) ≡ has_spawned (slice_get old.streams n)

same_room : (i : ℕ) (o : Outcome) (x : SeenStream) → room_of (telling i o x) ≡ room_of x
same_room i o x = omega (arith, as_many_told x.instances i o)

keeps_all : (s : Seen) → Keeps s s
keeps_all s = record { layout = refl; phase = refl; prepared = refl; steps = refl; streams = refl; rooms_are = refl; counts = λ n. refl; spawned = λ n. refl }

keeps_outcome : (s : Seen) (n i : ℕ) (o : Outcome) → Keeps s (after_outcome s n i o)
keeps_outcome s n i o = record {
  layout = refl;
  phase = refl;
  prepared = refl;
  steps = refl;
  streams = as_many (telling i o) s.streams n;
  rooms_are = same_map room_of (telling i o) (λ x. same_room i o x) s.streams n;
  counts = λ m. same_of (λ y. length (instances_of y)) (telling i o) (λ x. as_many_told x.instances i o) s.streams n m;
  spawned = λ m. same_of has_spawned (telling i o) (λ x. refl) s.streams n m;
}

keeps_giving : (s : Seen) (t : Task) (r : Outcome) → Keeps s (after_giving s t r)
keeps_giving s t (outcome.Value v) = keeps_outcome s t.stream t.index (outcome.Value v)
keeps_giving s t outcome.Missing = keeps_all s
keeps_giving s t (outcome.Fault k) = keeps_outcome s t.stream t.index outcome.Poison
keeps_giving s t outcome.Poison = keeps_outcome s t.stream t.index outcome.Poison

keeps_both : (a b c : Seen) → Keeps a b → Keeps b c → Keeps a c
keeps_both a b c h k = record {
  layout = k.layout ∙ h.layout;
  phase = k.phase ∙ h.phase;
  prepared = k.prepared ∙ h.prepared;
  steps = k.steps ∙ h.steps;
  streams = k.streams ∙ h.streams;
  rooms_are = k.rooms_are ∙ h.rooms_are;
  counts = λ n. k.counts n ∙ h.counts n;
  spawned = λ n. k.spawned n ∙ h.spawned n;
}

-- all instances but the one
now_else_outcome : (s : Seen) (n i : ℕ) (o : Outcome) (m j : ℕ) → (m ≡ n → j ≡ i → ⊥) → now_seen (after_outcome s n i o) m j ≡ now_seen s m j
now_else_outcome s n i o m j h = by (cases_eq m n)
  where
    by : (m ≡ n) ⊎ (m ≡ n → ⊥) → now_seen (after_outcome s n i o) m j ≡ now_seen s m j
    by (inl e) = same_of (λ y. now_at (slice_get (instances_of y) j)) (telling i o) (λ x. ap now_at (told_else x.instances i j o (h e))) s.streams n m
    by (inr d) = same_else (λ y. now_at (slice_get (instances_of y) j)) (telling i o) s.streams n m d

pub now_else : (s : Seen) (t : Task) (r : Outcome) (m j : ℕ) → (m ≡ t.stream → j ≡ t.index → ⊥) → now_seen (after_giving s t r) m j ≡ now_seen s m j
now_else s t (outcome.Value v) m j h = now_else_outcome s t.stream t.index (outcome.Value v) m j h
now_else s t outcome.Missing m j h = refl
now_else s t (outcome.Fault k) m j h = now_else_outcome s t.stream t.index outcome.Poison m j h
now_else s t outcome.Poison m j h = now_else_outcome s t.stream t.index outcome.Poison m j h

-- a property of each task
abbrev pub EachTask : (Task → Type 0) → List Task → Type 0
EachTask P [] = Unit {0}
EachTask P (t ∷ ts) = P t × EachTask P ts

pub each_both : (P : Task → Type 0) (ts us : List Task) → EachTask P ts → EachTask P us → EachTask P (ts ++ us)
each_both P [] us h k = k
each_both P (t ∷ ts) us h k = (h.0, each_both P ts us h.1 k)

pub each_at : (P : Task → Type 0) (ts : List Task) (i : ℕ) (t : Task) → slice_get ts i ≡ Some t → EachTask P ts → P t
each_at P [] i t e h = absurd (cc)
each_at P (u ∷ ts) zero t e h = let p : u ≡ t = cc in subst P p h.0
each_at P (u ∷ ts) (suc i) t e h = each_at P ts i t e h.1

pub each_so : (P Q : Task → Type 0) → ((t : Task) → P t → Q t) → (ts : List Task) → EachTask P ts → EachTask Q ts
each_so P Q f [] h = tt
each_so P Q f (t ∷ ts) h = (f t h.0, each_so P Q f ts h.1)

-- once all are given

pub keeps_given : (ts : List Task) (rs : List Outcome) (s : Seen) → Keeps s (after_all s ts rs)
keeps_given [] rs s = keeps_all s
keeps_given (t ∷ ts) [] s = keeps_all s
keeps_given (t ∷ ts) (r ∷ rs) s = keeps_both s (after_giving s t r) (after_all (after_giving s t r) ts rs) (keeps_giving s t r) (keeps_given ts rs (after_giving s t r))

-- a stream without a task
pub now_given : (m j : ℕ) (ts : List Task) (rs : List Outcome) (s : Seen) → EachTask (λ t. m ≡ t.stream → ⊥) ts → now_seen (after_all s ts rs) m j ≡ now_seen s m j
now_given m j [] rs s h = refl
now_given m j (t ∷ ts) [] s h = refl
now_given m j (t ∷ ts) (r ∷ rs) s h = now_given m j ts rs (after_giving s t r) h.1 ∙ now_else s t r m j (λ e f. h.0 e)

-- tasks in the order of streams and places

-- a place at this one or behind it
abbrev pub IsFrom : ℕ → ℕ → ℕ → ℕ → Type 0
IsFrom n i m j = (n < m) ⊎ ((n ≡ m) × (i ≤ j))

-- each behind the one before, from a place on
abbrev pub OrderedFrom : ℕ → ℕ → List Task → Type 0
OrderedFrom n i [] = Unit {0}
OrderedFrom n i (t ∷ ts) = IsFrom n i t.stream t.index × OrderedFrom t.stream (t.index + 1) ts

past_is_from : (n i k l m j : ℕ) → IsFrom n i k l → IsFrom k (l + 1) m j → IsFrom n i m j
past_is_from n i k l m j (inl a) (inl b) = inl (omega arith)
past_is_from n i k l m j (inl a) (inr b) = inl (omega (arith, b.0))
past_is_from n i k l m j (inr a) (inl b) = inl (omega (arith, a.0))
past_is_from n i k l m j (inr a) (inr b) = inr (a.0 ∙ b.0, omega (arith, a.1, b.1))

past_is_other : (k l m j : ℕ) → IsFrom k (l + 1) m j → m ≡ k → j ≡ l → ⊥
past_is_other k l m j (inl a) e f = omega (arith, a, e)
past_is_other k l m j (inr a) e f = omega (arith, a.1, f)

-- an outcome for each task, that can be given at once
abbrev pub AreGivable : Seen → List Task → List Outcome → Type 0
AreGivable s [] [] = Unit {0}
AreGivable s (t ∷ ts) (r ∷ rs) = CanGive s t r × AreGivable s ts rs
AreGivable s _ _ = ⊥

-- what is behind a place is as it was
abbrev Untouched : ℕ → ℕ → Seen → Seen → Type 0
Untouched n i old new = (m j : ℕ) → IsFrom n i m j → now_seen new m j ≡ now_seen old m j

can_still : (old new : Seen) (t : Task) (r : Outcome) → Keeps old new → now_seen new t.stream t.index ≡ now_seen old t.stream t.index → CanGive old t r → CanGive new t r
can_still old new t r k e h = record {
  running = sym (ap is_running (sym k.phase)) ∙ h.running;
  lives = omega (arith, h.lives, k.counts t.stream);
  silent = ap is_silent e ∙ h.silent;
  kind = ap (λ l. is_outcome_of (kind_in (slice_get l.streams t.stream)) r) k.layout ∙ h.kind;
}

can_in_order : (n i : ℕ) (ts : List Task) (rs : List Outcome) (old new : Seen) → Keeps old new → Untouched n i old new → OrderedFrom n i ts → AreGivable old ts rs → CanGiveAll new ts rs
can_in_order n i [] [] old new k u o h = tt
can_in_order n i [] (r ∷ rs) old new k u o h = absurd h
can_in_order n i (t ∷ ts) [] old new k u o h = absurd h
can_in_order n i (t ∷ ts) (r ∷ rs) old new k u o h = (
  can_still old new t r k (u t.stream t.index o.0) h.0,
  can_in_order t.stream (t.index + 1) ts rs old (after_giving new t r) (keeps_both old new (after_giving new t r) k (keeps_giving new t r))
      (λ m j f. now_else new t r m j (past_is_other t.stream t.index m j f) ∙ u m j (past_is_from n i t.stream t.index m j o.0 f)) o.1 h.1,
)

pub can_give_all : (ts : List Task) (rs : List Outcome) (s : Seen) → OrderedFrom 0 0 ts → AreGivable s ts rs → CanGiveAll s ts rs
can_give_all ts rs s o h = can_in_order 0 0 ts rs s s (keeps_all s) (λ m j f. refl) o h
