-- The instances of a stream are given what they come to, one after another.
use Rattle.std.proofs.Common.{◌≡◌, ℕ, zero, suc, ◌<◌, List, [], ◌∷◌, length, take, map, refl, ap, sym, ◌∙◌, subst, arith, Option, Some, None, slice_get, IsTrue}
use Rattle.std.specs.Option.{option_map}
use Rattle.lola_value.specs.declared.value.Kind.{Kind}
use Rattle.lola_value.specs.declared.value.Outcome.{Outcome}
use Rattle.lola_value.specs.declared.value.Outcome.TheVariants as outcome
use Rattle.lola_value.specs.Kinds.{is_outcome_of}
use Rattle.lola_value.specs.Naming.{Naming, IsHeldIn}
use Rattle.lola_model.specs.Given.{AreHeldIn, AreOutcomesOf, after_each, after_given, given, given_at, given_each}
use Rattle.lola_model.specs.Store.{Seen, SeenInstance, SeenStream, changed_at, instances_of, instances_seen, now_at, now_seen, told_at}

-- none had its turn
pub given_nothing : (xs : List SeenInstance) → xs ≡ given_each xs []
given_nothing [] = refl
given_nothing (x ∷ xs) = refl

-- as many as before
pub given_length : (xs : List SeenInstance) (rs : List Outcome) → length (given_each xs rs) ≡ length xs
given_length [] rs = refl
given_length (x ∷ xs) [] = refl
given_length (x ∷ xs) (r ∷ rs) = ap suc (given_length xs rs)

-- one whose turn did not come is as it was
pub given_later : (xs : List SeenInstance) (rs : List Outcome) (i : ℕ) → slice_get (given_each xs (take i rs)) i ≡ slice_get xs i
given_later [] rs i = refl
given_later (x ∷ xs) rs zero = refl
given_later (x ∷ xs) [] (suc i) = refl
given_later (x ∷ xs) (r ∷ rs) (suc i) = given_later xs rs i

-- the outcome of an instance with what it comes to
told_next : (r o : Outcome) → ((x : SeenInstance) → record { params = x.params; born = x.born; outcome = o } ≡ given x r) → (xs : List SeenInstance) (rs : List Outcome) (i : ℕ) → slice_get rs i ≡ Some r
    → told_at (given_each xs (take i rs)) i o ≡ given_each xs (take (suc i) rs)
told_next r o w [] rs i e = refl
told_next r o w (x ∷ xs) [] i e = absurd (cc)
told_next r o w (x ∷ xs) (s ∷ rs) zero e = let q : r ≡ s = cc in ap (λ y. y ∷ xs) (w x ∙ ap (given x) q) ∙ ap (λ ys. given x s ∷ ys) (given_nothing xs)
told_next r o w (x ∷ xs) (s ∷ rs) (suc i) e = ap (λ ys. given x s ∷ ys) (told_next r o w xs rs i e)

none_next : (xs : List SeenInstance) (rs : List Outcome) (i : ℕ) → slice_get rs i ≡ Some outcome.Missing → given_each xs (take i rs) ≡ given_each xs (take (suc i) rs)
none_next [] rs i e = refl
none_next (x ∷ xs) [] i e = absurd (cc)
none_next (x ∷ xs) (s ∷ rs) zero e = let q : outcome.Missing ≡ s = cc in ap (λ y. y ∷ xs) (ap (given x) q) ∙ ap (λ ys. given x s ∷ ys) (given_nothing xs)
none_next (x ∷ xs) (s ∷ rs) (suc i) e = ap (λ ys. given x s ∷ ys) (none_next xs rs i e)

-- one more has its turn
pub given_next : (r : Outcome) (xs : List SeenInstance) (rs : List Outcome) (i : ℕ) → slice_get rs i ≡ Some r → given_at (given_each xs (take i rs)) i r ≡ given_each xs (take (suc i) rs)
given_next (outcome.Value v) xs rs i e = told_next (outcome.Value v) (outcome.Value v) (λ x. refl) xs rs i e
given_next outcome.Missing xs rs i e = none_next xs rs i e
given_next (outcome.Fault k) xs rs i e = told_next (outcome.Fault k) outcome.Poison (λ x. refl) xs rs i e
given_next outcome.Poison xs rs i e = told_next outcome.Poison outcome.Poison (λ x. refl) xs rs i e

-- a stream that is changed twice

changed_twice : (ss : List SeenStream) (n : ℕ) (f g h : SeenStream → SeenStream) → ((x : SeenStream) → g (f x) ≡ h x) → changed_at (changed_at ss n f) n g ≡ changed_at ss n h
changed_twice [] n f g h e = refl
changed_twice (s ∷ ss) zero f g h e = ap (λ z. z ∷ ss) (e s)
changed_twice (s ∷ ss) (suc n) f g h e = ap (λ zs. s ∷ zs) (changed_twice ss n f g h e)

pub changed_none : (ss : List SeenStream) (n : ℕ) (f : SeenStream → SeenStream) → ((x : SeenStream) → x ≡ f x) → ss ≡ changed_at ss n f
changed_none [] n f e = refl
changed_none (s ∷ ss) zero f e = ap (λ z. z ∷ ss) (e s)
changed_none (s ∷ ss) (suc n) f e = ap (λ zs. s ∷ zs) (changed_none ss n f e)

pub changed_found : (ss : List SeenStream) (n : ℕ) (f : SeenStream → SeenStream) → slice_get (changed_at ss n f) n ≡ option_map f (slice_get ss n)
changed_found [] n f = refl
changed_found (s ∷ ss) zero f = refl
changed_found (s ∷ ss) (suc n) f = changed_found ss n f

-- what is shown

instances_given : (o : Option SeenStream) (rs : List Outcome) → instances_of (option_map (λ (x : SeenStream). record x { instances = given_each x.instances rs }) o) ≡ given_each (instances_of o) rs
instances_given None rs = refl
instances_given (Some x) rs = refl

-- the instances of the stream
pub seen_given : (s : Seen) (n : ℕ) (rs : List Outcome) → instances_seen (after_each s n rs) n ≡ given_each (instances_seen s n) rs
seen_given s n rs =
    ap instances_of (changed_found s.streams n (λ (x : SeenStream). record x { instances = given_each x.instances rs })) ∙ instances_given (slice_get s.streams n) rs

pub count_given : (s : Seen) (n : ℕ) (rs : List Outcome) → length (instances_seen (after_each s n rs) n) ≡ length (instances_seen s n)
count_given s n rs = ap length (seen_given s n rs) ∙ given_length (instances_seen s n) rs

-- the outcome of one whose turn did not come
pub now_given : (s : Seen) (n : ℕ) (rs : List Outcome) (i : ℕ) → now_seen (after_each s n (take i rs)) n i ≡ now_seen s n i
now_given s n rs i = ap (λ xs. now_at (slice_get xs i)) (seen_given s n (take i rs)) ∙ ap now_at (given_later (instances_seen s n) rs i)

-- none had its turn
pub given_none : (s : Seen) (n : ℕ) → s ≡ after_each s n []
given_none s n = ap (λ (ss : List SeenStream). record s { streams = ss }) (changed_none s.streams n (λ (x : SeenStream). record x { instances = given_each x.instances [] }) (λ x. ap (λ (xs : List SeenInstance). record x { instances = xs }) (given_nothing x.instances)))

-- nothing is given where there is nothing
pub given_missing : (s : Seen) (n i : ℕ) → s ≡ after_given s n i outcome.Missing
given_missing s n i = ap (λ (ss : List SeenStream). record s { streams = ss }) (changed_none s.streams n (λ (x : SeenStream). record x { instances = given_at x.instances i outcome.Missing }) (λ x. refl))

-- one more has its turn
pub each_next : (s : Seen) (n : ℕ) (rs : List Outcome) (i : ℕ) (r : Outcome) → slice_get rs i ≡ Some r → after_given (after_each s n (take i rs)) n i r ≡ after_each s n (take (suc i) rs)
each_next s n rs i r e =
    ap (λ (ss : List SeenStream). record s { streams = ss })
    (changed_twice s.streams n (λ (x : SeenStream). record x { instances = given_each x.instances (take i rs) }) (λ (x : SeenStream). record x { instances = given_at x.instances i r })
    (λ (x : SeenStream). record x { instances = given_each x.instances (take (suc i) rs) })
    (λ x. ap (λ (xs : List SeenInstance). record x { instances = xs }) (given_next r x.instances rs i e)))

-- each one of them

pub outcome_of_kind : (k : Kind) (rs : List Outcome) (i : ℕ) (r : Outcome) → AreOutcomesOf k rs → slice_get rs i ≡ Some r → IsTrue (is_outcome_of k r)
outcome_of_kind k [] i r h e = absurd (cc)
outcome_of_kind k (s ∷ rs) zero r h e = let q : s ≡ r = cc in subst (λ o. IsTrue (is_outcome_of k o)) q h.0
outcome_of_kind k (s ∷ rs) (suc i) r h e = outcome_of_kind k rs i r h.1 e

pub outcome_held : (names : Naming) (rs : List Outcome) (i : ℕ) (r : Outcome) → AreHeldIn names rs → slice_get rs i ≡ Some r → IsHeldIn names r
outcome_held names [] i r h e = absurd (cc)
outcome_held names (s ∷ rs) zero r h e = let q : s ≡ r = cc in subst (IsHeldIn names) q h.0
outcome_held names (s ∷ rs) (suc i) r h e = outcome_held names rs i r h.1 e
