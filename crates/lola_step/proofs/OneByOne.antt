-- How instances are given their outcomes, one after another.
use Rattle.std.proofs.Common.{◌≡◌, refl, ap, ◌∙◌, subst, ℕ, zero, suc, ◌+◌, List, [], ◌∷◌, Some, true, false, slice_get, take, add-one}
use Rattle.lola_value.specs.Answer.{Missing}
use Rattle.lola_value.specs.Naming.{Naming, IsHeldIn, read_outcome}
use Rattle.lola_value.specs.declared.value.Outcome.{Outcome}
use Rattle.lola_value.specs.declared.value.Outcome.TheVariants as outcome
use Rattle.lola_value.specs.declared.value.Value.TheVariants as value
use Rattle.lola_model.specs.Content.{Content, seen}
use Rattle.lola_model.specs.Store.{Memories, Seen, SeenInstance, SeenStream, Stands, after_outcome, changed_at, instances_of, is_silent, now_at, now_seen, told_at}
use Rattle.lola_step_contents.specs.Changed.{told}
use Rattle.lola_step_contents.proofs.Tellings.{stands_told}
use Rattle.lola_step.specs.Given.{AreHeldIn, CanGive, CanGiveAll, after_all, after_giving, told_outcomes}
use Rattle.lola_step.specs.declared.tasks.Task.{Task}

-- telling nothing where nothing was told changes nothing

pub is_missing : (o : Outcome) → is_silent o ≡ true → outcome.Missing ≡ o
is_missing outcome.Missing e = refl
is_missing (outcome.Value v) e = absurd (cc)
is_missing (outcome.Fault k) e = absurd (cc)
is_missing outcome.Poison e = absurd (cc)

told_nothing : (xs : List SeenInstance) (i : ℕ) → is_silent (now_at (slice_get xs i)) ≡ true → told_at xs i outcome.Missing ≡ xs
told_nothing [] i e = refl
told_nothing (x ∷ xs) zero e = ap (λ o. record { params = x.params; born = x.born; outcome = o } ∷ xs) (is_missing x.outcome e)
told_nothing (x ∷ xs) (suc i) e = ap (λ ys. x ∷ ys) (told_nothing xs i e)

changed_nothing : (ss : List SeenStream) (n i : ℕ) → is_silent (now_at (slice_get (instances_of (slice_get ss n)) i)) ≡ true
    → changed_at ss n (λ x. record x { instances = told_at x.instances i outcome.Missing }) ≡ ss
changed_nothing [] n i e = refl
changed_nothing (x ∷ ss) zero i e = ap (λ xs. record x { instances = xs } ∷ ss) (told_nothing x.instances i e)
changed_nothing (x ∷ ss) (suc n) i e = ap (λ ys. x ∷ ys) (changed_nothing ss n i e)

after_missing : (s : Seen) (n i : ℕ) → is_silent (now_seen s n i) ≡ true → after_outcome s n i outcome.Missing ≡ s
after_missing s n i e = ap (λ ss. record s { streams = ss }) (changed_nothing s.streams n i e)

pub stands_missing : (names : Naming) (remembers : Memories) (s : Seen) (c : Content) (n i : ℕ) → is_silent (now_seen s n i) ≡ true
    → Stands names remembers s c → Stands names remembers s (told c n i Missing)
stands_missing names remembers s c n i e h =
    let P : Seen → Type 0 = λ t. Stands names remembers t (told c n i Missing) in
    subst P (after_missing s n i e) (stands_told names remembers remembers (λ m j values k. k) s c n i outcome.Missing tt h)

-- the loop goes on

pub can_first : (s : Seen) (ts us : List Task) (rs qs : List Outcome) (t : Task) (r : Outcome) → ts ≡ t ∷ us → rs ≡ r ∷ qs
    → CanGiveAll s ts rs → CanGive s t r × CanGiveAll (after_giving s t r) us qs
can_first s ts us rs qs t r e f h =
    let P : List Task → Type 0 = λ xs. CanGiveAll s xs rs in
    let Q : List Outcome → Type 0 = λ ys. CanGiveAll s (t ∷ us) ys in
    subst Q f (subst P e h)

all_suc : (s : Seen) (ts : List Task) (rs : List Outcome) (i : ℕ) (t : Task) (r : Outcome) → slice_get ts i ≡ Some t → slice_get rs i ≡ Some r
    → after_all s (take (suc i) ts) (take (suc i) rs) ≡ after_giving (after_all s (take i ts) (take i rs)) t r
all_suc s [] rs i t r e f = absurd (cc)
all_suc s (x ∷ ts) [] i t r e f = absurd (cc)
all_suc s (x ∷ ts) (y ∷ rs) zero t r e f =
    let p : x ≡ t = cc in
    let q : y ≡ r = cc in
    ap (λ z. after_giving s z y) p ∙ ap (λ z. after_giving s t z) q
all_suc s (x ∷ ts) (y ∷ rs) (suc i) t r e f = all_suc (after_giving s x y) ts rs i t r e f

pub all_more : (s : Seen) (ts : List Task) (rs : List Outcome) (i : ℕ) (t : Task) (r : Outcome) → slice_get ts i ≡ Some t → slice_get rs i ≡ Some r
    → after_all s (take (i + 1) ts) (take (i + 1) rs) ≡ after_giving (after_all s (take i ts) (take i rs)) t r
all_more s ts rs i t r e f = ap (λ k. after_all s (take k ts) (take k rs)) add-one' ∙ all_suc s ts rs i t r e f
  where
    add-one' : i + 1 ≡ suc i
    add-one' = rw add-one refl

told_suc : (names : Naming) (c : Content) (ts : List Task) (rs : List Outcome) (i : ℕ) (t : Task) (r : Outcome) → slice_get ts i ≡ Some t → slice_get rs i ≡ Some r
    → told_outcomes names c (take (suc i) ts) (take (suc i) rs) ≡ told (told_outcomes names c (take i ts) (take i rs)) t.stream t.index (seen (read_outcome names r))
told_suc names c [] rs i t r e f = absurd (cc)
told_suc names c (x ∷ ts) [] i t r e f = absurd (cc)
told_suc names c (x ∷ ts) (y ∷ rs) zero t r e f =
    let p : x ≡ t = cc in
    let q : y ≡ r = cc in
    ap (λ z. told c z.stream z.index (seen (read_outcome names y))) p ∙ ap (λ z. told c t.stream t.index (seen (read_outcome names z))) q
told_suc names c (x ∷ ts) (y ∷ rs) (suc i) t r e f = told_suc names (told c x.stream x.index (seen (read_outcome names y))) ts rs i t r e f

pub told_more : (names : Naming) (c : Content) (ts : List Task) (rs : List Outcome) (i : ℕ) (t : Task) (r : Outcome) → slice_get ts i ≡ Some t → slice_get rs i ≡ Some r
    → told_outcomes names c (take (i + 1) ts) (take (i + 1) rs) ≡ told (told_outcomes names c (take i ts) (take i rs)) t.stream t.index (seen (read_outcome names r))
told_more names c ts rs i t r e f = ap (λ k. told_outcomes names c (take k ts) (take k rs)) add-one' ∙ told_suc names c ts rs i t r e f
  where
    add-one' : i + 1 ≡ suc i
    add-one' = rw add-one refl

pub held_at : (names : Naming) (rs : List Outcome) (i : ℕ) (r : Outcome) → slice_get rs i ≡ Some r → AreHeldIn names rs → IsHeldIn names r
held_at names [] i r e h = absurd (cc)
held_at names (y ∷ rs) zero r e h = let p : y ≡ r = cc in subst (λ z. IsHeldIn names z) p h.0
held_at names (y ∷ rs) (suc i) r e h = held_at names rs i r e h.1

-- what a read past the end gives
abbrev pub first_task : Task
first_task = record { stream = 0; index = 0 }

abbrev pub first_outcome : Outcome
first_outcome = outcome.Value (value.Bool false)
