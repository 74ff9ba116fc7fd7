-- Rounds, one after another.
use Rattle.std.proofs.Common.{ℕ, zero, suc, ◌+◌, ◌-◌, ◌<◌, ◌≤◌, ◌≡◌, refl, ap, sym, ◌∙◌, arith, List, [], ◌∷◌, ◌++◌, Option, Some, None, length, take, drop, nat_eq, Bool, true, false, get_or, subst, if◌then◌else◌}
use Rattle.std.proofs.Math.ListN.{set}
use Rattle.std.specs.Option.{is_some}
use Rattle.lola_value.specs.declared.value.Kind.{Kind}
use Rattle.lola_value.specs.declared.value.Kind.TheVariants as kind
use Rattle.lola_model.specs.declared.spec.Spec.{Spec}
use Rattle.lola_model.specs.declared.spec.Stream.{Stream}
use Rattle.lola_types.specs.LeftOut.{kind_after, round, round_from, missing_kinds, with_least, after_round, rounds, kinds_of, declared_kinds}

pub round_length : (spec : Spec) (before ks : List (Option Kind)) (ss : List Stream) → length ks ≡ length ss → length (round_from spec before ks ss) ≡ length ss
round_length spec before [] [] h = refl
round_length spec before [] (s ∷ ss) h = absurd (omega (arith, h))
round_length spec before (k ∷ ks) [] h = absurd (omega (arith, h))
round_length spec before (k ∷ ks) (s ∷ ss) h = let h2 : length ks ≡ length ss = omega (arith, h) in omega (arith, round_length spec before ks ss h2)

pub least_length : (ks : List (Option Kind)) → length (with_least ks) ≡ length ks
least_length [] = refl
least_length (None ∷ ks) = refl
least_length (Some k ∷ ks) = omega (arith, least_length ks)

-- where no kind is missing, nothing changes
pub least_of_found : (ks : List (Option Kind)) → missing_kinds ks ≡ 0 → with_least ks ≡ ks
least_of_found [] h = refl
least_of_found (None ∷ ks) h = absurd (omega (arith, h))
least_of_found (Some k ∷ ks) h = ap (λ z. Some k ∷ z) (least_of_found ks h)

round_of_found : (spec : Spec) (before ks : List (Option Kind)) (ss : List Stream) → missing_kinds ks ≡ 0 → missing_kinds (round_from spec before ks ss) ≡ 0
round_of_found spec before [] ss h = refl
round_of_found spec before (None ∷ ks) ss h = absurd (omega (arith, h))
round_of_found spec before (Some k ∷ ks) [] h = refl
round_of_found spec before (Some k ∷ ks) (s ∷ ss) h = round_of_found spec before ks ss h

same_after : (ks next : List (Option Kind)) (m n : ℕ) → m ≡ 0 → n ≡ 0 → (if nat_eq m n then with_least ks else next) ≡ with_least ks
same_after ks next m n p q = rw (p, q) refl

after_of_found : (spec : Spec) (ks : List (Option Kind)) → missing_kinds ks ≡ 0 → after_round ks (round spec ks) ≡ ks
after_of_found spec ks h = same_after ks (round spec ks) _ _ (round_of_found spec ks ks spec.streams h) h ∙ least_of_found ks h

pub rounds_of_found : (most : ℕ) (spec : Spec) (ks : List (Option Kind)) → missing_kinds ks ≡ 0 → rounds most spec ks ≡ ks
rounds_of_found zero spec ks h = refl
rounds_of_found (suc most) spec ks h = ap (rounds most spec) (after_of_found spec ks h) ∙ rounds_of_found most spec ks h

-- one round of those that are left
pub round_step : (left less : ℕ) (spec : Spec) (ks : List (Option Kind)) → left ≡ less + 1 → rounds left spec ks ≡ rounds less spec (after_round ks (round spec ks))
round_step left less spec ks h = let e : left ≡ suc less = omega (arith, h) in ap (λ n. rounds n spec ks) e

-- the first that is missing gets its kind
none_where : (v : Option Kind) → is_some v ≡ false → v ≡ None
none_where None h = refl
none_where (Some k) h = absurd (cc)

set_first : (ks : List (Option Kind)) (i : ℕ) → i < length ks → None ≡ get_or ks i None → with_least ks ≡ take i ks ++ with_least (drop i ks) → set ks i (Some kind.Int64) ≡ with_least ks
set_first [] i h e p = absurd (omega (arith, h))
set_first (None ∷ ks) zero h e p = refl
set_first (None ∷ ks) (suc i) h e p = absurd (cc)
set_first (Some k ∷ ks) zero h e p = absurd (cc)
set_first (Some k ∷ ks) (suc i) h e p = let q : i < length ks = omega (arith, h) in let r : with_least ks ≡ take i ks ++ with_least (drop i ks) = cc in ap (λ z. Some k ∷ z) (set_first ks i q e r)

pub set_least : (ks : List (Option Kind)) (i : ℕ) (v : Option Kind) → i < length ks → v ≡ get_or ks i v → is_some v ≡ false → with_least ks ≡ take i ks ++ with_least (drop i ks) → set ks i (Some kind.Int64) ≡ with_least ks
set_least ks i v h e n p = set_first ks i h (subst (λ w. w ≡ get_or ks i w) (none_where v n) e) p

-- As many rounds as there are streams find every kind.

-- one more kind of a list, which may be missing
one_more : (k : Option Kind) (ks : List (Option Kind)) (n : ℕ) → missing_kinds ks ≤ n → missing_kinds (k ∷ ks) ≤ n + 1
one_more None ks n h = omega (arith, h)
one_more (Some j) ks n h = omega (arith, h)

round_finds : (spec : Spec) (before ks : List (Option Kind)) (ss : List Stream) → missing_kinds (round_from spec before ks ss) ≤ missing_kinds ks
round_finds spec before [] ss = omega arith
round_finds spec before (None ∷ ks) [] = omega arith
round_finds spec before (Some k ∷ ks) [] = omega arith
round_finds spec before (None ∷ ks) (s ∷ ss) = one_more (kind_after spec before None s) (round_from spec before ks ss) (missing_kinds ks) (round_finds spec before ks ss)
round_finds spec before (Some k ∷ ks) (s ∷ ss) = round_finds spec before ks ss

least_finds : (ks : List (Option Kind)) → missing_kinds (with_least ks) ≡ missing_kinds ks - 1
least_finds [] = refl
least_finds (None ∷ ks) = omega arith
least_finds (Some k ∷ ks) = least_finds ks

step_finds : (ks next : List (Option Kind)) (b : Bool) → nat_eq (missing_kinds next) (missing_kinds ks) ≡ b → missing_kinds next ≤ missing_kinds ks
    → missing_kinds (if b then with_least ks else next) ≤ missing_kinds ks - 1
step_finds ks next true e h = omega (arith, least_finds ks)
step_finds ks next false e h = grind (arith, e, h)

after_finds : (spec : Spec) (ks : List (Option Kind)) → missing_kinds (after_round ks (round spec ks)) ≤ missing_kinds ks - 1
after_finds spec ks = step_finds ks (round spec ks) (nat_eq (missing_kinds (round spec ks)) (missing_kinds ks)) refl (round_finds spec ks ks spec.streams)

rounds_find : (most : ℕ) (spec : Spec) (ks : List (Option Kind)) → missing_kinds ks ≤ most → missing_kinds (rounds most spec ks) ≡ 0
rounds_find zero spec ks h = omega (arith, h)
rounds_find (suc most) spec ks h = let less : missing_kinds (after_round ks (round spec ks)) ≤ most = omega (arith, after_finds spec ks, h) in rounds_find most spec (after_round ks (round spec ks)) less

few_missing : (ss : List Stream) → missing_kinds (declared_kinds ss) ≤ length ss
few_missing [] = omega arith
few_missing (s ∷ ss) = let h : missing_kinds (s.kind ∷ declared_kinds ss) ≤ length ss + 1 = one_more s.kind (declared_kinds ss) (length ss) (few_missing ss) in omega (arith, h)

pub all_found : (spec : Spec) → missing_kinds (kinds_of spec) ≡ 0
all_found spec = rounds_find (length spec.streams) spec (declared_kinds spec.streams) (few_missing spec.streams)
