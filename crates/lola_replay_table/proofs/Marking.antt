-- Instances are marked one after another, and those that are not at rest are taken away.
use Rattle.std.proofs.Common.{◌≡◌, ◌∙◌, refl, ap, ℕ, zero, suc, ◌+◌, ◌<◌, List, [], ◌∷◌, ◌++◌, Bool, true, false, if◌then◌else◌, add-one, arith, drop, filter, length, take}
use Rattle.lola_replay_table.specs.Open.{changed_at}
use Rattle.lola_replay_table.specs.Resting.{is_at_rest, left_lives, marked_life, marked_lives, rested_life, said_at}
use Rattle.lola_replay_table.specs.declared.table.KnownLife.{KnownLife}

-- with one more marked
marked-next : (time : ℕ) (closed : List Bool) (ls : List KnownLife) (place : ℕ) → place < length ls
    → changed_at place (marked_life time (said_at closed place)) (take place (marked_lives time closed ls) ++ drop place ls) ≡ take (suc place) (marked_lives time closed ls) ++ drop (suc place) ls
marked-next time closed [] place within = absurd (omega (arith, within))
marked-next time [] (l ∷ ls) zero within = refl
marked-next time (c ∷ cs) (l ∷ ls) zero within = refl
marked-next time [] (l ∷ ls) (suc place) within = ap (λ ms. rested_life time l ∷ ms) (marked-next time [] ls place (omega (arith, within)))
marked-next time (c ∷ cs) (l ∷ ls) (suc place) within = ap (λ ms. marked_life time c l ∷ ms) (marked-next time cs ls place (omega (arith, within)))

pub one-more : (time : ℕ) (closed : List Bool) (ls : List KnownLife) (place : ℕ) → place < length ls
    → changed_at place (marked_life time (said_at closed place)) (take place (marked_lives time closed ls) ++ drop place ls) ≡ take (place + 1) (marked_lives time closed ls) ++ drop (place + 1) ls
one-more time closed ls place within =
    let next : suc place ≡ place + 1 = omega arith in
    marked-next time closed ls place within ∙ ap (λ k. take k (marked_lives time closed ls) ++ drop k ls) next

-- all marked
pub all-marked : (time : ℕ) (closed : List Bool) (ls : List KnownLife) (place : ℕ) → length ls < place + 1
    → take place (marked_lives time closed ls) ++ drop place ls ≡ marked_lives time closed ls
all-marked time closed [] zero past = refl
all-marked time closed [] (suc place) past = refl
all-marked time closed (l ∷ ls) zero past = absurd (omega (arith, past))
all-marked time [] (l ∷ ls) (suc place) past = ap (λ ms. rested_life time l ∷ ms) (all-marked time [] ls place (omega (arith, past)))
all-marked time (c ∷ cs) (l ∷ ls) (suc place) past = ap (λ ms. marked_life time c l ∷ ms) (all-marked time cs ls place (omega (arith, past)))

-- those at rest are those that are left
pub at-rest : (time : ℕ) (closed : List Bool) (ls : List KnownLife) → filter is_at_rest (marked_lives time closed ls) ≡ left_lives time closed ls
at-rest time closed [] = refl
at-rest time [] (l ∷ ls) = ap (λ ms. rested_life time l ∷ ms) (at-rest time [] ls)
at-rest time (true ∷ cs) (l ∷ ls) = at-rest time cs ls
at-rest time (false ∷ cs) (l ∷ ls) = ap (λ ms. rested_life time l ∷ ms) (at-rest time cs ls)

pub marked-long : (time : ℕ) (closed : List Bool) (ls : List KnownLife) (place : ℕ) → length (take place (marked_lives time closed ls) ++ drop place ls) ≡ length ls
marked-long time closed [] zero = refl
marked-long time closed [] (suc place) = refl
marked-long time [] (l ∷ ls) zero = refl
marked-long time (c ∷ cs) (l ∷ ls) zero = refl
marked-long time [] (l ∷ ls) (suc place) = (let rest = marked-long time [] ls place in omega (arith, rest))
marked-long time (c ∷ cs) (l ∷ ls) (suc place) = (let rest = marked-long time cs ls place in omega (arith, rest))
