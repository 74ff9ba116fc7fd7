-- The step is behind stream after stream.
use Rattle.std.proofs.Common.{◌≡◌, ◌∙◌, refl, ap, ℕ, zero, suc, ◌+◌, ◌≤◌, List, [], ◌∷◌, Some, Bool, arith, drop, length, slice_get}
use Rattle.lola_replay_table.specs.Open.{changed_at}
use Rattle.lola_replay_table.specs.Resting.{rested_stream}
use Rattle.lola_replay_table.specs.declared.table.KnownStream.{KnownStream}
use Rattle.lola_replay_step.specs.Rests.{rested_all, rested_behind}

rested-after : (time n : ℕ) (cs : List Bool) (ks : List KnownStream) (k : KnownStream) → slice_get ks n ≡ Some k
    → rested_behind (suc n) time (drop (length k.lives) cs) (changed_at n (rested_stream time cs) ks) ≡ rested_behind n time cs ks
rested-after time n cs [] k at = absurd (cc at)
rested-after time zero cs (j ∷ ks) k at =
    let same : k ≡ j = cc at in
    ap (λ (i : KnownStream). rested_stream time cs j ∷ rested_all time (drop (length i.lives) cs) ks) same
rested-after time (suc n) cs (j ∷ ks) k at = ap (λ ls. j ∷ ls) (rested-after time n cs ks k at)

-- one stream more
pub rested-next : (time n : ℕ) (cs : List Bool) (ks : List KnownStream) (k : KnownStream) → slice_get ks n ≡ Some k
    → rested_behind (n + 1) time (drop (length k.lives) cs) (changed_at n (rested_stream time cs) ks) ≡ rested_behind n time cs ks
rested-next time n cs ks k at =
    let next : n + 1 ≡ suc n = omega arith in
    ap (λ m. rested_behind m time (drop (length k.lives) cs) (changed_at n (rested_stream time cs) ks)) next ∙ rested-after time n cs ks k at

-- and no more
pub rested-past : (time n : ℕ) (cs : List Bool) (ks : List KnownStream) → length ks ≤ n → rested_behind n time cs ks ≡ ks
rested-past time zero cs [] past = refl
rested-past time zero cs (k ∷ ks) past = absurd (omega (arith, past))
rested-past time (suc n) cs [] past = refl
rested-past time (suc n) cs (k ∷ ks) past = ap (λ ls. k ∷ ls) (rested-past time n cs ks (omega (arith, past)))
