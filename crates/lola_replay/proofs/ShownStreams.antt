-- The lines of streams, one stream after another.
use Rattle.std.proofs.Common.{◌≡◌, ◌∙◌, refl, sym, ap, ℕ, zero, suc, ◌+◌, ◌≤◌, List, [], ◌∷◌, ◌++◌, Some, arith, drop, length, slice_get}
use Rattle.lola_model.specs.declared.journal.Show.{Show}
use Rattle.lola_model.specs.declared.spec.Stream.{Stream}
use Rattle.lola_replay_step.specs.Rests.{known_lines, life_lines}
use Rattle.lola_replay_table.specs.declared.table.KnownStream.{KnownStream}
use Rattle.lola_replay.specs.Comparing.{Comparison, after_lines}
use Rattle.lola_replay.proofs.ComparingLemmas.{after_append}

module _ (show : Show) (time : ℕ) where
  lines-next : (n : ℕ) (ss : List Stream) (ks : List KnownStream) (s : Stream) (k : KnownStream) → slice_get ss n ≡ Some s → slice_get ks n ≡ Some k
      → known_lines show time (drop n ss) (drop n ks) ≡ life_lines show time s k.lives ++ known_lines show time (drop (suc n) ss) (drop (suc n) ks)
  lines-next n [] ks s k at there = absurd (cc at)
  lines-next n (t ∷ ss) [] s k at there = absurd (cc there)
  lines-next zero (t ∷ ss) (j ∷ ks) s k at there =
      let one : t ≡ s = cc at in
      let two : j ≡ k = cc there in
      ap (λ (x : Stream). life_lines show time x j.lives ++ known_lines show time ss ks) one
      ∙ ap (λ (x : KnownStream). life_lines show time s x.lives ++ known_lines show time ss ks) two
  lines-next (suc n) (t ∷ ss) (j ∷ ks) s k at there = lines-next n ss ks s k at there

  -- the lines of one stream more
  pub lines-more : (c : Comparison) (n : ℕ) (ss : List Stream) (ks : List KnownStream) (s : Stream) (k : KnownStream) → slice_get ss n ≡ Some s → slice_get ks n ≡ Some k
      → after_lines (after_lines c (life_lines show time s k.lives)) (known_lines show time (drop (n + 1) ss) (drop (n + 1) ks)) ≡ after_lines c (known_lines show time (drop n ss) (drop n ks))
  lines-more c n ss ks s k at there =
      let next : n + 1 ≡ suc n = omega arith in
      let rest = known_lines show time (drop (suc n) ss) (drop (suc n) ks) in
      ap (λ m. after_lines (after_lines c (life_lines show time s k.lives)) (known_lines show time (drop m ss) (drop m ks))) next
      ∙ sym (after_append c (life_lines show time s k.lives) rest)
      ∙ ap (after_lines c) (sym (lines-next n ss ks s k at there))

  -- no stream is left
  pub lines-past : (n : ℕ) (ss : List Stream) (ks : List KnownStream) → length ss ≤ n → known_lines show time (drop n ss) (drop n ks) ≡ []
  lines-past zero [] ks past = refl
  lines-past zero (s ∷ ss) ks past = absurd (omega (arith, past))
  lines-past (suc n) [] ks past = refl
  lines-past (suc n) (s ∷ ss) [] past = go ss n
    where
      go : (ss : List Stream) (n : ℕ) → known_lines show time (drop n ss) [] ≡ []
      go ss n = none (drop n ss)
        where
          none : (ts : List Stream) → known_lines show time ts [] ≡ []
          none [] = refl
          none (t ∷ ts) = refl
  lines-past (suc n) (s ∷ ss) (k ∷ ks) past = lines-past n ss ks (omega (arith, past))
