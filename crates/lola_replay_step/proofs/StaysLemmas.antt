-- An answer opens no question but those about an instance that is born.
use Rattle.std.proofs.Common.{◌≡◌, ◌∙◌, refl, sym, ap, subst, inl, inr, ℕ, zero, suc, List, [], ◌∷◌, Some, None, slice_get}
use Rattle.lola_replay_table.specs.Open.{IsOpen, IsOpenOutcome, IsOpenSpawn, changed_at, with_life_outcome, with_outcome, with_spawn}
use Rattle.lola_replay_table.specs.declared.answer.KeptAnswer.{KeptAnswer}
use Rattle.lola_replay_table.specs.declared.question.Question.{Question}
use Rattle.lola_replay_table.specs.declared.question.Question.TheVariants.{SpawnOf, OutcomeOf}
use Rattle.lola_replay_table.specs.declared.table.KeptSpawn.{KeptSpawn}
use Rattle.lola_replay_table.specs.declared.table.KnownLife.{KnownLife}
use Rattle.lola_replay_table.specs.declared.table.KnownStream.{KnownStream}
use Rattle.lola_replay_step.proofs.OpenQuestions.{changed-other, same-or-not}

-- what stands at the place of a change is what stood there, changed
pub record Was {A : Type 0} (f : A → A) (n : ℕ) (xs : List A) (y : A) : Type 0 where
  pub before : A
  pub at : slice_get xs n ≡ Some before
  pub changed : f before ≡ y

changed-back : {A : Type 0} (f : A → A) (n : ℕ) (xs : List A) (y : A) → slice_get (changed_at n f xs) n ≡ Some y → Was f n xs y
changed-back f n [] y at = absurd (cc at)
changed-back f zero (x ∷ xs) y at = record { before = x; at = refl; changed = cc at }
changed-back f (suc n) (x ∷ xs) y at = let rest = changed-back f n xs y at in record { before = rest.before; at = rest.at; changed = rest.changed }

module _ (known : List KnownStream) (n : ℕ) (f : KnownStream → KnownStream) where
  -- where no spawn clause is opened by the change
  spawn-was : ((k : KnownStream) → (f k).spawned ≡ None → k.spawned ≡ None) → (m : ℕ) → IsOpenSpawn (changed_at n f known) m → IsOpenSpawn known m
  spawn-was keeps m is = elim (same-or-not m n) [
    | inl same ↦
        let at : slice_get (changed_at n f known) n ≡ Some is.stream = ap (slice_get (changed_at n f known)) (sym same) ∙ is.at in
        let was = changed-back f n known is.stream at in
        let none : (f was.before).spawned ≡ None = ap (λ (k : KnownStream). k.spawned) was.changed ∙ is.unanswered in
        subst (IsOpenSpawn known) (sym same) (record { stream = was.before; at = was.at; unanswered = keeps was.before none })
    | inr other ↦ record { stream = is.stream; at = sym (changed-other f n m known other) ∙ is.at; unanswered = is.unanswered }
  ]

-- an outcome opens no spawn clause
pub spawn-was-outcome : (known : List KnownStream) (n place : ℕ) (a : KeptAnswer) (m : ℕ) → IsOpenSpawn (changed_at n (with_life_outcome place a) known) m → IsOpenSpawn known m
spawn-was-outcome known n place a m is = spawn-was known n (with_life_outcome place a) (λ k none. none) m is

-- nor does what a spawn clause does
pub spawn-was-spawn : (known : List KnownStream) (n time : ℕ) (sp : KeptSpawn) (m : ℕ) → IsOpenSpawn (changed_at n (with_spawn time sp) known) m → IsOpenSpawn known m
spawn-was-spawn known n time sp m is = spawn-was known n (with_spawn time sp) (λ k none. absurd (cc none)) m is

life-was : (place j : ℕ) (a : KeptAnswer) (ls : List KnownLife) (l : KnownLife) → slice_get (changed_at place (with_outcome a) ls) j ≡ Some l → l.outcome ≡ None → slice_get ls j ≡ Some l
life-was place j a ls l at none = elim (same-or-not j place) [
  | inl same ↦
      let here : slice_get (changed_at place (with_outcome a) ls) place ≡ Some l = ap (slice_get (changed_at place (with_outcome a) ls)) (sym same) ∙ at in
      let was = changed-back (with_outcome a) place ls l here in
      let some : Some a ≡ l.outcome = ap (λ (k : KnownLife). k.outcome) was.changed in
      let both : Some a ≡ None = some ∙ none in
      absurd (cc both)
  | inr other ↦ sym (changed-other (with_outcome a) place j ls other) ∙ at
]

-- an outcome opens nothing
pub outcome-was : (known : List KnownStream) (n place : ℕ) (a : KeptAnswer) (m j : ℕ) → IsOpenOutcome (changed_at n (with_life_outcome place a) known) m j → IsOpenOutcome known m j
outcome-was known n place a m j is = elim (same-or-not m n) [
  | inl same ↦
      let f = with_life_outcome place a in
      let at : slice_get (changed_at n f known) n ≡ Some is.stream = ap (slice_get (changed_at n f known)) (sym same) ∙ is.at in
      let was = changed-back f n known is.stream at in
      let there : slice_get (changed_at place (with_outcome a) was.before.lives) j ≡ Some is.life = ap (λ (k : KnownStream). slice_get k.lives j) was.changed ∙ is.there in
      subst (λ k. IsOpenOutcome known k j) (sym same)
      (record { stream = was.before; at = was.at; life = is.life; there = life-was place j a was.before.lives is.life there is.unanswered; unanswered = is.unanswered })
  | inr other ↦
      record { stream = is.stream; at = sym (changed-other (with_life_outcome place a) n m known other) ∙ is.at; life = is.life; there = is.there; unanswered = is.unanswered }
]

pub was-open : (known : List KnownStream) (n place : ℕ) (a : KeptAnswer) (q : Question) → IsOpen (changed_at n (with_life_outcome place a) known) q → IsOpen known q
was-open known n place a (SpawnOf m) is = spawn-was-outcome known n place a m is
was-open known n place a (OutcomeOf m j) is = outcome-was known n place a m j is
