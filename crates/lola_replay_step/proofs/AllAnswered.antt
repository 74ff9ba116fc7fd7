-- Where nothing is open, what is known is what the step comes to.
use Rattle.std.proofs.Common.{◌≡◌, ◌≢◌, refl, sym, subst, ℕ, suc, ◌+◌, List, [], ◌∷◌, ◌++◌, Option, Some, None, if◌then◌else◌, drop, length, slice_get}
use Rattle.lola_model.specs.Content.{time_of, values_over}
use Rattle.lola_model.specs.Model.{is_input, last_row, newborn, survivors}
use Rattle.lola_model.specs.Table.{Step, Instance, Living, StreamRow, TableRow}
use Rattle.lola_value.specs.Answer.{Answer}
use Rattle.lola_model.specs.declared.plan.Plan.{Plan}
use Rattle.lola_model.specs.declared.spec.Stream.{Stream}
use Rattle.lola_replay_step.specs.Agreements.{Knows, KnowsFrom, KnowsLives, Solves, comes_to, living_by}
use Rattle.lola_replay_table.specs.Answers.{kept_answer, kept_spawn}
use Rattle.lola_replay_table.specs.Open.{IsOpen}
use Rattle.lola_replay_table.specs.declared.answer.KeptAnswer.{KeptAnswer}
use Rattle.lola_replay_table.specs.declared.question.Question.TheVariants.{SpawnOf, OutcomeOf}
use Rattle.lola_replay_table.specs.declared.table.KeptSpawn.{KeptSpawn}
use Rattle.lola_replay_table.specs.declared.table.KnownLife.{KnownLife}
use Rattle.lola_replay_table.specs.declared.table.KnownStream.{KnownStream}
use Rattle.lola_replay_step.proofs.Bridges.{AreStreamsOf, livings, streams-are}

-- an instance with all that is known of it
pub record AnswersLife (rows : List TableRow) (time n : ℕ) (l : Living) (k : KnownLife) : Type 0 where
  pub params : k.params ≡ l.instance.params
  pub born : k.born ≡ time_of time (slice_get rows l.instance.born)
  pub earlier : k.earlier ≡ values_over n l.instance (drop l.instance.born rows)
  pub answer : KeptAnswer
  pub known : k.outcome ≡ Some answer
  pub is : l.outcome ≡ kept_answer answer

abbrev pub AnswersLives : List TableRow → ℕ → ℕ → List Living → List KnownLife → Type 0
AnswersLives rows time n [] [] = Unit {0}
AnswersLives rows time n (l ∷ ls) (k ∷ ks) = AnswersLife rows time n l k × AnswersLives rows time n ls ks
AnswersLives rows time n _ _ = ⊥

-- a stream
pub record AnswersStream (rows : List TableRow) (time n : ℕ) (r : StreamRow) (k : KnownStream) : Type 0 where
  pub spawned : KeptSpawn
  pub known : k.spawned ≡ Some spawned
  pub is : r.spawned ≡ kept_spawn spawned
  pub lives : AnswersLives rows time n r.living k.lives

-- the streams from number n on
abbrev pub AnswersFrom : List TableRow → ℕ → ℕ → List StreamRow → List KnownStream → Type 0
AnswersFrom rows time n [] [] = Unit {0}
AnswersFrom rows time n (r ∷ rs) (k ∷ ks) = AnswersStream rows time n r k × AnswersFrom rows time (n + 1) rs ks
AnswersFrom rows time n _ _ = ⊥

some-of : {A : Type 0} (o : Option A) → o ≢ None → (a : A) × (o ≡ Some a)
some-of None some = absurd (some refl)
some-of (Some a) some = (a, refl)

module _ (rows : List TableRow) (time n : ℕ) (comes : Instance → Answer) where
  all-lives : (xs : List Instance) (ks : List KnownLife) → KnowsLives rows time n comes xs ks
      → ((place : ℕ) (k : KnownLife) → slice_get ks place ≡ Some k → k.outcome ≢ None) → AnswersLives rows time n (livings rows time n comes xs) ks
  all-lives [] [] knows none = tt
  all-lives [] (k ∷ ks) knows none = absurd knows
  all-lives (x ∷ xs) [] knows none = absurd knows
  all-lives (x ∷ xs) (k ∷ ks) knows none =
      let a = some-of k.outcome (none 0 k refl) in (
        record { params = knows.0.params; born = knows.0.born; earlier = knows.0.earlier; answer = a.0; known = a.1; is = knows.0.outcome a.0 a.1 },
        all-lives xs ks knows.1 (λ place l at. none (suc place) l at),
      )

module _ (plan : Plan) (start : ℕ) (rows : List TableRow) (step : Step) (row : TableRow) where
  all-from : (n i : ℕ) (ss : List Stream) (rs : List StreamRow) (ks : List KnownStream) → AreStreamsOf plan start rows step row n i ss rs → KnowsFrom plan start rows step row n i ss rs ks
      → ((m : ℕ) (k : KnownStream) → slice_get ks m ≡ Some k → k.spawned ≢ None)
      → ((m place : ℕ) (k : KnownStream) (l : KnownLife) → slice_get ks m ≡ Some k → slice_get k.lives place ≡ Some l → l.outcome ≢ None)
      → AnswersFrom rows step.time n rs ks
  all-from n i [] [] [] are knows spawned outcome = tt
  all-from n i [] [] (k ∷ ks) are knows spawned outcome = absurd knows
  all-from n i [] (r ∷ rs) ks are knows spawned outcome = absurd are
  all-from n i (s ∷ ss) [] ks are knows spawned outcome = absurd are
  all-from n i (s ∷ ss) (r ∷ rs) [] are knows spawned outcome = absurd knows
  all-from n i (s ∷ ss) (r ∷ rs) (k ∷ ks) are knows spawned outcome =
      let sp = some-of k.spawned (spawned 0 k refl) in
      let comes = comes_to plan start rows step row n i s r in
      let alive = survivors n s (last_row rows) in
      let does = knows.0.spawned sp.0 sp.1 in
      let living : KnowsLives rows step.time n comes (alive ++ newborn r.spawned alive (length rows)) k.lives =
      subst (λ z. KnowsLives rows step.time n comes (alive ++ newborn z alive (length rows)) k.lives) (sym does)
      (subst (λ (o : Option KeptSpawn). KnowsLives rows step.time n comes (living_by (length rows) alive o) k.lives) sp.1 knows.0.lives) in (
        record {
          spawned = sp.0;
          known = sp.1;
          is = does;
          lives = subst (λ (ls : List Living). AnswersLives rows step.time n ls k.lives) (sym are.0.living)
              (all-lives rows step.time n comes (alive ++ newborn r.spawned alive (length rows)) k.lives living (λ place l at. outcome 0 place k l refl at));
        },
        all-from (n + 1) (if is_input s then i + 1 else i) ss rs ks are.1 knows.1 (λ m j at. spawned (suc m) j at) (λ m place j l at there. outcome (suc m) place j l at there),
      )

  -- where nothing is open, all that the row's streams do is known
  pub all-answered : Solves plan start rows step row → (known : List KnownStream) → Knows plan start rows step row known → ((m : ℕ) → ¬ (IsOpen known (SpawnOf m))) → ((m place : ℕ) → ¬ (IsOpen known (OutcomeOf m place)))
      → AnswersFrom rows step.time 0 row.streams known
  all-answered solves known knows no-spawn no-outcome =
      all-from 0 0 plan.spec.streams row.streams known (streams-are plan start rows step row solves) knows
      (λ m k at none. no-spawn m (record { stream = k; at = at; unanswered = none }))
      (λ m place k l at there none. no-outcome m place (record { stream = k; at = at; life = l; there = there; unanswered = none }))
