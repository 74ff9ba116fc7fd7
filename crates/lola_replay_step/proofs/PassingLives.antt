-- Instances are answered one after another.
use Rattle.std.proofs.Common.{◌≡◌, ◌∙◌, refl, ap, subst, inl, inr, ℕ, ◌+◌, ◌<◌, ◌≤◌, List, Option, Some, None, true, false, arith, length, slice_get}
use Rattle.std.proofs.lemmas.Option.{slice_get_within}
use Rattle.lola_model.specs.Table.{Step}
use Rattle.lola_model.specs.declared.plan.Plan.{Plan}
use Rattle.lola_replay_table.specs.Open.{IsOpen, IsOpenOutcome, IsOpenSpawn}
use Rattle.lola_replay_step.specs.AnsweringOf.{KeepsKnowing, PassesOutcome, AnswersQuestion, AnswersAll, AnswersLivesOf, AnswersOutcomes, AnswersSpawns, is_open_at, is_open_life, lives_at}
use Rattle.lola_replay_table.specs.declared.answer.KeptAnswer.{KeptAnswer}
use Rattle.lola_replay_table.specs.declared.question.Question.{Question}
use Rattle.lola_replay_table.specs.declared.question.Question.TheVariants.{SpawnOf, OutcomeOf}
use Rattle.lola_replay_table.specs.declared.table.KnownLife.{KnownLife}
use Rattle.lola_replay_table.specs.declared.table.KnownStream.{KnownStream}
use Rattle.lola_replay_step.proofs.OpenQuestions.{same-or-not}

-- the test finds what is open, and nothing else
pub is-open : (known : List KnownStream) (n place : ℕ) → is_open_at place (slice_get known n) ≡ true → IsOpenOutcome known n place
is-open known n place e = at-stream (slice_get known n) refl e
  where
    at-outcome : (k : KnownStream) → slice_get known n ≡ Some k → (l : KnownLife) → slice_get k.lives place ≡ Some l → (o : Option KeptAnswer) → l.outcome ≡ o → (elim o [ None ↦ true | Some a ↦ false ]) ≡ true → IsOpenOutcome known n place
    at-outcome k at l there None none e = record { stream = k; at = at; life = l; there = there; unanswered = none }
    at-outcome k at l there (Some a) some e = absurd (cc e)

    at-life : (k : KnownStream) → slice_get known n ≡ Some k → (o : Option KnownLife) → slice_get k.lives place ≡ o → is_open_life o ≡ true → IsOpenOutcome known n place
    at-life k at None there e = absurd (cc e)
    at-life k at (Some l) there e = at-outcome k at l there l.outcome refl e

    at-stream : (o : Option KnownStream) → slice_get known n ≡ o → is_open_at place o ≡ true → IsOpenOutcome known n place
    at-stream None at e = absurd (cc e)
    at-stream (Some k) at e = at-life k at (slice_get k.lives place) refl e

pub open-is : (known : List KnownStream) (n place : ℕ) → IsOpenOutcome known n place → is_open_at place (slice_get known n) ≡ true
open-is known n place is =
    ap (is_open_at place) is.at ∙ ap is_open_life is.there ∙ ap (λ (o : Option KeptAnswer). elim o [ None ↦ true | Some a ↦ false ]) is.unanswered

pub not-open : (known : List KnownStream) (n place : ℕ) → (is_open_at place (slice_get known n) ≡ true → ⊥) → ¬ (IsOpenOutcome known n place)
not-open known n place never is = never (open-is known n place is)

module _ (plan : Plan) (start : ℕ) (step : Step) where
  -- of a stream those below a place are answered
  pub record AreLivesBelow (number : ℕ) (before after : List KnownStream) (place : ℕ) : Type 0 where
    pub keeps : KeepsKnowing plan start step before after
    pub long : length after ≡ length before
    pub below : (j : ℕ) → j < place → ¬ (IsOpenOutcome after number j)
    pub stay : (q : Question) → IsOpen after q → IsOpen before q

  pub no-lives : (number : ℕ) (known : List KnownStream) → AreLivesBelow number known known 0
  no-lives number known = record { keeps = λ rows row moment solves knows. knows; long = refl; below = λ j low. absurd (omega (arith, low)); stay = λ q is. is }

  pub one-more-life : (number : ℕ) (before known after : List KnownStream) (place : ℕ) → AreLivesBelow number before known place → PassesOutcome plan start step number place known after
      → AreLivesBelow number before after (place + 1)
  one-more-life number before known after place is pass = record {
    keeps = λ rows row moment solves knows. pass.keeps rows row moment solves (is.keeps rows row moment solves knows);
    long = pass.long ∙ is.long;
    below = λ j low open-j. elim (same-or-not j place) [
      | inl same ↦ pass.answered (subst (IsOpenOutcome after number) same open-j)
      | inr other ↦ is.below j (omega (arith, low, other)) (pass.stay (OutcomeOf number j) open-j)
    ];
    stay = λ q open-q. is.stay q (pass.stay q open-q);
  }

  pub all-lives : (number : ℕ) (before after : List KnownStream) (place : ℕ) → AreLivesBelow number before after place → lives_at (slice_get before number) ≤ place → AnswersLivesOf plan start step number before after
  all-lives number before after place is past = record {
    keeps = is.keeps;
    long = is.long;
    answered = λ j open-j.
        let was = is.stay (OutcomeOf number j) open-j in
        let within = slice_get_within was.stream.lives j was.life was.there in
        let count : lives_at (slice_get before number) ≡ length was.stream.lives = ap lives_at was.at in
        is.below j (omega (arith, past, within, count)) open-j;
    stay = is.stay;
  }

  -- one that is answered is passed, where no spawn clause is open
  pub question-outcome : (number place : ℕ) (before after : List KnownStream) → ((n : ℕ) → ¬ (IsOpenSpawn before n)) → AnswersQuestion plan start step (OutcomeOf number place) before after → PassesOutcome plan start step number place before after
  question-outcome number place before after none is = record { keeps = is.keeps; long = is.long; answered = is.answered; stay = is.all_stay none }

  pub answered-outcome : (number place : ℕ) (known : List KnownStream) → ¬ (IsOpenOutcome known number place) → PassesOutcome plan start step number place known known
  answered-outcome number place known done = record { keeps = λ rows row moment solves knows. knows; long = refl; answered = done; stay = λ q is. is }

module _ (plan : Plan) (start : ℕ) (step : Step) where
  -- the instances of the streams below a number are answered
  pub record AreStreamsBelow (before after : List KnownStream) (number : ℕ) : Type 0 where
    pub keeps : KeepsKnowing plan start step before after
    pub long : length after ≡ length before
    pub below : (m j : ℕ) → m < number → ¬ (IsOpenOutcome after m j)
    pub stay : (q : Question) → IsOpen after q → IsOpen before q

  pub no-streams : (known : List KnownStream) → AreStreamsBelow known known 0
  no-streams known = record { keeps = λ rows row moment solves knows. knows; long = refl; below = λ m j low. absurd (omega (arith, low)); stay = λ q is. is }

  pub one-more-stream : (before known after : List KnownStream) (number : ℕ) → AreStreamsBelow before known number → AnswersLivesOf plan start step number known after → AreStreamsBelow before after (number + 1)
  one-more-stream before known after number is lives = record {
    keeps = λ rows row moment solves knows. lives.keeps rows row moment solves (is.keeps rows row moment solves knows);
    long = lives.long ∙ is.long;
    below = λ m j low open-m. elim (same-or-not m number) [
      | inl same ↦ lives.answered j (subst (λ n. IsOpenOutcome after n j) same open-m)
      | inr other ↦ is.below m j (omega (arith, low, other)) (lives.stay (OutcomeOf m j) open-m)
    ];
    stay = λ q open-q. is.stay q (lives.stay q open-q);
  }

  pub all-streams : (before after : List KnownStream) (number : ℕ) → AreStreamsBelow before after number → length after ≤ number → AnswersOutcomes plan start step before after
  all-streams before after number is past = record {
    keeps = is.keeps;
    long = is.long;
    answered = λ m j open-m. is.below m j (let within = slice_get_within after m open-m.stream open-m.at in omega (arith, within, past)) open-m;
    stay = is.stay;
  }

  pub answers-all : (before known after : List KnownStream) → AnswersSpawns plan start step before known → AnswersOutcomes plan start step known after → AnswersAll plan start step before after
  answers-all before known after spawns outcomes = record {
    keeps = λ rows row moment solves knows. outcomes.keeps rows row moment solves (spawns.keeps rows row moment solves knows);
    long = outcomes.long ∙ spawns.long;
    answered = each;
  }
    where
      each : (q : Question) → ¬ (IsOpen after q)
      each (SpawnOf n) is = spawns.answered n (outcomes.stay (SpawnOf n) is)
      each (OutcomeOf n j) is = outcomes.answered n j is
