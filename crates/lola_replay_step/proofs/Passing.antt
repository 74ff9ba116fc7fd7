-- Spawn clauses are answered one after another.
use Rattle.std.proofs.Common.{◌≡◌, ◌∙◌, refl, sym, ap, subst, inl, inr, ℕ, ◌+◌, ◌<◌, ◌≤◌, List, Option, Some, None, arith, length, slice_get}
use Rattle.std.proofs.lemmas.Option.{slice_get_within}
use Rattle.lola_model.specs.Table.{Step}
use Rattle.lola_model.specs.declared.plan.Plan.{Plan}
use Rattle.lola_replay_table.specs.Open.{IsOpenSpawn}
use Rattle.lola_replay_step.specs.AnsweringOf.{KeepsKnowing, PassesSpawn, AnswersQuestion, AnswersSpawns}
use Rattle.lola_replay_table.specs.declared.question.Question.TheVariants.{SpawnOf}
use Rattle.lola_replay_table.specs.declared.table.KnownStream.{KnownStream}
use Rattle.lola_replay_step.proofs.OpenQuestions.{same-or-not}

module _ (plan : Plan) (start : ℕ) (step : Step) where
  -- those below a number are answered
  pub record AreAnsweredBelow (before after : List KnownStream) (number : ℕ) : Type 0 where
    pub keeps : KeepsKnowing plan start step before after
    pub long : length after ≡ length before
    pub below : (m : ℕ) → m < number → ¬ (IsOpenSpawn after m)

  pub none-answered : (known : List KnownStream) → AreAnsweredBelow known known 0
  none-answered known = record { keeps = λ rows row moment solves knows. knows; long = refl; below = λ m low. absurd (omega (arith, low)) }

  pub one-more-answered : (before known after : List KnownStream) (number : ℕ) → AreAnsweredBelow before known number → PassesSpawn plan start step number known after → AreAnsweredBelow before after (number + 1)
  one-more-answered before known after number is pass = record {
    keeps = λ rows row moment solves knows. pass.keeps rows row moment solves (is.keeps rows row moment solves knows);
    long = pass.long ∙ is.long;
    below = λ m low open-m. elim (same-or-not m number) [
      | inl same ↦ pass.answered (subst (IsOpenSpawn after) same open-m)
      | inr other ↦ is.below m (omega (arith, low, other)) (pass.spawns_stay m open-m)
    ];
  }

  pub all-answered-below : (before after : List KnownStream) (number : ℕ) → AreAnsweredBelow before after number → length after ≤ number → AnswersSpawns plan start step before after
  all-answered-below before after number is past = record {
    keeps = is.keeps;
    long = is.long;
    answered = λ m open-m. is.below m (let within = slice_get_within after m open-m.stream open-m.at in omega (arith, within, past)) open-m;
  }

  -- one that is answered is passed
  pub question-passes : (number : ℕ) (before after : List KnownStream) → AnswersQuestion plan start step (SpawnOf number) before after → PassesSpawn plan start step number before after
  question-passes number before after is = record { keeps = is.keeps; long = is.long; answered = is.answered; spawns_stay = is.spawns_stay }

  pub answered-passes : (number : ℕ) (known : List KnownStream) → ¬ (IsOpenSpawn known number) → PassesSpawn plan start step number known known
  answered-passes number known done = record { keeps = λ rows row moment solves knows. knows; long = refl; answered = done; spawns_stay = λ n is. is }

-- whether a stream's spawn clause is open is seen at its place
pub open-at : (known : List KnownStream) (number : ℕ) (k : KnownStream) → slice_get known number ≡ Some k → k.spawned ≡ None → IsOpenSpawn known number
open-at known number k at none = record { stream = k; at = at; unanswered = none }

pub not-open-at : (known : List KnownStream) (number : ℕ) (k : KnownStream) → slice_get known number ≡ Some k → (k.spawned ≡ None → ⊥) → ¬ (IsOpenSpawn known number)
not-open-at known number k at some is =
    let same : Some is.stream ≡ Some k = sym is.at ∙ at in
    some (ap (λ (o : Option KnownStream). elim o [ None ↦ None | Some j ↦ j.spawned ]) (sym same) ∙ is.unanswered)
