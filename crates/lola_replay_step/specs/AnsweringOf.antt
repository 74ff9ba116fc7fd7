-- How a question of a step is answered, with all that it waits for.
use Rattle.std.specs.Prelude.{ℕ, ◌≡◌, List, Bool, true, false, Option, Some, None, Result, Ok, Err, length, slice_get}
use Rattle.lola_model.specs.Graph.{layer_of}
use Rattle.lola_model.specs.Table.{Step, TableRow}
use Rattle.lola_model.specs.declared.plan.Plan.{Plan}
use Rattle.lola_model.specs.declared.spec.Stream.{Stream}
use Rattle.lola_value.specs.declared.text.Memory.{Memory}
use Rattle.lola_replay_step.specs.Agreements.{Knows, Solves}
use Rattle.lola_replay_table.specs.Answers.{kept_answer, kept_spawn}
use Rattle.lola_replay_table.specs.Clauses.{outcome_tried, spawn_tried}
use Rattle.lola_replay_table.specs.Open.{IsOpen, changed_at, rank_of, with_life_outcome, with_spawn}
use Rattle.lola_replay_table.specs.declared.answer.KeptAnswer.{KeptAnswer}
use Rattle.lola_replay_table.specs.declared.question.Question.{Question}
use Rattle.lola_replay_table.specs.declared.question.Question.TheVariants.{SpawnOf, OutcomeOf}
use Rattle.lola_replay_table.specs.declared.question.Unanswered.{Unanswered}
use Rattle.lola_replay_table.specs.declared.question.Unanswered.TheVariants as stop
use Rattle.lola_replay_table.specs.declared.table.KeptSpawn.{KeptSpawn}
use Rattle.lola_replay_table.specs.declared.table.KnownLife.{KnownLife}
use Rattle.lola_replay_table.specs.declared.table.KnownStream.{KnownStream}

module _ (plan : Plan) (start : ℕ) (step : Step) where
  module _ (known : List KnownStream) where
    -- what is tried of the instance at a place is this
    abbrev pub IsTriedOutcome : ℕ → ℕ → Result KeptAnswer Question → Type 0
    IsTriedOutcome n place (Ok a) =
        (s : Stream) (k : KnownStream) (l : KnownLife) → slice_get plan.spec.streams n ≡ Some s → slice_get known n ≡ Some k → slice_get k.lives place ≡ Some l
        → outcome_tried plan start step known n s k l ≡ Ok (kept_answer a)
    IsTriedOutcome n place (Err q) =
        (s : Stream) (k : KnownStream) (l : KnownLife) → slice_get plan.spec.streams n ≡ Some s → slice_get known n ≡ Some k → slice_get k.lives place ≡ Some l
        → outcome_tried plan start step known n s k l ≡ Err q

    -- and of a spawn clause
    abbrev pub IsTriedSpawn : ℕ → Result KeptSpawn Question → Type 0
    IsTriedSpawn n (Ok sp) =
        (s : Stream) (k : KnownStream) → slice_get plan.spec.streams n ≡ Some s → slice_get known n ≡ Some k → spawn_tried plan start step known n s k ≡ Ok (kept_spawn sp)
    IsTriedSpawn n (Err q) =
        (s : Stream) (k : KnownStream) → slice_get plan.spec.streams n ≡ Some s → slice_get known n ≡ Some k → spawn_tried plan start step known n s k ≡ Err q

    -- what the code of a try gives
    abbrev pub GivesOutcome : ℕ → ℕ → Result KeptAnswer Unanswered → Type 0
    GivesOutcome n place (Ok a) = IsTriedOutcome n place (Ok a)
    GivesOutcome n place (Err (stop.Asks q)) = IsTriedOutcome n place (Err q)
    GivesOutcome n place (Err stop.Memory) = Unit {0}

    abbrev pub GivesSpawnOf : ℕ → Result KeptSpawn Unanswered → Type 0
    GivesSpawnOf n (Ok sp) = IsTriedSpawn n (Ok sp)
    GivesSpawnOf n (Err (stop.Asks q)) = IsTriedSpawn n (Err q)
    GivesSpawnOf n (Err stop.Memory) = Unit {0}

  -- an instance's outcome is noted, and is what was tried
  pub record NotesOutcome (n place : ℕ) (before after : List KnownStream) : Type 0 where
    pub outcome : KeptAnswer
    pub tried : IsTriedOutcome before n place (Ok outcome)
    pub noted : after ≡ changed_at n (with_life_outcome place outcome) before

  -- what a spawn clause does is noted
  pub record NotesSpawn (n : ℕ) (before after : List KnownStream) : Type 0 where
    pub spawned : KeptSpawn
    pub tried : IsTriedSpawn before n (Ok spawned)
    pub noted : after ≡ changed_at n (with_spawn step.time spawned) before

  abbrev pub Notes : Question → List KnownStream → List KnownStream → Type 0
  Notes (SpawnOf n) before after = NotesSpawn n before after
  Notes (OutcomeOf n place) before after = NotesOutcome n place before after

  abbrev pub IsTriedFor : List KnownStream → Question → Question → Type 0
  IsTriedFor known (SpawnOf n) q = IsTriedSpawn known n (Err q)
  IsTriedFor known (OutcomeOf n place) q = IsTriedOutcome known n place (Err q)

  -- a question is answered, or what it waits for is given
  abbrev pub Answered : Question → List KnownStream → List KnownStream → Result (Option Question) Memory → Type 0
  Answered q before after (Ok None) = Notes q before after
  Answered q before after (Ok (Some next)) = (after ≡ before) × IsTriedFor before q next
  Answered q before after (Err e) = Unit {0}

  -- whatever solves the equations and agrees with what was known agrees with what is known
  abbrev pub KeepsKnowing : List KnownStream → List KnownStream → Type 0
  KeepsKnowing before after =
      (rows : List TableRow) (row : TableRow) → row.step.time ≡ step.time → Solves plan start rows step row → Knows plan start rows step row before → Knows plan start rows step row after

  -- a question is answered, with all that it waited for
  pub record AnswersQuestion (first : Question) (before after : List KnownStream) : Type 0 where
    pub keeps : KeepsKnowing before after
    pub long : length after ≡ length before
    pub answered : ¬ (IsOpen after first)
    -- no spawn clause is opened; and where none was open, and so none can be born, nothing is
    pub spawns_stay : (n : ℕ) → IsOpen after (SpawnOf n) → IsOpen before (SpawnOf n)
    pub all_stay : ((n : ℕ) → ¬ (IsOpen before (SpawnOf n))) → (q : Question) → IsOpen after q → IsOpen before q

module _ (plan : Plan) (start : ℕ) (step : Step) where
  -- a spawn clause is answered now, and the others are as far as they were
  pub record PassesSpawn (number : ℕ) (before after : List KnownStream) : Type 0 where
    pub keeps : KeepsKnowing plan start step before after
    pub long : length after ≡ length before
    pub answered : ¬ (IsOpen after (SpawnOf number))
    pub spawns_stay : (n : ℕ) → IsOpen after (SpawnOf n) → IsOpen before (SpawnOf n)

  -- all spawn clauses are answered
  pub record AnswersSpawns (before after : List KnownStream) : Type 0 where
    pub keeps : KeepsKnowing plan start step before after
    pub long : length after ≡ length before
    pub answered : (n : ℕ) → ¬ (IsOpen after (SpawnOf n))

-- whether an instance's outcome is open
abbrev pub is_open_life : Option KnownLife → Bool
is_open_life None = false
is_open_life (Some l) = elim l.outcome [ None ↦ true | Some a ↦ false ]

-- how many instances a stream has
abbrev pub lives_at : Option KnownStream → ℕ
lives_at None = 0
lives_at (Some k) = length k.lives

-- of the instance at a place of a stream
abbrev pub is_open_at : ℕ → Option KnownStream → Bool
is_open_at place None = false
is_open_at place (Some k) = is_open_life (slice_get k.lives place)

module _ (plan : Plan) (start : ℕ) (step : Step) where
  -- an instance's outcome is answered now, and nothing is opened
  pub record PassesOutcome (number place : ℕ) (before after : List KnownStream) : Type 0 where
    pub keeps : KeepsKnowing plan start step before after
    pub long : length after ≡ length before
    pub answered : ¬ (IsOpen after (OutcomeOf number place))
    pub stay : (q : Question) → IsOpen after q → IsOpen before q

  -- all instances of a stream are answered, and nothing is opened
  pub record AnswersLivesOf (number : ℕ) (before after : List KnownStream) : Type 0 where
    pub keeps : KeepsKnowing plan start step before after
    pub long : length after ≡ length before
    pub answered : (place : ℕ) → ¬ (IsOpen after (OutcomeOf number place))
    pub stay : (q : Question) → IsOpen after q → IsOpen before q

  -- all instances are answered, and nothing is opened
  pub record AnswersOutcomes (before after : List KnownStream) : Type 0 where
    pub keeps : KeepsKnowing plan start step before after
    pub long : length after ≡ length before
    pub answered : (n place : ℕ) → ¬ (IsOpen after (OutcomeOf n place))
    pub stay : (q : Question) → IsOpen after q → IsOpen before q

  -- all questions of a step are answered
  pub record AnswersAll (before after : List KnownStream) : Type 0 where
    pub keeps : KeepsKnowing plan start step before after
    pub long : length after ≡ length before
    pub answered : (q : Question) → ¬ (IsOpen after q)

-- the rank of a question by the layers of a plan
abbrev pub plan_rank : Plan → Question → ℕ
plan_rank plan q = rank_of (layer_of plan.layers) plan.spec.streams q
