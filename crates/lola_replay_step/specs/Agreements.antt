-- What is known in a step agrees with what the step comes to.
use Rattle.std.specs.Prelude.{ℕ, ◌≡◌, ◌+◌, List, [], ◌∷◌, ◌++◌, Option, Some, None, if◌then◌else◌, drop, length, slice_get}
use Rattle.lola_value.specs.Answer.{Answer}
use Rattle.lola_model.specs.Content.{content, time_of, values_over}
use Rattle.lola_model.specs.Model.{is_input, last_row, newborn, outcome_of, outcomes_from, survivors}
use Rattle.lola_model.specs.Table.{Step, Instance, StreamRow, TableRow}
use Rattle.lola_model.specs.declared.plan.Plan.{Plan}
use Rattle.lola_model.specs.declared.spec.Stream.{Stream}
use Rattle.lola_replay_table.specs.Answers.{kept_answer, kept_spawn}
use Rattle.lola_replay_table.specs.declared.answer.KeptAnswer.{KeptAnswer}
use Rattle.lola_replay_table.specs.declared.table.KeptSpawn.{KeptSpawn}
use Rattle.lola_replay_table.specs.declared.table.KnownLife.{KnownLife}
use Rattle.lola_replay_table.specs.declared.table.KnownStream.{KnownStream}

-- the instances that live, with the one that is born in the step of this number once the spawn clause is answered
abbrev pub living_by : ℕ → List Instance → Option KeptSpawn → List Instance
living_by number alive None = alive
living_by number alive (Some sp) = alive ++ newborn (kept_spawn sp) alive number

module _ (rows : List TableRow) (time : ℕ) where
  -- what is known of an instance of stream n that comes to this
  pub record KnowsLife (n : ℕ) (comes : Instance → Answer) (x : Instance) (k : KnownLife) : Type 0 where
    pub params : k.params ≡ x.params
    pub born : k.born ≡ time_of time (slice_get rows x.born)
    pub earlier : k.earlier ≡ values_over n x (drop x.born rows)
    pub outcome : (a : KeptAnswer) → k.outcome ≡ Some a → comes x ≡ kept_answer a

  -- of these instances, in order
  abbrev pub KnowsLives : ℕ → (Instance → Answer) → List Instance → List KnownLife → Type 0
  KnowsLives n comes [] [] = Unit {0}
  KnowsLives n comes (x ∷ xs) (k ∷ ks) = KnowsLife n comes x k × KnowsLives n comes xs ks
  KnowsLives n comes _ _ = ⊥

module _ (plan : Plan) (start : ℕ) (rows : List TableRow) (step : Step) where
  -- the streams of a row that solves the equations of the step, before anything is closed
  abbrev pub Solves : TableRow → Type 0
  Solves row = row.streams ≡ outcomes_from plan start rows step row 0 0 plan.spec.streams

  module _ (row : TableRow) where
    -- what an instance of stream n comes to, the input of number i if it is one
    abbrev pub comes_to : ℕ → ℕ → Stream → StreamRow → Instance → Answer
    comes_to n i s r x = outcome_of plan start rows step (content start rows row) n i s r.spawned x

    -- what is known of a stream
    pub record KnowsStream (n i : ℕ) (s : Stream) (r : StreamRow) (k : KnownStream) : Type 0 where
      pub input : k.input ≡ i
      pub spawned : (sp : KeptSpawn) → k.spawned ≡ Some sp → r.spawned ≡ kept_spawn sp
      pub lives : KnowsLives rows step.time n (comes_to n i s r) (living_by (length rows) (survivors n s (last_row rows)) k.spawned) k.lives

    -- of the streams from number n on
    abbrev pub KnowsFrom : ℕ → ℕ → List Stream → List StreamRow → List KnownStream → Type 0
    KnowsFrom n i [] [] [] = Unit {0}
    KnowsFrom n i (s ∷ ss) (r ∷ rs) (k ∷ ks) = KnowsStream n i s r k × KnowsFrom (n + 1) (if is_input s then i + 1 else i) ss rs ks
    KnowsFrom n i _ _ _ = ⊥

    -- of all streams
    abbrev pub Knows : List KnownStream → Type 0
    Knows known = KnowsFrom 0 0 plan.spec.streams row.streams known
