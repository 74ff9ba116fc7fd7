-- Questions of a step that are not answered, and what changes with an answer.
use Rattle.std.specs.Prelude.{ℕ, zero, suc, ◌≡◌, ◌+◌, ◌*◌, List, [], ◌∷◌, ◌++◌, Option, Some, None, not, ◌&&◌, if◌then◌else◌, nat_lt, length, slice_get}
use Rattle.lola_value.specs.declared.text.Field.{Field}
use Rattle.lola_model.specs.Graph.{eval_node, spawn_node}
use Rattle.lola_model.specs.Model.{most_instances}
use Rattle.lola_model.specs.declared.spec.Clause.{Clause}
use Rattle.lola_model.specs.declared.spec.Stream.{Stream}
use Rattle.lola_replay_table.specs.Clauses.{is_known_among}
use Rattle.lola_replay_table.specs.declared.answer.KeptAnswer.{KeptAnswer}
use Rattle.lola_replay_table.specs.declared.question.Question.{Question}
use Rattle.lola_replay_table.specs.declared.question.Question.TheVariants.{SpawnOf, OutcomeOf}
use Rattle.lola_replay_table.specs.declared.table.KeptSpawn.{KeptSpawn}
use Rattle.lola_replay_table.specs.declared.table.KeptSpawn.TheVariants as spawn
use Rattle.lola_replay_table.specs.declared.table.KnownLife.{KnownLife}
use Rattle.lola_replay_table.specs.declared.table.KnownStream.{KnownStream}

-- what a spawn clause does is not known yet
pub record IsOpenSpawn (known : List KnownStream) (n : ℕ) : Type 0 where
  pub stream : KnownStream
  pub at : slice_get known n ≡ Some stream
  pub unanswered : stream.spawned ≡ None

-- what an instance comes to is not known yet
pub record IsOpenOutcome (known : List KnownStream) (n place : ℕ) : Type 0 where
  pub stream : KnownStream
  pub at : slice_get known n ≡ Some stream
  pub life : KnownLife
  pub there : slice_get stream.lives place ≡ Some life
  pub unanswered : life.outcome ≡ None

-- the answer of a question is not known yet
abbrev pub IsOpen : List KnownStream → Question → Type 0
IsOpen known (SpawnOf n) = IsOpenSpawn known n
IsOpen known (OutcomeOf n place) = IsOpenOutcome known n place

-- what is left to answer of an instance, and of all
abbrev pub life_weight : Option KeptAnswer → ℕ
life_weight None = 1
life_weight (Some a) = 0

abbrev pub lives_weight : List KnownLife → ℕ
lives_weight [] = 0
lives_weight (l ∷ ls) = life_weight l.outcome + lives_weight ls

-- of a spawn clause, with the instance that may be born
abbrev pub spawn_weight : Option KeptSpawn → ℕ
spawn_weight None = 2
spawn_weight (Some sp) = 0

-- of a stream
abbrev pub stream_weight : KnownStream → ℕ
stream_weight k = spawn_weight k.spawned + lives_weight k.lives

-- of all streams
abbrev pub open_weight : List KnownStream → ℕ
open_weight [] = 0
open_weight (k ∷ ks) = stream_weight k + open_weight ks

-- a list that is changed at one place
abbrev pub changed_at : {A : Type 0} → ℕ → (A → A) → List A → List A
changed_at n f [] = []
changed_at zero f (x ∷ xs) = f x ∷ xs
changed_at (suc n) f (x ∷ xs) = x ∷ changed_at n f xs

-- an instance with what it comes to
abbrev pub with_outcome : KeptAnswer → KnownLife → KnownLife
with_outcome a l = record l { outcome = Some a }

-- a stream of which the instance at a place comes to this
abbrev pub with_life_outcome : ℕ → KeptAnswer → KnownStream → KnownStream
with_life_outcome place a k = record k { lives = changed_at place (with_outcome a) k.lives }

-- the instance that is born with these parameters
abbrev pub born_life : ℕ → List Field → KnownLife
born_life time p = record { params = p; born = time; earlier = []; outcome = None }

-- the instance that is born where a spawn clause does this, and these live
abbrev pub born_lives : ℕ → KeptSpawn → List KnownLife → List KnownLife
born_lives time (spawn.Named p) lives = if not (is_known_among p lives) && nat_lt (length lives) most_instances then born_life time p ∷ [] else []
born_lives time sp lives = []

-- a stream whose spawn clause does this
abbrev pub with_spawn : ℕ → KeptSpawn → KnownStream → KnownStream
with_spawn time sp k = record k { spawned = Some sp; lives = k.lives ++ born_lives time sp k.lives }

-- ranks of questions: a question waits for those of lower rank alone

abbrev pub spawn_rank : ℕ → Option Clause → ℕ
spawn_rank layer None = 0
spawn_rank layer (Some k) = 2 * layer

abbrev pub stream_spawn_rank : ℕ → Option Stream → ℕ
stream_spawn_rank layer None = 0
stream_spawn_rank layer (Some s) = spawn_rank layer s.spawn

abbrev pub rank_of : (ℕ → ℕ) → List Stream → Question → ℕ
rank_of layer streams (SpawnOf n) = stream_spawn_rank (layer (spawn_node n)) (slice_get streams n)
rank_of layer streams (OutcomeOf n place) = 2 * layer (eval_node n) + 1
