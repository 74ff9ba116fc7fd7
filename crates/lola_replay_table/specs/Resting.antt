-- What is known between steps: a step is behind all instances but those that were closed in it.
use Rattle.std.specs.Prelude.{ℕ, List, [], ◌∷◌, ◌++◌, Option, Some, None, Bool, true, false, if◌then◌else◌, slice_get}
use Rattle.lola_value.specs.declared.text.Field.{Field}
use Rattle.lola_replay_table.specs.declared.answer.KeptAnswer.{KeptAnswer}
use Rattle.lola_replay_table.specs.declared.answer.KeptAnswer.TheVariants as kept
use Rattle.lola_replay_table.specs.declared.table.KnownLife.{KnownLife}
use Rattle.lola_replay_table.specs.declared.table.KnownStream.{KnownStream}
use Rattle.lola_replay_table.specs.Open.{with_outcome}

-- the value of an outcome, if it is one, with the time of its step
abbrev pub given_at : ℕ → Option KeptAnswer → List (ℕ × Field)
given_at time (Some (kept.Given v)) = (time, v) ∷ []
given_at time o = []

-- an instance whose step is behind it: its value is an earlier one
abbrev pub rested_life : ℕ → KnownLife → KnownLife
rested_life time l = record l { earlier = l.earlier ++ given_at time l.outcome; outcome = None }

-- whether nothing of a step is known of it
abbrev pub is_at_rest : KnownLife → Bool
is_at_rest l = elim l.outcome [ None ↦ true | Some a ↦ false ]

-- an instance that is closed keeps an outcome, so that it is told from those at rest
abbrev pub marked_life : ℕ → Bool → KnownLife → KnownLife
marked_life time closed l = if closed then with_outcome kept.Missing l else rested_life time l

-- what is said of a place, where nothing is said of those behind the last
abbrev pub said_of : Option Bool → Bool
said_of None = false
said_of (Some b) = b

abbrev pub said_at : List Bool → ℕ → Bool
said_at bs place = said_of (slice_get bs place)

-- all instances, those at these places closed
abbrev pub marked_lives : ℕ → List Bool → List KnownLife → List KnownLife
marked_lives time closed [] = []
marked_lives time [] (l ∷ ls) = marked_life time false l ∷ marked_lives time [] ls
marked_lives time (c ∷ cs) (l ∷ ls) = marked_life time c l ∷ marked_lives time cs ls

-- the instances that are left
abbrev pub left_lives : ℕ → List Bool → List KnownLife → List KnownLife
left_lives time closed [] = []
left_lives time [] (l ∷ ls) = rested_life time l ∷ left_lives time [] ls
left_lives time (c ∷ cs) (l ∷ ls) = if c then left_lives time cs ls else rested_life time l ∷ left_lives time cs ls

-- a stream whose step is behind it
abbrev pub rested_stream : ℕ → List Bool → KnownStream → KnownStream
rested_stream time closed k = record { input = k.input; spawned = None; lives = left_lives time closed k.lives }
