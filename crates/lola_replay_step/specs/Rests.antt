-- What is known between steps: who lives, with all values, and nothing of a step.
use Rattle.std.specs.Prelude.{ℕ, zero, suc, ◌≡◌, ◌<◌, ◌≤◌, ◌+◌, List, [], ◌∷◌, ◌++◌, Option, Some, None, Bool, true, false, if◌then◌else◌, drop, length, slice_get}
use Rattle.std.specs.List.{AllByRecursion}
use Rattle.lola_model.specs.Content.{time_of, values_over}
use Rattle.lola_model.specs.Faults.{RowFault, or_else, row_fault}
use Rattle.lola_model.specs.Model.{answered, IsRow, is_input, last_row, survivors}
use Rattle.lola_model.specs.Table.{Step, Instance, TableRow}
use Rattle.lola_model.specs.Texts.{answer_lines, row_lines}
use Rattle.lola_model.specs.declared.journal.Show.{Show}
use Rattle.lola_model.specs.declared.plan.Plan.{Plan}
use Rattle.lola_model.specs.declared.spec.Clause.{Clause}
use Rattle.lola_model.specs.declared.spec.Stream.{Stream}
use Rattle.lola_value.specs.declared.text.Memory.{Memory}
use Rattle.std.specs.Prelude.{Result, Ok, Err}
use Rattle.lola_replay_table.specs.Open.{born_life}
use Rattle.lola_replay_table.specs.Resting.{rested_stream}
use Rattle.lola_replay_table.specs.declared.table.KnownLife.{KnownLife}
use Rattle.lola_replay_table.specs.declared.table.KnownStream.{KnownStream}
use Rattle.lola_replay_step.specs.Closings.{closed_from, first_closing}
use Rattle.lola_replay_step.specs.StepFaults.{first_known, outcome_known, the_fault}
use Rattle.lola_replay_step.specs.declared.fault.StepFault.{StepFault}

-- an instance was born in one of these rows, if there are any
abbrev pub IsPlaced : List TableRow → Instance → Type 0
IsPlaced [] x = Unit {0}
IsPlaced (row ∷ rows) x = x.born < length (row ∷ rows)

module _ (rows : List TableRow) where
  -- what is known of an instance of stream n between steps
  pub record RestsLife (n : ℕ) (x : Instance) (k : KnownLife) : Type 0 where
    pub params : k.params ≡ x.params
    pub born : k.born ≡ time_of 0 (slice_get rows x.born)
    pub earlier : k.earlier ≡ values_over n x (drop x.born rows)
    pub outcome : k.outcome ≡ None
    pub placed : IsPlaced rows x

  -- of these instances, in order
  abbrev pub RestLives : ℕ → List Instance → List KnownLife → Type 0
  RestLives n [] [] = Unit {0}
  RestLives n (x ∷ xs) (k ∷ ks) = RestsLife n x k × RestLives n xs ks
  RestLives n _ _ = ⊥

  -- of a stream
  pub record RestsStream (n i : ℕ) (s : Stream) (k : KnownStream) : Type 0 where
    pub input : k.input ≡ i
    pub spawned : k.spawned ≡ None
    pub lives : RestLives n (survivors n s (last_row rows)) k.lives

  -- of the streams from number n on
  abbrev pub RestsFrom : ℕ → ℕ → List Stream → List KnownStream → Type 0
  RestsFrom n i [] [] = Unit {0}
  RestsFrom n i (s ∷ ss) (k ∷ ks) = RestsStream n i s k × RestsFrom (n + 1) (if is_input s then i + 1 else i) ss ks
  RestsFrom n i _ _ = ⊥

-- of all streams, after these rows
abbrev pub Rests : Plan → List TableRow → List KnownStream → Type 0
Rests plan rows known = RestsFrom rows 0 0 plan.spec.streams known

-- the instances that live after these rows were born in them
abbrev pub AreBornIn : List TableRow → Type 0
AreBornIn rows = (n : ℕ) (s : Stream) → AllByRecursion (λ (x : Instance). x.born ≤ length rows) (survivors n s (last_row rows))

-- whether there are no rows
abbrev pub IsFirst : Bool → List TableRow → Type 0
IsFirst true [] = Unit {0}
IsFirst false (row ∷ rows) = Unit {0}
IsFirst _ _ = ⊥

-- what is known before the first step, with births at a time
abbrev pub first_lives : ℕ → Option Clause → List KnownLife
first_lives time None = born_life time [] ∷ []
first_lives time (Some k) = []

abbrev pub fresh_from : ℕ → ℕ → List Stream → List KnownStream
fresh_from time i [] = []
fresh_from time i (s ∷ ss) = record { input = i; spawned = None; lives = first_lives time s.spawn } ∷ fresh_from time (if is_input s then i + 1 else i) ss

-- what is known as a step begins: the first instances are born in the first step
abbrev pub begun : Plan → Bool → ℕ → List KnownStream → List KnownStream
begun plan first time known = if first then fresh_from time 0 plan.spec.streams else known

-- all streams with their step behind them
abbrev pub rested_all : ℕ → List Bool → List KnownStream → List KnownStream
rested_all time closed [] = []
rested_all time closed (k ∷ ks) = rested_stream time closed k ∷ rested_all time (drop (length k.lives) closed) ks

-- those from a number on
abbrev pub rested_behind : ℕ → ℕ → List Bool → List KnownStream → List KnownStream
rested_behind zero time closed ks = rested_all time closed ks
rested_behind (suc n) time closed [] = []
rested_behind (suc n) time closed (k ∷ ks) = k ∷ rested_behind n time closed ks

-- the verdict lines of instances, and of all streams
abbrev pub life_lines : Show → ℕ → Stream → List KnownLife → List (List ℕ)
life_lines show time s [] = []
life_lines show time s (l ∷ ls) = answer_lines show time s l.params (outcome_known l.outcome) ++ life_lines show time s ls

abbrev pub known_lines : Show → ℕ → List Stream → List KnownStream → List (List ℕ)
known_lines show time (s ∷ ss) (k ∷ ks) = life_lines show time s k.lives ++ known_lines show time ss ks
known_lines show time _ _ = []

module _ (plan : Plan) (start : ℕ) (step : Step) where
  -- the fault of a step, by what is known of it
  abbrev pub fault_known : List KnownStream → Option RowFault
  fault_known known = or_else (first_known 0 known) (first_closing plan start step known 0 plan.spec.streams known)

  -- it is told; or, where there is none, which instances are closed
  abbrev pub Judged : List KnownStream → List Bool → Result (Option StepFault) Memory → Type 0
  Judged known closed (Ok None) = (fault_known known ≡ None) × (closed ≡ closed_from plan start step known 0 plan.spec.streams known)
  Judged known closed (Ok (Some f)) = fault_known known ≡ Some (the_fault f)
  Judged known closed (Err e) = Unit {0}

  -- a step is answered: its row solves the equations, and its fault is told; and where it has none, its lines are those of what is known,
  -- and what is known goes on once the step is behind it
  pub record IsAnswered (rows : List TableRow) (known : List KnownStream) (closed : List Bool) (fault : Option RowFault) : Type 0 where
    pub lawful : IsRow plan start rows step (answered plan start rows step)
    pub born_in : AreBornIn (rows ++ answered plan start rows step ∷ [])
    pub fault_is : row_fault (answered plan start rows step) ≡ fault
    pub lines_are : fault ≡ None → (show : Show) → row_lines show plan.spec.streams (answered plan start rows step) ≡ known_lines show step.time plan.spec.streams known
    pub rests : fault ≡ None → Rests plan (rows ++ answered plan start rows step ∷ []) (rested_all step.time closed known)
