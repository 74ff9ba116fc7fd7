-- What a store shows of itself, and what it stands for.
use Rattle.std.specs.Prelude.{ℕ, ◌≡◌, ◌+◌, ◌-◌, ◌^◌, ◌<◌, ◌≤◌, List, [], ◌∷◌, ◌++◌, Option, Some, None, Bool, true, false, not, ◌&&◌, if◌then◌else◌, length, map, drop, zero, suc, slice_get, unwrap_or, IsTrue, remove}
use Rattle.lola_value.specs.declared.text.Field.{Field}
use Rattle.lola_value.specs.declared.value.Kind.{Kind}
use Rattle.lola_value.specs.declared.value.Kind.TheVariants as kind
use Rattle.lola_value.specs.declared.value.Value.TheVariants as value
use Rattle.lola_value.specs.declared.value.Outcome.{Outcome}
use Rattle.lola_value.specs.declared.value.Outcome.TheVariants as outcome
use Rattle.lola_value.specs.declared.value.Params.{Params}
use Rattle.lola_value.specs.Naming.{Naming, read_outcome, read_params, the_values, AreHeld, IsHeldIn}
pub use Rattle.lola_value.specs.Kinds.{values_same, all_same, same_params, is_well_formed, is_of_kind, are_of_kinds, is_outcome_of}
use Rattle.lola_value.specs.Ratio.{Ratio}
use Rattle.lola_model.specs.Model.{filled_kind}
use Rattle.lola_model.specs.Content.{Life, StreamContent, Content}
use Rattle.lola_model.specs.NextStep.{local_rates}
use Rattle.lola_model.specs.declared.pacing.ClausePacings.{ClausePacings}
use Rattle.lola_model.specs.declared.spec.Stream.{Stream}
use Rattle.lola_model.specs.declared.spec.WindowSpec.{WindowSpec}
use Rattle.lola_model.specs.declared.spec.Agg.{Agg}
use Rattle.lola_model.specs.declared.spec.Agg.TheVariants as agg
use Rattle.lola_model.specs.declared.plan.Plan.{Plan}
use Rattle.lola_model.specs.declared.plan.PaneSize.{PaneSize}

-- what a store has to know of a stream; the rates are those of its clauses that count from the birth of each instance
pub record StreamLayout : Type 0 where
  pub kind : Kind
  pub parameters : List Kind
  pub spawns : Bool
  pub kept : ℕ
  pub locals : List Ratio

-- what it has to know of a plan
pub record Layout : Type 0 where
  pub streams : List StreamLayout
  pub windows : List WindowSpec
  pub panes : List PaneSize

-- of streams, with how many values each keeps and the pacings of its clauses
abbrev pub layouts_from : List Stream → List ℕ → List ClausePacings → List StreamLayout
layouts_from [] kept pacings = []
layouts_from (s ∷ ss) kept pacings =
    record {
      kind = filled_kind s;
      parameters = s.parameters;
      spawns = elim s.spawn [ None ↦ false | Some k ↦ true ];
      kept = unwrap_or (slice_get kept 0) 1;
      locals = local_rates (slice_get pacings 0);
    }
    ∷ layouts_from ss (drop 1 kept) (drop 1 pacings)

-- of a plan
abbrev pub layout_of : Plan → Layout
layout_of plan = record { streams = layouts_from plan.spec.streams plan.kept plan.pacings; windows = plan.spec.windows; panes = plan.panes }

-- an instance with the time of its birth and this step's outcome, which is no fault
pub record SeenInstance : Type 0 where
  pub params : Params
  pub born : ℕ
  pub outcome : Outcome

-- a stream: whether it is poisoned in this step, whether its spawn clause ran in it, and its instances
pub record SeenStream : Type 0 where
  pub bad : Bool
  pub spawned : Bool
  pub instances : List SeenInstance

-- how far a store is
pub data Phase : Type 0 where
  New : Phase
  Started : (start : ℕ) → Phase
  Running : (start : ℕ) (time : ℕ) → Phase

-- what a store shows: its layout, how far it is, whether a step has room, how many steps began, and the streams
pub record Seen : Type 0 where
  pub layout : Layout
  pub phase : Phase
  pub prepared : Bool
  pub steps : ℕ
  pub streams : List SeenStream

-- a step has begun
abbrev pub is_running : Phase → Bool
is_running (Running a t) = true
is_running _ = false

-- no start was set
abbrev pub is_new : Phase → Bool
is_new New = true
is_new _ = false

-- a step has begun
abbrev pub IsRunning : Seen → Type 0
IsRunning s = IsTrue (is_running s.phase)

-- no start was set
abbrev pub IsNew : Seen → Type 0
IsNew s = IsTrue (is_new s.phase)

-- a start was set
abbrev pub IsStarted : Seen → Type 0
IsStarted s = IsTrue (not (is_new s.phase))

-- where time counts from
abbrev pub start_seen : Seen → ℕ
start_seen s = elim s.phase [ New ↦ 0 | Started a ↦ a | Running a t ↦ a ]

-- the time of this step, or the start
abbrev pub time_seen : Seen → ℕ
time_seen s = elim s.phase [ New ↦ 0 | Started a ↦ a | Running a t ↦ t ]

-- the place of the instance with these parameters, if it lives
abbrev pub place_among : Params → List SeenInstance → ℕ → Option ℕ
place_among p [] i = None
place_among p (x ∷ xs) i = if same_params p x.params then Some i else place_among p xs (i + 1)

-- the instances of a stream, if there is one
abbrev pub instances_of : Option SeenStream → List SeenInstance
instances_of None = []
instances_of (Some s) = s.instances

-- the instances of stream n
abbrev pub instances_seen : Seen → ℕ → List SeenInstance
instances_seen s n = instances_of (slice_get s.streams n)

-- the place of an instance of stream n
abbrev pub place_of : Seen → ℕ → Params → Option ℕ
place_of s n p = place_among p (instances_seen s n) 0

-- whether a stream is poisoned in this step
abbrev pub is_bad_seen : Option SeenStream → Bool
is_bad_seen None = false
is_bad_seen (Some s) = s.bad

-- the outcome of an instance, if there is one
abbrev pub now_at : Option SeenInstance → Outcome
now_at None = outcome.Missing
now_at (Some x) = x.outcome

-- the outcome of an instance in this step
abbrev pub now_seen : Seen → ℕ → ℕ → Outcome
now_seen s n i = now_at (slice_get (instances_seen s n) i)

-- the outcome at a place, if there is one
abbrev pub now_at_place : Seen → ℕ → Option ℕ → Outcome
now_at_place s n None = outcome.Missing
now_at_place s n (Some i) = now_seen s n i

-- the same, poisoned where the stream is
abbrev pub now_of : Seen → ℕ → Params → Outcome
now_of s n p = if is_bad_seen (slice_get s.streams n) then outcome.Poison else now_at_place s n (place_of s n p)

-- the changes

-- no outcome yet
abbrev pub is_silent : Outcome → Bool
is_silent outcome.Missing = true
is_silent _ = false

-- the streams with that of number n changed
abbrev pub changed_at : List SeenStream → ℕ → (SeenStream → SeenStream) → List SeenStream
changed_at [] n f = []
changed_at (s ∷ ss) n f = elim n [ zero ↦ f s ∷ ss | suc m ↦ s ∷ changed_at ss m f ]

-- the instances with the outcome of the one at a place
abbrev pub told_at : List SeenInstance → ℕ → Outcome → List SeenInstance
told_at [] i o = []
told_at (x ∷ xs) i o = elim i [ zero ↦ record { params = x.params; born = x.born; outcome = o } ∷ xs | suc j ↦ x ∷ told_at xs j o ]

-- after `start_at`
abbrev pub after_start : Seen → ℕ → Seen
after_start s start = record s { phase = Started start }

-- after `prepare`
abbrev pub after_prepare : Seen → Seen
after_prepare s = record s { prepared = true }

-- an instance with no outcome
abbrev pub silent : SeenInstance → SeenInstance
silent x = record { params = x.params; born = x.born; outcome = outcome.Missing }

-- a stream as a step begins
abbrev pub quiet : SeenStream → SeenStream
quiet s = record { bad = false; spawned = false; instances = map silent s.instances }

-- after `begin`
abbrev pub after_begin : Seen → ℕ → Seen
after_begin s time = record s { phase = Running (start_seen s) time; prepared = false; steps = s.steps + 1; streams = map quiet s.streams }

-- after `push` or `poison`
abbrev pub after_outcome : Seen → ℕ → ℕ → Outcome → Seen
after_outcome s n i o = record s { streams = changed_at s.streams n (λ x. record x { instances = told_at x.instances i o }) }

-- after `poison_stream`
abbrev pub after_poison_stream : Seen → ℕ → Seen
after_poison_stream s n = record s { streams = changed_at s.streams n (λ x. record x { bad = true }) }

-- an instance that was just born, at this time
abbrev pub newborn_seen : ℕ → Params → SeenInstance
newborn_seen time p = record { params = p; born = time; outcome = outcome.Missing }

-- after `spawn`, where an instance was born or not
abbrev pub after_spawn : Seen → ℕ → Params → Bool → Seen
after_spawn s n p born =
    if born then record s { streams = changed_at s.streams n (λ x. record x { spawned = true; instances = x.instances ++ newborn_seen (time_seen s) p ∷ [] }) } else s

-- whether an instance of the stream was born in this step
abbrev pub has_spawned : Option SeenStream → Bool
has_spawned None = false
has_spawned (Some s) = s.spawned

-- after `close`
abbrev pub after_close : Seen → ℕ → ℕ → Seen
after_close s n i = record s { streams = changed_at s.streams n (λ x. record x { instances = remove x.instances i }) }

-- the kinds of a stream's parameters
abbrev pub parameters_of : Option StreamLayout → List Kind
parameters_of None = []
parameters_of (Some s) = s.parameters

-- the kind of a stream's values
abbrev pub kind_in : Option StreamLayout → Kind
kind_in None = kind.Bool
kind_in (Some s) = s.kind

-- how many values a stream keeps
abbrev pub kept_in : Option StreamLayout → ℕ
kept_in None = 1
kept_in (Some s) = s.kept

-- whether a stream has a spawn clause
abbrev pub spawns_in : Option StreamLayout → Bool
spawns_in None = false
spawns_in (Some s) = s.spawns

-- a stream of the store, and parameters of its kinds
pub record Fits (s : Seen) (n : ℕ) (p : Params) : Type 0 where
  pub stream : n < length s.layout.streams
  pub kinds : IsTrue (are_of_kinds (parameters_of (slice_get s.layout.streams n)) (the_values p))
  pub places : IsTrue (is_well_formed p)

-- a step at this time may begin
pub record CanBegin (s : Seen) (time : ℕ) : Type 0 where
  pub started : IsStarted s
  pub prepared : IsTrue s.prepared
  pub time_le : time_seen s ≤ time
  pub steps_lt : s.steps < 2 ^ 63

-- the greatest offset onto stream n
abbrev pub max_offset : Seen → ℕ → ℕ
max_offset s n = kept_in (slice_get s.layout.streams n) - 1

-- the target of a window
abbrev pub target_of : Option WindowSpec → ℕ
target_of None = 0
target_of (Some w) = w.target

-- the length of a pane of a window
abbrev pub pane_of : Option PaneSize → ℕ
pane_of None = 1
pane_of (Some p) = p.pane

-- no stream has a spawn clause
abbrev pub never_spawns : List StreamLayout → Bool
never_spawns [] = true
never_spawns (s ∷ ss) = not s.spawns && never_spawns ss

-- what a store stands for

-- which earlier values a store remembers for an instance by its stream and place: a relation, since
-- it may have forgotten some. Texts are read through a naming
abbrev pub Memories : Type 1
Memories = Naming → ℕ → ℕ → List (ℕ × Field) → Type 0

module _ (names : Naming) (remembers : Memories) (n : ℕ) where
  -- an instance stands for a life: read through the naming it has the life's parameters and outcome, and it
  -- remembers the life's values
  pub record StandsForLife (i : ℕ) (x : SeenInstance) (l : Life) : Type 0 where
    pub params : read_params names x.params ≡ l.params
    pub params_held : AreHeld names (the_values x.params)
    pub outcome : read_outcome names x.outcome ≡ l.outcome
    pub outcome_held : IsHeldIn names x.outcome
    pub earlier : remembers names n i l.earlier

  -- instances stand for lives, each for its own
  abbrev pub StandForLives : ℕ → List SeenInstance → List Life → Type 0
  StandForLives i [] [] = Unit {0}
  StandForLives i (x ∷ xs) (l ∷ ls) = StandsForLife i x l × StandForLives (i + 1) xs ls
  StandForLives i _ _ = ⊥

  -- a stream, which has a spawn clause or not, stands for a stream of a content; the one instance of a stream without a spawn clause
  -- is never born
  pub record StandsForStream (spawns : Bool) (s : SeenStream) (c : StreamContent) : Type 0 where
    pub bad : s.bad ≡ c.bad
    pub lives : StandForLives 0 s.instances c.lives
    pub births : spawns ≡ true → map (λ (x : SeenInstance). x.born) s.instances ≡ map (λ (l : Life). l.born) c.lives

module _ (layouts : List StreamLayout) (names : Naming) (remembers : Memories) where
  -- streams stand for streams, each for its own
  abbrev pub StandForStreams : ℕ → List SeenStream → List StreamContent → Type 0
  StandForStreams n [] [] = Unit {0}
  StandForStreams n (s ∷ ss) (c ∷ cs) = StandsForStream names remembers n (spawns_in (slice_get layouts n)) s c × StandForStreams (n + 1) ss cs
  StandForStreams n _ _ = ⊥

module _ (names : Naming) (remembers : Memories) where
  -- a store that shows this and remembers these stands for a content
  pub record Stands (s : Seen) (c : Content) : Type 0 where
    pub start : start_seen s ≡ c.start
    pub time : time_seen s ≡ c.time
    pub streams : StandForStreams s.layout.streams names remembers 0 s.streams c.streams

-- the kind that an aggregation gives, onto values of a kind
abbrev pub gives_kind : Agg → Kind → Kind
gives_kind agg.Count k = kind.UInt64
gives_kind agg.Sum k = k
gives_kind agg.Min k = k
gives_kind agg.Max k = k
gives_kind agg.Avg k = k
gives_kind agg.Forall k = kind.Bool
gives_kind agg.Exists k = kind.Bool

-- the kind of a window's values
abbrev pub window_kind_of : Seen → Option WindowSpec → Kind
window_kind_of s None = kind.Bool
window_kind_of s (Some w) = gives_kind w.using (kind_in (slice_get s.layout.streams w.target))

-- of the window of a number
abbrev pub window_kind : Seen → ℕ → Kind
window_kind s w = window_kind_of s (slice_get s.layout.windows w)

-- no parameters
abbrev pub no_params : Params
no_params =
    record { count = 0; at0 = value.Bool false; at1 = value.Bool false; at2 = value.Bool false; at3 = value.Bool false }

-- a stream of a new store: one without a spawn clause has one instance
abbrev pub opened : StreamLayout → SeenStream
opened s =
    record { bad = false; spawned = false; instances = if s.spawns then [] else newborn_seen 0 no_params ∷ [] }

-- what a new store shows
abbrev pub new_seen : Layout → Seen
new_seen l = record { layout = l; phase = New; prepared = false; steps = 0; streams = map opened l.streams }
