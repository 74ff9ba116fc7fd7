-- How instances are given their outcomes, one after another.
use Rattle.std.specs.Prelude.{ℕ, ◌≡◌, ◌<◌, List, Some, [], ◌∷◌, ◌++◌, length, slice_get, IsTrue}
use Rattle.lola_value.specs.declared.value.Outcome.{Outcome}
use Rattle.lola_value.specs.declared.value.Outcome.TheVariants as outcome
use Rattle.lola_value.specs.Kinds.{is_outcome_of}
use Rattle.lola_value.specs.Naming.{Naming, read_outcome}
use Rattle.lola_model.specs.Content.{Content, seen}
pub use Rattle.lola_model.specs.Given.{AreHeldIn}
use Rattle.lola_model.specs.Store.{IsRunning, Memories, Seen, after_outcome, instances_seen, is_silent, kind_in, now_seen}
use Rattle.lola_model.specs.declared.plan.Plan.{Plan}
use Rattle.lola_step_contents.specs.Changed.{told}
use Rattle.lola_step.specs.Tasks.{IsResult}
use Rattle.lola_step.specs.declared.moment.Moment.{Moment}
use Rattle.lola_step.specs.declared.tasks.Task.{Task}

-- an outcome for each task, in order
abbrev pub AreResults : Plan → Moment → Memories → Seen → List Task → List Outcome → Type 0
AreResults plan m remembers s [] [] = Unit {0}
AreResults plan m remembers s (t ∷ ts) (r ∷ rs) = IsResult plan m remembers s t r × AreResults plan m remembers s ts rs
AreResults plan m remembers s _ _ = ⊥

-- behind these outcomes others were put, one for each task in order
pub record AreAnswered (plan : Plan) (m : Moment) (remembers : Memories) (s : Seen) (tasks : List Task) (before after : List Outcome) : Type 0 where
  pub fresh : List Outcome
  pub is : after ≡ before ++ fresh
  pub are : AreResults plan m remembers s tasks fresh

-- an instance has its outcome: others see a fault as poison
abbrev pub after_giving : Seen → Task → Outcome → Seen
after_giving s t (outcome.Value v) = after_outcome s t.stream t.index (outcome.Value v)
after_giving s t outcome.Missing = s
after_giving s t (outcome.Fault k) = after_outcome s t.stream t.index outcome.Poison
after_giving s t outcome.Poison = after_outcome s t.stream t.index outcome.Poison

-- the instance of each task has its outcome
abbrev pub after_all : Seen → List Task → List Outcome → Seen
after_all s (t ∷ ts) (r ∷ rs) = after_all (after_giving s t r) ts rs
after_all s _ _ = s

-- an instance that is silent in this step, and an outcome of its stream's kind
pub record CanGive (s : Seen) (t : Task) (r : Outcome) : Type 0 where
  pub running : IsRunning s
  pub lives : t.index < length (instances_seen s t.stream)
  pub silent : IsTrue (is_silent (now_seen s t.stream t.index))
  pub kind : IsTrue (is_outcome_of (kind_in (slice_get s.layout.streams t.stream)) r)

-- each is such when its duty comes
abbrev pub CanGiveAll : Seen → List Task → List Outcome → Type 0
CanGiveAll s [] [] = Unit {0}
CanGiveAll s (t ∷ ts) (r ∷ rs) = CanGive s t r × CanGiveAll (after_giving s t r) ts rs
CanGiveAll s _ _ = ⊥

-- the content once the instance of each task has its outcome, as others see it
abbrev pub told_outcomes : Naming → Content → List Task → List Outcome → Content
told_outcomes names c (t ∷ ts) (r ∷ rs) = told_outcomes names (told c t.stream t.index (seen (read_outcome names r))) ts rs
told_outcomes names c _ _ = c

-- the tasks are of streams that the store has
abbrev pub AreKnown : Seen → List Task → Type 0
AreKnown s ts = (i : ℕ) (t : Task) → slice_get ts i ≡ Some t → t.stream < length s.layout.streams

-- the tasks are those of the first instances of a stream, in order
abbrev pub AreFirstOf : ℕ → List Task → Type 0
AreFirstOf n ts = (i : ℕ) → i < length ts → slice_get ts i ≡ Some (record { stream = n; index = i })
