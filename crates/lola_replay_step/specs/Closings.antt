-- What close clauses come to of what is known, and which instances are closed.
use Rattle.std.specs.Prelude.{ℕ, ◌+◌, List, [], ◌∷◌, ◌++◌, Option, Some, None, Bool, true, false, if◌then◌else◌, slice_get, Ok, Err}
use Rattle.lola_value.specs.declared.text.Field.TheVariants as field
use Rattle.lola_value.specs.declared.value.FaultKind.{FaultKind}
use Rattle.lola_value.specs.Answer.{Answer, Given, Missing, Faulted}
use Rattle.lola_model.specs.Activity.{is_active_for}
use Rattle.lola_model.specs.Faults.{RowFault, lesser_kind}
use Rattle.lola_model.specs.Model.{close_pacing}
use Rattle.lola_model.specs.Table.{Step}
use Rattle.lola_model.specs.declared.plan.Plan.{Plan}
use Rattle.lola_model.specs.declared.spec.Stream.{Stream}
use Rattle.lola_replay_table.specs.Clauses.{close_tried}
use Rattle.lola_replay_table.specs.Scenes.{step_at}
use Rattle.lola_replay_table.specs.Tries.{Try}
use Rattle.lola_replay_table.specs.declared.scene.Scene.{Scene}
use Rattle.lola_replay_table.specs.declared.table.KnownLife.{KnownLife}
use Rattle.lola_replay_table.specs.declared.table.KnownStream.{KnownStream}

-- the answer of a try that asks nothing
abbrev pub answer_in : Try → Answer
answer_in (Ok a) = a
answer_in (Err q) = Missing

-- whether a close condition closes
abbrev pub closes_by : Answer → Bool
closes_by (Given (field.Bool true)) = true
closes_by a = false

-- the kind of an outcome that is a fault
abbrev pub faulted_of : Answer → Option FaultKind
faulted_of (Faulted k) = Some k
faulted_of a = None

-- the lesser of two kinds, where there are two
abbrev pub least_of : Option FaultKind → Option FaultKind → Option FaultKind
least_of None b = b
least_of (Some k) b = lesser_kind k b

-- the fault of a stream, if it has one, or else another
abbrev pub fault_or : ℕ → Option FaultKind → Option RowFault → Option RowFault
fault_or n None other = other
fault_or n (Some k) other = Some (record { stream = n; kind = k })

module _ (plan : Plan) (start : ℕ) (step : Step) (known : List KnownStream) where
  -- what is tried of an instance's close condition: nothing, where its clause is not active
  abbrev pub closing_tried : ℕ → Stream → KnownLife → Try
  closing_tried n s l =
      if is_active_for start l.born step (close_pacing (slice_get plan.pacings n)) then close_tried plan start step known s.close l.params else Ok Missing

  -- what it comes to
  abbrev pub closes_to : ℕ → Stream → KnownLife → Answer
  closes_to n s l = answer_in (closing_tried n s l)

  -- whether each of these instances is closed
  abbrev pub closed_of : ℕ → Stream → List KnownLife → List Bool
  closed_of n s [] = []
  closed_of n s (l ∷ ls) = closes_by (closes_to n s l) ∷ closed_of n s ls

  -- each of all streams from number n on
  abbrev pub closed_from : ℕ → List Stream → List KnownStream → List Bool
  closed_from n (s ∷ ss) (k ∷ ks) = closed_of n s k.lives ++ closed_from (n + 1) ss ks
  closed_from n _ _ = []

  -- the least fault of their close conditions, or of others before
  abbrev pub least_closing : ℕ → Stream → Option FaultKind → List KnownLife → Option FaultKind
  least_closing n s least [] = least
  least_closing n s least (l ∷ ls) = least_closing n s (least_of least (faulted_of (closes_to n s l))) ls

  -- the first stream from number n on that has one
  abbrev pub first_closing : ℕ → List Stream → List KnownStream → Option RowFault
  first_closing n (s ∷ ss) (k ∷ ks) = fault_or n (least_closing n s None k.lives) (first_closing (n + 1) ss ks)
  first_closing n _ _ = None

-- in a scene
abbrev pub closing_at : Scene → ℕ → Stream → KnownLife → Try
closing_at s n stream l = closing_tried s.plan.now s.moment.start (step_at s) s.known.now n stream l

abbrev pub closes_at : Scene → ℕ → Stream → KnownLife → Answer
closes_at s n stream l = closes_to s.plan.now s.moment.start (step_at s) s.known.now n stream l

abbrev pub close_at : Scene → Stream → KnownLife → Try
close_at s stream l = close_tried s.plan.now s.moment.start (step_at s) s.known.now stream.close l.params

abbrev pub closed_at : Scene → ℕ → Stream → List KnownLife → List Bool
closed_at s n stream ls = closed_of s.plan.now s.moment.start (step_at s) s.known.now n stream ls

abbrev pub all_closed_at : Scene → ℕ → List Stream → List KnownStream → List Bool
all_closed_at s n ss ks = closed_from s.plan.now s.moment.start (step_at s) s.known.now n ss ks

abbrev pub least_closing_at : Scene → ℕ → Stream → Option FaultKind → List KnownLife → Option FaultKind
least_closing_at s n stream least ls = least_closing s.plan.now s.moment.start (step_at s) s.known.now n stream least ls

abbrev pub first_closing_at : Scene → ℕ → List Stream → List KnownStream → Option RowFault
first_closing_at s n ss ks = first_closing s.plan.now s.moment.start (step_at s) s.known.now n ss ks
