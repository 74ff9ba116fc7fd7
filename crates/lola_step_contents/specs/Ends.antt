-- How a step ends: its fault, its values and its lines, and what its close clauses leave.
use Rattle.std.specs.Prelude.{ℕ, ◌≡◌, ◌+◌, List, [], ◌∷◌, ◌++◌, Option, Some, None, true, false, if◌then◌else◌, slice_get, reverse}
use Rattle.lola_value.specs.declared.text.Field.{Field}
use Rattle.lola_value.specs.declared.text.Field.TheVariants as field
use Rattle.lola_value.specs.declared.value.FaultKind.{FaultKind}
use Rattle.lola_value.specs.Answer.{Answer, Given}
use Rattle.lola_model.specs.Content.{Content, content}
use Rattle.lola_model.specs.Faults.{RowFault, row_fault, own_fault, first_with, least_kind}
use Rattle.lola_model.specs.Model.{answered, has_fault, is_input, close_answer, close_faults_among, is_closing_for, asked_to_close}
use Rattle.lola_model.specs.Standing.{content_left}
use Rattle.lola_model.specs.Table.{Step, Living, StreamRow, TableRow}
use Rattle.lola_model.specs.Texts.{row_lines, value_lines}
use Rattle.lola_model.specs.declared.journal.Show.{Show}
use Rattle.lola_model.specs.declared.plan.Plan.{Plan}
use Rattle.lola_model.specs.declared.spec.Clause.{Clause}
use Rattle.lola_model.specs.declared.spec.Stream.{Stream}
use Rattle.lola_step_contents.specs.Changed.{closed}
use Rattle.lola_step_contents.specs.Stages.{full_row}

-- a value of a row: its stream, the parameters of its instance, and itself
pub record RowValue : Type 0 where
  pub stream : ℕ
  pub params : List Field
  pub value : Field

-- adds an outcome that is a value
abbrev pub add_value : ℕ → List Field → Answer → List RowValue → List RowValue
add_value n p (Given v) rest = record { stream = n; params = p; value = v } ∷ rest
add_value n p a rest = rest

-- the values of a stream's instances
abbrev pub values_among : ℕ → List Living → List RowValue
values_among n [] = []
values_among n (l ∷ ls) = add_value n l.instance.params l.outcome (values_among n ls)

-- the values of all streams but inputs, by the streams' numbers and in the order of birth, from stream n on
abbrev pub row_values : ℕ → List Stream → List StreamRow → List RowValue
row_values n (s ∷ ss) (y ∷ ys) = (if is_input s then [] else values_among n y.living) ++ row_values (n + 1) ss ys
row_values n _ _ = []

-- what is shown of a value of a stream, if there is one
abbrev pub lines_at : Show → ℕ → Option Stream → List Field → Field → List (List ℕ)
lines_at show time None p v = []
lines_at show time (Some s) p v = value_lines show time s p v

-- what is shown of values
abbrev pub lines_of : Show → ℕ → List Stream → List RowValue → List (List ℕ)
lines_of show time streams [] = []
lines_of show time streams (v ∷ vs) = lines_at show time (slice_get streams v.stream) v.params v.value ++ lines_of show time streams vs

-- an instance by its stream and place
pub record Place : Type 0 where
  pub stream : ℕ
  pub index : ℕ

-- adds a place where the close condition is true
abbrev pub add_place : Answer → ℕ → ℕ → List Place → List Place
add_place (Given (field.Bool true)) n i rest = record { stream = n; index = i } ∷ rest
add_place a n i rest = rest

module _ (plan : Plan) (start : ℕ) (rows : List TableRow) (step : Step) (c : Content) where
  -- the places of the instances for which a close clause is active and which it closes, from a place on
  abbrev pub places_closed : Option Clause → ℕ → ℕ → List Living → List Place
  places_closed k n i [] = []
  places_closed k n i (l ∷ ls) =
      if is_closing_for plan start rows step n l.instance
      then add_place (close_answer plan.spec c k l.instance.params) n i (places_closed k n (i + 1) ls)
      else places_closed k n (i + 1) ls

  -- of all streams from number n on
  abbrev pub closings_from : ℕ → List Stream → List StreamRow → List Place
  closings_from n (s ∷ ss) (y ∷ ys) = places_closed s.close n 0 y.living ++ closings_from (n + 1) ss ys
  closings_from n _ _ = []

  -- the fault of a stream's close clause
  abbrev pub close_fault : ℕ → Stream → StreamRow → Option FaultKind
  close_fault n s y = least_kind (close_faults_among plan.spec c s.close (asked_to_close plan start rows step n y.living))

  -- the first of all streams from number n on
  abbrev pub first_close_fault : ℕ → List Stream → List StreamRow → Option RowFault
  first_close_fault n (s ∷ ss) (y ∷ ys) = elim (close_fault n s y) [ None ↦ first_close_fault (n + 1) ss ys | Some k ↦ Some (record { stream = n; kind = k }) ]
  first_close_fault n _ _ = None

-- the content without these instances, one taken away after the other
abbrev pub closed_each : Content → List Place → Content
closed_each c [] = c
closed_each c (p ∷ ps) = closed_each (closed c p.stream p.index) ps

module _ (plan : Plan) (start : ℕ) (rows : List TableRow) (step : Step) where
  abbrev full : List StreamRow
  full = (full_row plan start rows step).streams

  -- what the streams see before the close clauses
  abbrev pub full_content : Content
  full_content = content start rows (full_row plan start rows step)

  -- the first stream with a fault of its spawn clause or of an instance
  abbrev pub evaluation_fault : Option RowFault
  evaluation_fault = first_with own_fault 0 full

  -- and of its close clause
  abbrev pub closing_fault : Option RowFault
  closing_fault = first_close_fault plan start rows step full_content 0 plan.spec.streams full

  -- the instances that are closed, by their streams and places
  abbrev pub closings : List Place
  closings = closings_from plan start rows step full_content 0 plan.spec.streams full

  -- a step without a fault
  pub record IsFine : Type 0 where
    pub fine : has_fault (answered plan start rows step) ≡ false
    -- the last places are closed first, so that the others stay where they are
    pub left : content_left start rows (answered plan start rows step) ≡ closed_each full_content (reverse closings)
    pub lines : (show : Show) → row_lines show plan.spec.streams (answered plan start rows step) ≡ lines_of show step.time plan.spec.streams (row_values 0 plan.spec.streams full)

  -- the fault is that of the evaluation, or else of the close clauses
  pub record EndsBy : Type 0 where
    pub evaluation : (f : RowFault) → evaluation_fault ≡ Some f → row_fault (answered plan start rows step) ≡ Some f
    pub closing : (f : RowFault) → evaluation_fault ≡ None → closing_fault ≡ Some f → row_fault (answered plan start rows step) ≡ Some f
    pub none : evaluation_fault ≡ None → closing_fault ≡ None → IsFine

-- each step ends so
abbrev pub StepsEnd : Type 0
StepsEnd = (plan : Plan) (start : ℕ) (rows : List TableRow) (step : Step) → EndsBy plan start rows step
