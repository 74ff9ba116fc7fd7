-- The fault that is found among what is noted is that of the row.
use Rattle.std.proofs.Common.{◌≡◌, refl, ap, ◌∙◌, sym, subst, ℕ, suc, ◌+◌, ◌<◌, List, [], ◌∷◌, Option, Some, None, Bool, true, false, slice_get, length, arith, nat_eq, take, drop, get_or, ◌≤◌}
use Rattle.std.proofs.lemmas.Option.{slice_get-get_or, slice_get_within}
use Rattle.lola_value.specs.declared.text.Field.{Field}
use Rattle.lola_value.specs.declared.text.Field.TheVariants as field
use Rattle.lola_value.specs.declared.value.FaultKind.{FaultKind}
use Rattle.lola_value.specs.declared.value.FaultKind.TheVariants.{Overflow, DivZero, TooManyInstances}
use Rattle.lola_value.specs.declared.value.Outcome.{Outcome}
use Rattle.lola_value.specs.declared.value.Outcome.TheVariants as outcome
use Rattle.lola_value.specs.Answer.{Missing}
use Rattle.lola_value.specs.Naming.{Naming, IsHeldIn, read_outcome}
use Rattle.lola_model.specs.Acceptance.{IsAccepted}
use Rattle.lola_model.specs.Faults.{RowFault, lesser_kind, add_faulted, least_faulted, own_fault, first_with}
use Rattle.lola_model.specs.Model.{field_outcome, input_outcome, is_input, spawned_in}
use Rattle.lola_model.specs.Table.{Step, Spawned, Idle, Named, SpawnFaulted, SpawnPoisoned, Living, StreamRow, TableRow}
use Rattle.lola_model.specs.declared.plan.Plan.{Plan}
use Rattle.lola_step_contents.specs.Ends.{evaluation_fault}
use Rattle.lola_step_contents.specs.Nexts.{InputIs, inputs_before, living_in}
use Rattle.lola_step_contents.specs.Stages.{full_row}
use Rattle.lola_step_contents.proofs.Inputs.{inputs_go}
use Rattle.lola_step.specs.Ends.{FindsFault}
use Rattle.lola_step.specs.Found.{least_of, add_fault, least_among, fault_of, fault_or, first_among}
use Rattle.lola_step.specs.Notes.{AreNoted, AreSilent, OneOf, ReadEach, ShowLiving, asked_in, in_span, spawn_result_of, read_fault}
use Rattle.lola_step.specs.Progress.{IsRun}
use Rattle.lola_step.specs.declared.spawn_result.SpawnResult.{SpawnResult}
use Rattle.lola_step.specs.declared.scratch.Span.{Span}
use Rattle.lola_step.specs.declared.tasks.Task.{Task}
use Rattle.lola_step.proofs.Elements.{Element, cut, drop_past, element}
use Rattle.lola_step.proofs.Standing.{length-full}

-- the lesser of kinds, in any order

either_first : (k j : FaultKind) → lesser_kind k (Some j) ≡ lesser_kind j (Some k)
either_first Overflow Overflow = refl
either_first DivZero Overflow = refl
either_first TooManyInstances Overflow = refl
either_first k j = refl

of_three : (k j i : FaultKind) → least_of (lesser_kind k (Some j)) (Some i) ≡ lesser_kind j (lesser_kind k (Some i))
of_three Overflow Overflow Overflow = refl
of_three Overflow DivZero Overflow = refl
of_three Overflow TooManyInstances Overflow = refl
of_three DivZero Overflow Overflow = refl
of_three DivZero DivZero Overflow = refl
of_three DivZero TooManyInstances Overflow = refl
of_three TooManyInstances Overflow Overflow = refl
of_three TooManyInstances DivZero Overflow = refl
of_three TooManyInstances TooManyInstances Overflow = refl
of_three k j i = refl

pub kind_moves : (k : FaultKind) (least rest : Option FaultKind) → least_of (lesser_kind k least) rest ≡ least_of least (lesser_kind k rest)
kind_moves k None rest = refl
kind_moves k (Some j) None = either_first k j
kind_moves k (Some j) (Some i) = of_three k j i

-- an outcome counts among those so far as among those to come
pub outcome_moves : (o : Outcome) (least rest : Option FaultKind) → least_of (add_fault o least) rest ≡ least_of least (add_fault o rest)
outcome_moves (outcome.Fault k) least rest = kind_moves k least rest
outcome_moves (outcome.Value v) least rest = refl
outcome_moves outcome.Missing least rest = refl
outcome_moves outcome.Poison least rest = refl

pub least_of_none : (o : Option FaultKind) → least_of o None ≡ o
least_of_none None = refl
least_of_none (Some k) = refl

-- of a stream

module _ (names : Naming) where
  -- an outcome is a fault where what it reads as is one
  pub same_kind : (o : Outcome) (rest : Option FaultKind) → add_fault o rest ≡ add_faulted (read_outcome names o) rest
  same_kind (outcome.Fault k) rest = refl
  same_kind (outcome.Value v) rest = refl
  same_kind outcome.Missing rest = refl
  same_kind outcome.Poison rest = refl

  silent_least : (ls : List Living) → AreSilent ls → least_faulted ls ≡ None
  silent_least [] h = refl
  silent_least (l ∷ ls) h = ap (λ a. add_faulted a (least_faulted ls)) h.0 ∙ silent_least ls h.1

  -- an instance that was asked counts with its outcome, and another adds nothing
  one_least : (b : Bool) (o : Outcome) (os : List Outcome) (l : Living) (ls : List Living) (here there : Type 0)
      → OneOf b ((read_outcome names o ≡ l.outcome) × IsHeldIn names o × here) ((l.outcome ≡ Missing) × there)
      → (here → least_among os ≡ least_faulted ls) → (there → least_among (o ∷ os) ≡ least_faulted ls)
      → least_among (o ∷ os) ≡ least_faulted (l ∷ ls)
  one_least true o os l ls here there h asked other =
      same_kind o (least_among os)
      ∙ (ap (λ a. add_faulted a (least_among os)) h.0
      ∙ ap (add_faulted l.outcome) (asked h.2))
  one_least false o os l ls here there h asked other = other h.1 ∙ sym (ap (λ a. add_faulted a (least_faulted ls)) h.0)

  read_least : (i : ℕ) (ts : List Task) (os : List Outcome) (ls : List Living) → ReadEach names i ts os ls → least_among os ≡ least_faulted ls
  read_least i [] [] ls h = sym (silent_least ls h)
  read_least i [] (o ∷ os) ls h = absurd h
  read_least i (t ∷ ts) [] ls h = absurd h
  read_least i (t ∷ ts) (o ∷ os) [] h = absurd h
  read_least i (t ∷ ts) (o ∷ os) (l ∷ ls) h =
      one_least (nat_eq t.index i) o os l ls _ _ h (read_least (i + 1) ts os ls) (read_least (i + 1) (t ∷ ts) (o ∷ os) ls)

field_is_fine : (f : Option Field) → add_faulted (field_outcome f) None ≡ None
field_is_fine None = refl
field_is_fine (Some field.Absent) = refl
field_is_fine (Some (field.Bool b)) = refl
field_is_fine (Some (field.Int v)) = refl
field_is_fine (Some (field.Text t)) = refl

input_is_fine : (i : ℕ) (fields : Option (List Field)) → add_faulted (input_outcome i fields) None ≡ None
input_is_fine i None = refl
input_is_fine i (Some fields) = field_is_fine (slice_get fields i)

of_spawned : (sp : Spawned) (os : List Outcome) (least : Option FaultKind) → least_among os ≡ least
    → fault_of (spawn_result_of sp) os ≡ elim sp as (λ _. Option FaultKind) [ Idle ↦ least | Named p ↦ least | SpawnFaulted k ↦ Some k | SpawnPoisoned ↦ least ]
of_spawned Idle os least e = e
of_spawned (Named p) os least e = e
of_spawned (SpawnFaulted k) os least e = refl
of_spawned SpawnPoisoned os least e = e

-- of all streams

module _ (results : List Outcome) where
  -- what is noted of a stream has the fault of its row
  abbrev HasSameFault : SpawnResult → Span → StreamRow → Type 0
  HasSameFault m p y = fault_of m (in_span results (Some p)) ≡ own_fault y

  with_first : (n : ℕ) (o : Option FaultKind) (rest : Option (ℕ × FaultKind)) (others : Option RowFault) → read_fault rest ≡ others
      → read_fault (fault_or n o rest) ≡ elim o as (λ _. Option RowFault) [ None ↦ others | Some k ↦ Some (record { stream = n; kind = k }) ]
  with_first n None rest others e = e
  with_first n (Some k) rest others e = refl

  first_is : (n : ℕ) (ms : List SpawnResult) (ps : List Span) (ys : List StreamRow) → length ms ≡ length ys → length ps ≡ length ys
      → ((i : ℕ) (m : SpawnResult) (p : Span) (y : StreamRow) → slice_get ms i ≡ Some m → slice_get ps i ≡ Some p → slice_get ys i ≡ Some y → HasSameFault m p y)
      → read_fault (first_among results n ms ps) ≡ first_with own_fault n ys
  first_is n [] ps [] e f each = refl
  first_is n [] ps (y ∷ ys) e f each = absurd (omega arith)
  first_is n (m ∷ ms) ps [] e f each = absurd (omega arith)
  first_is n (m ∷ ms) [] (y ∷ ys) e f each = absurd (omega arith)
  first_is n (m ∷ ms) (p ∷ ps) (y ∷ ys) e f each =
      with_first n (fault_of m (in_span results (Some p))) (first_among results (n + 1) ms ps) (first_with own_fault (n + 1) ys)
      (first_is (n + 1) ms ps ys (omega arith) (omega arith) (λ i k q z a b c. each (suc i) k q z a b c))
      ∙ ap (λ o. elim o as (λ _. Option RowFault) [ None ↦ first_with own_fault (n + 1) ys | Some k ↦ Some (record { stream = n; kind = k }) ]) (each 0 m p y refl refl refl)

module _ (plan : Plan) (accepted : IsAccepted plan) (spawn_results : List SpawnResult) (spans : List Span) (tasks : List Task) (results : List Outcome) where
  module _ (names : Naming) (start : ℕ) (rows : List TableRow) (step : Step) (run : IsRun plan names rows) (noted : AreNoted plan (full_row plan start rows step).streams names spawn_results spans tasks results) where
    abbrev full : List StreamRow
    full = (full_row plan start rows step).streams

    module _ (n : ℕ) (m : SpawnResult) (p : Span) (y : StreamRow) (is_spawn_result : slice_get spawn_results n ≡ Some m) (is_span : slice_get spans n ≡ Some p) (is_row : slice_get full n ≡ Some y) where
      below : n < length plan.spec.streams
      below = omega (arith, slice_get_within full n y is_row, length-full plan accepted.acyclic start rows step)

      there : Element plan.spec.streams n
      there = element plan.spec.streams n below

      input_least : is_input there.at ≡ true → least_among (in_span results (Some p)) ≡ least_faulted y.living
      input_least i =
          let none : p.count ≡ 0 = noted.inputs_empty n there.at p there.is i is_span in
          let one : InputIs plan start rows step n there.at = (inputs_go plan accepted start rows run.settled step).input n there.at there.is i in
          let fine : add_faulted (input_outcome (inputs_before plan.spec.streams n) step.fields) None ≡ None = input_is_fine (inputs_before plan.spec.streams n) step.fields in
          ap (λ k. least_among (take k (drop p.from results))) none
          ∙ (sym fine
          ∙ ap least_faulted (sym one.living ∙ ap living_in is_row))

      other_least : is_input there.at ≡ false → least_among (in_span results (Some p)) ≡ least_faulted y.living
      other_least i =
          read_least names 0 (asked_in tasks (Some p)) (in_span results (Some p)) y.living
          (subst (λ (o : Option StreamRow). ShowLiving names (asked_in tasks (Some p)) (in_span results (Some p)) (living_in o)) is_row
          (subst (λ (o : Option Span). ShowLiving names (asked_in tasks o) (in_span results o) (living_in (slice_get full n))) is_span (noted.results_show n there.at there.is i)))

      least : (b : Bool) → is_input there.at ≡ b → least_among (in_span results (Some p)) ≡ least_faulted y.living
      least true i = input_least i
      least false i = other_least i

      spawn_result_is : m ≡ spawn_result_of y.spawned
      spawn_result_is =
          let a : slice_get spawn_results n ≡ Some (spawn_result_of (spawned_in (slice_get full n))) = noted.spawn_results_are n below in
          let b : spawn_result_of (spawned_in (slice_get full n)) ≡ spawn_result_of y.spawned = ap (λ o. spawn_result_of (spawned_in o)) is_row in
          cc

      same_fault : HasSameFault results m p y
      same_fault =
          ap (λ k. fault_of k (in_span results (Some p))) spawn_result_is
          ∙ of_spawned y.spawned (in_span results (Some p)) (least_faulted y.living) (least (is_input there.at) refl)

    found : length spawn_results ≡ length plan.spec.streams → length spans ≡ length plan.spec.streams → read_fault (first_among results 0 spawn_results spans) ≡ evaluation_fault plan start rows step
    found a b =
        let c : length full ≡ length plan.spec.streams = length-full plan accepted.acyclic start rows step in
        first_is results 0 spawn_results spans full (omega arith) (omega arith) same_fault

  -- the first fault among what is noted is that of the evaluation
  pub finds_fault : length spawn_results ≡ length plan.spec.streams → length spans ≡ length plan.spec.streams → FindsFault plan spawn_results spans tasks results (first_among results 0 spawn_results spans)
  finds_fault a b names start rows step run noted = found names start rows step run noted a b

-- the steps of the loops

pub least_step : (os : List Outcome) (i : ℕ) (d : Outcome) (least next : Option FaultKind) → i < length os → next ≡ add_fault (get_or os i d) least
    → least_of least (least_among (drop i os)) ≡ least_among os → least_of next (least_among (drop (i + 1) os)) ≡ least_among os
least_step os i d least next below e so_far =
    let o : Outcome = get_or os i d in
    ap (λ k. least_of k (least_among (drop (i + 1) os))) e
    ∙ (outcome_moves o least (least_among (drop (i + 1) os))
    ∙ (ap (λ ys. least_of least (least_among ys)) (sym (cut os i o (slice_get-get_or os i d below)))
    ∙ so_far))

module _ (results : List Outcome) (ms : List SpawnResult) (ps : List Span) (n : ℕ) (so_far : first_among results n (drop n ms) (drop n ps) ≡ first_among results 0 ms ps) where
  pub first_here : (e : SpawnResult) (d : Span) (k : FaultKind) → n < length ms → n < length ps → Some k ≡ fault_of (get_or ms n e) (in_span results (Some (get_or ps n d)))
      → first_among results 0 ms ps ≡ Some (n, k)
  first_here e d k below within is =
      let m : SpawnResult = get_or ms n e in
      let p : Span = get_or ps n d in
      sym so_far
      ∙ (ap (λ ys. first_among results n ys (drop n ps)) (cut ms n m (slice_get-get_or ms n e below))
      ∙ (ap (first_among results n (m ∷ drop (n + 1) ms)) (cut ps n p (slice_get-get_or ps n d within))
      ∙ ap (λ o. fault_or n o (first_among results (n + 1) (drop (n + 1) ms) (drop (n + 1) ps))) (sym is)))

  pub first_none : length ms ≤ n → first_among results 0 ms ps ≡ None
  first_none past = sym so_far ∙ ap (λ ys. first_among results n ys (drop n ps)) (drop_past ms n past)
