-- How an evaluated step ends: by its fault, or done.
use Rattle.std.proofs.Common.{◌≡◌, refl, ap, ◌∙◌, sym, subst, ℕ, List, Some, None, Option, reverse}
use Rattle.lola_value.specs.declared.value.FaultKind.{FaultKind}
use Rattle.lola_value.specs.declared.value.Outcome.{Outcome}
use Rattle.lola_value.specs.Naming.{Naming}
use Rattle.lola_model.specs.Content.{Content, content}
use Rattle.lola_model.specs.Standing.{IsFaulty, content_left}
use Rattle.lola_model.specs.Model.{answered}
use Rattle.lola_model.specs.Store.{Memories, Seen, Stands}
use Rattle.lola_model.specs.Table.{Step, TableRow}
use Rattle.lola_model.specs.declared.journal.Show.{Show}
use Rattle.lola_model.specs.declared.plan.Plan.{Plan}
use Rattle.lola_step_contents.specs.Ends.{IsFine, closed_each, closings, evaluation_fault, full_content, lines_of}
use Rattle.lola_step_contents.specs.Stages.{full_row}
use Rattle.lola_step_contents.proofs.Ending.{each_step_ends}
use Rattle.lola_step.specs.Ends.{CollectsStepValues, FindsClosings, FindsFault}
use Rattle.lola_step.specs.Moments.{IsMoment}
use Rattle.lola_step.specs.Notes.{AreNoted, AreSpans, AreWithin, places_of}
use Rattle.lola_step.specs.Progress.{IsRun}
use Rattle.lola_step.specs.Steps.{IsDoneStep}
use Rattle.lola_step.specs.declared.spawn_result.SpawnResult.{SpawnResult}
use Rattle.lola_step.specs.declared.moment.Moment.{Moment}
use Rattle.lola_step.specs.declared.scratch.Span.{Span}
use Rattle.lola_step.specs.declared.tasks.Task.{Task}
use Rattle.lola_step.specs.declared.step_value.StepValue.{StepValue}
use Rattle.lola_step.proofs.Silenced.{hidden_left_out}

-- what was found of lists holds of equal ones

pub same_within : (results others : List Outcome) (spans more : List Span) → others ≡ results → more ≡ spans → AreWithin results spans → AreWithin others more
same_within results others spans more e f h = subst (λ os. AreWithin os more) (sym e) (subst (AreWithin results) (sym f) h)

pub same_spans : (s : Seen) (tasks asked : List Task) (results others : List Outcome) (spans more : List Span) → asked ≡ tasks → others ≡ results → more ≡ spans
    → AreSpans s tasks results spans → AreSpans s asked others more
same_spans s tasks asked results others spans more d e f h =
    subst (λ ts. AreSpans s ts others more) (sym d) (subst (λ os. AreSpans s tasks os more) (sym e) (subst (λ ps. AreSpans s tasks results ps) (sym f) h))

pub same_fault : (plan : Plan) (spawn_results spawn_results' : List SpawnResult) (spans spans' : List Span) (tasks : List Task) (results results' : List Outcome) (found : Option (ℕ × FaultKind))
    → spawn_results' ≡ spawn_results → spans' ≡ spans → results' ≡ results → FindsFault plan spawn_results' spans' tasks results' found → FindsFault plan spawn_results spans tasks results found
same_fault plan spawn_results spawn_results' spans spans' tasks results results' found e f g h =
    subst (λ ms. FindsFault plan ms spans tasks results found) e
    (subst (λ ps. FindsFault plan spawn_results' ps tasks results found) f
    (subst (λ os. FindsFault plan spawn_results' spans' tasks os found) g h))

pub same_step_values : (plan : Plan) (show : Show) (spans spans' : List Span) (tasks tasks' : List Task) (results results' : List Outcome) (remembers : Memories) (s : Seen) (step_values : List StepValue)
    → spans' ≡ spans → tasks' ≡ tasks → results' ≡ results → CollectsStepValues plan show spans' tasks' results' remembers s step_values → CollectsStepValues plan show spans tasks results remembers s step_values
same_step_values plan show spans spans' tasks tasks' results results' remembers s step_values e f g h =
    subst (λ ps. CollectsStepValues plan show ps tasks results remembers s step_values) e
    (subst (λ ts. CollectsStepValues plan show spans' ts results remembers s step_values) f
    (subst (λ os. CollectsStepValues plan show spans' tasks' os remembers s step_values) g h))

module _ (plan : Plan) (m : Moment) (spawn_results : List SpawnResult) (spans : List Span) (tasks : List Task) (results : List Outcome) where
  -- by the fault of a spawn clause or of an instance
  pub faults_by_evaluation : (stream : ℕ) (kind : FaultKind) → FindsFault plan spawn_results spans tasks results (Some (stream, kind))
      → (names : Naming) (rows : List TableRow) (step : Step) → IsRun plan names rows
      → AreNoted plan (full_row plan m.start rows step).streams names spawn_results spans tasks results
      → IsFaulty plan m.start rows step stream kind
  faults_by_evaluation stream kind finds names rows step run noted =
      (each_step_ends plan m.start rows step).evaluation (record { stream = stream; kind = kind }) (sym (finds names m.start rows step run noted))

  module _ (remembers : Memories) (s : Seen) (none : FindsFault plan spawn_results spans tasks results None) where
    -- by that of a close clause
    pub fails_by_closing : (stream : ℕ) (kind : FaultKind) (closing : List Task) → FindsClosings plan m remembers s (Some (stream, kind)) closing
        → (names : Naming) (rows : List TableRow) (step : Step) → IsRun plan names rows → IsMoment m.start step m
        → AreNoted plan (full_row plan m.start rows step).streams names spawn_results spans tasks results
        → Stands names remembers s (content m.start rows (full_row plan m.start rows step))
        → IsFaulty plan m.start rows step stream kind
    fails_by_closing stream kind closing finds names rows step run moment noted stands =
        (each_step_ends plan m.start rows step).closing (record { stream = stream; kind = kind })
        (sym (none names m.start rows step run noted)) (sym (finds names rows step run moment stands).0)

    -- or done: its lines are those of the values, and instances are closed
    pub is_done : (show : Show) (remembers' : Memories) (s' : Seen) (closing closed : List Task) (step_values : List StepValue)
        → FindsClosings plan m remembers s None closing → closed ≡ closing
        → CollectsStepValues plan show spans tasks results remembers s step_values
        → ((names : Naming) (c : Content) → Stands names remembers s c → Stands names remembers' s' (closed_each c (reverse (places_of closed))))
        → (names : Naming) (rows : List TableRow) (step : Step) → IsRun plan names rows → IsMoment m.start step m
        → AreNoted plan (full_row plan m.start rows step).streams names spawn_results spans tasks results
        → Stands names remembers s (content m.start rows (full_row plan m.start rows step))
        → IsDoneStep plan show m.start rows step names remembers' s' step_values
    is_done show remembers' s' closing closed step_values finds same collects closes names rows step run moment noted stands =
        let no_fault : evaluation_fault plan m.start rows step ≡ None = sym (none names m.start rows step run noted) in
        let found = finds names rows step run moment stands in
        let fine : IsFine plan m.start rows step = (each_step_ends plan m.start rows step).none no_fault (sym found.0) in
        let values = collects names m.start rows step spawn_results run noted stands in
        let places : places_of closed ≡ closings plan m.start rows step = ap places_of same ∙ found.1 refl in
        let left : closed_each (full_content plan m.start rows step) (reverse (places_of closed)) ≡ content_left m.start rows (answered plan m.start rows step) =
        ap (λ ps. closed_each (full_content plan m.start rows step) (reverse ps)) places ∙ sym fine.left in
        record {
          fine = fine.fine;
          lines = fine.lines show ∙ (hidden_left_out show step.time plan.spec.streams (full_row plan m.start rows step).streams ∙ ap (lines_of show step.time plan.spec.streams) (sym values.0));
          held = values.1;
          stands = subst (λ c. Stands names remembers' s' c) left (closes names (full_content plan m.start rows step) stands);
        }
