-- How a run of two made-up sources ends, whose reads never fail.
use Rattle.std.proofs.Common.{◌≡◌, ◌⊎◌, ℕ, zero, suc, ◌<◌, ◌≤◌, List, [], ◌∷◌, ◌++◌, Option, None, Some, Result, Ok, Err, IsSome, All, inl, inr, false, true, slice_get, length, map, refl, sym, ap, ◌∙◌, subst, arith}
use Rattle.std.proofs.lemmas.List.{length-map}
use Rattle.std.proofs.lemmas.List.Elements.{All-head, All-tail}
use Rattle.lola_port.specs.States.{Rose, SinkState}
use Rattle.lola_model.specs.Acceptance.{IsAccepted}
use Rattle.lola_model.specs.Faults.{RunFault}
use Rattle.lola_model.specs.Journal.{IsLegal, accepted, rows_of}
use Rattle.lola_model.specs.declared.plan.Plan.{Plan}
use Rattle.lola_model.specs.declared.journal.Entry.{Entry}
use Rattle.lola_model.specs.declared.journal.Row.{Row}
use Rattle.lola_front.specs.Front.{IsPlanOf}
use Rattle.lola_monitor_command.specs.declared.command.DrillCommand.{DrillCommand}
use Rattle.lola_rows.specs.Reading.{fresh, shape_of}
use Rattle.lola_rows.specs.Rows.{SourceEnd, SourceRows, Whole, rows_of_source}
use Rattle.lola_feed.specs.Feeding.{Working, beginning, to_come}
use Rattle.lola_feed.specs.declared.worker.SourceEnd as worker
use Rattle.lola_feed.specs.declared.worker.SourceEnd.TheVariants as finish
use Rattle.lola_report.specs.declared.end.EndLine.{EndLine}
use Rattle.lola_report.specs.declared.end.EndLine.TheVariants.{Done}
use Rattle.lola_feed.specs.Drills.{drill_text}
use Rattle.lola_monitor_run.specs.Verdicts.{IsRowFault, Setting, fault_in, most_rows, settled_fault_in}
use Rattle.lola_monitor_run.specs.Running.{Keeping, setting_in}
use Rattle.lola_monitor_run.specs.declared.stop.Stop.{Stop}
use Rattle.lola_monitor_run.specs.declared.stop.Stop.TheVariants as stop
use Rattle.lola_monitor_run.specs.Rounds.{AreFirst}
use Rattle.lola_monitor_run.specs.Behind as behind
use Rattle.lola_monitor_run.specs.Behind.{CameBehind, EndedByFaultBehind, EndsBehind, IsRowFaultBehind, ThroughWellBehind}
use Rattle.lola_monitor_run.specs.Feeds.{AreFed, AreInPlace, AreReady, EndedWith, GoInRounds, HasEnded, HaveEnded, IsListOf, Supply, World, supply_of, world}
use Rattle.lola_monitor.specs.Drilling.{AreDrillWorkers, DrillRun, DrillsTo, IsAtDrillDeadline, IsDrillFault, IsDrillWorker, drill_rows, drill_setting}
use Rattle.lola_monitor.specs.Monitor.{HasItsModels, MalformedSource, done_line, fault_line, first_malformed}
use Rattle.lola_monitor.specs.Outcomes.{OutcomeAfter, end_by, end_of, ends_of, first_failed, is_failed_read, line_of, malformed_by, source_end}
use Rattle.lola_monitor.specs.SnapshotOutcomes.{nowhere}
use Rattle.lola_monitor.specs.declared.ending.SourcesEnd.{SourcesEnd}
use Rattle.lola_monitor.specs.declared.call_end.CallEnd.TheVariants.{Line}
use Rattle.lola_monitor.proofs.BehindNothing.{done_first, row_fault_first}
use Rattle.lola_monitor.proofs.DoneLines.{done_counts}
use Rattle.lola_monitor.proofs.FailedAsks.{none_malformed}

-- ---- a source whose reads do not fail

not_risen : (old new : ℕ) → old ≡ 0 → new ≡ 0 → Rose old new → ⊥
not_risen old new none still rose = absurd (omega (arith, none, still, rose))

no_failed_read : (end : Option worker.SourceEnd) (old new : Supply) (rows : List Row) → old.count ≡ 0 → new.count ≡ 0 → HasEnded end old new rows → is_failed_read end ≡ false
no_failed_read None old new rows none still ended = refl
no_failed_read (Some finish.End) old new rows none still ended = refl
no_failed_read (Some (finish.Malformed kind row)) old new rows none still ended = refl
no_failed_read (Some finish.ReadFailed) old new rows none still ended = absurd (not_risen old.count new.count none still ended)
no_failed_read (Some finish.Closed) old new rows none still ended = absurd ended
no_failed_read (Some finish.Memory) old new rows none still ended = absurd ended

-- one that has ended was read to its end
read_whole : (end : Option worker.SourceEnd) (old new : Supply) (rows : List Row) → IsSome end → old.count ≡ 0 → new.count ≡ 0 → HasEnded end old new rows → EndedWith (source_end end) old.rest rows
read_whole None old new rows some none still ended = let bad : false ≡ true = some in absurd (cc)
read_whole (Some finish.End) old new rows some none still ended = ended.0
read_whole (Some (finish.Malformed kind row)) old new rows some none still ended = ended.0
read_whole (Some finish.ReadFailed) old new rows some none still ended = absurd (not_risen old.count new.count none still ended)
read_whole (Some finish.Closed) old new rows some none still ended = absurd ended
read_whole (Some finish.Memory) old new rows some none still ended = absurd ended

-- ---- two of them

-- what holds of 0 and of 1 holds of each of two
pub of_two : (P : ℕ → Type 0) → P 0 → P 1 → (s : ℕ) → s < 2 → P s
of_two P zeroth first zero within = zeroth
of_two P zeroth first (suc zero) within = first
of_two P zeroth first (suc (suc s)) within = absurd (omega (arith, within))

two_lists : (lists : List (List Row)) (a b : List Row) → length lists ≡ 2 → ((rows : List Row) → slice_get lists 0 ≡ Some rows → rows ≡ a) → ((rows : List Row) → slice_get lists 1 ≡ Some rows → rows ≡ b) → lists ≡ a ∷ b ∷ []
two_lists [] a b many is next = absurd (omega (arith, many))
two_lists (x ∷ []) a b many is next = absurd (omega (arith, many))
two_lists (x ∷ y ∷ []) a b many is next = ap (λ (l : List Row). l ∷ y ∷ []) (is x refl) ∙ ap (λ (l : List Row). a ∷ l ∷ []) (next y refl)
two_lists (x ∷ y ∷ z ∷ lists) a b many is next = absurd (omega (arith, many))

neither_failed : (a b : Option worker.SourceEnd) → is_failed_read a ≡ false → is_failed_read b ≡ false → first_failed (a ∷ b ∷ []) ≡ None
neither_failed a b first second = rw (first, second) refl

-- a new worker of a source has all of its rows to come
new_rows : (plan : Plan) (d : DrillCommand) (s : ℕ) (w : Working) → IsDrillWorker plan d s w → to_come w ≡ Some (drill_rows plan d s)
unfolding rows_of_source
new_rows plan d s w is =
    ap to_come is.is ∙ ap (λ (o : Option (List ℕ)). to_come (beginning (fresh (shape_of plan.spec.streams s most_rows) (record is.file { left = o })))) is.left

new_count : (plan : Plan) (d : DrillCommand) (s : ℕ) (w : Working) → IsDrillWorker plan d s w → w.reader.source.count ≡ 0
new_count plan d s w is = ap (λ (v : Working). v.reader.source.count) is.is ∙ is.count

-- the workers of both, one put behind the other
two_workers : (plan : Plan) (d : DrillCommand) (a b : Working) → IsDrillWorker plan d 0 a → IsDrillWorker plan d 1 b → (s : ℕ) (w : Working) → slice_get (a ∷ b ∷ []) s ≡ Some w → IsDrillWorker plan d s w
two_workers plan d a b zeroth first zero w is = let same : a ≡ w = cc in subst (IsDrillWorker plan d 0) same zeroth
two_workers plan d a b zeroth first (suc zero) w is = let same : b ≡ w = cc in subst (IsDrillWorker plan d 1) same first
two_workers plan d a b zeroth first (suc (suc s)) w is = absurd (cc)

pub are_workers : (plan : Plan) (d : DrillCommand) (none one both : List Working) (a b : Working) → none ≡ [] → one ≡ none ++ a ∷ [] → both ≡ one ++ b ∷ []
    → IsDrillWorker plan d 0 a → IsDrillWorker plan d 1 b → AreDrillWorkers plan d both
are_workers plan d none one both a b is_none is_one is_both zeroth first =
    let all : both ≡ a ∷ b ∷ [] = is_both ∙ ap (λ (l : List Working). l ++ b ∷ []) (is_one ∙ ap (λ (l : List Working). l ++ a ∷ []) is_none) in
    subst (AreDrillWorkers plan d) (sym all) (record { many = refl; each = two_workers plan d a b zeroth first })

pub are_ready : (plan made : Plan) (d : DrillCommand) (ws : List Working) → made ≡ plan → AreDrillWorkers plan d ws → AreReady made ws
are_ready plan made d ws same are = record {
  many = (omega (arith, are.many), omega (arith, are.many));
  new = λ s w there. let is = are.each s w there in
      (is.is ∙ ap (λ (v : Working). beginning v.reader) (sym is.is), ap (λ (v : Working). v.reader.given) is.is, ap (λ (v : Working). v.reader.shape) is.is ∙ ap (λ (p : Plan). shape_of p.spec.streams s most_rows) (sym same));
}

module _ (d : DrillCommand) (plan : Plan) (kept0 kept1 : Keeping) (w0 w1 v0 v1 : Working) (out0 trace0 out1 trace1 : SinkState) where
  abbrev lent : List Working
  lent = w0 ∷ w1 ∷ []

  abbrev last : List Working
  last = v0 ∷ v1 ∷ []

  abbrev olds : List Supply
  olds = map supply_of lent

  abbrev news : List Supply
  news = map supply_of last

  abbrev first : World
  first = world kept0 olds out0 trace0

  abbrev final : World
  final = world kept1 news out1 trace1

  abbrev ends : List (Option worker.SourceEnd)
  ends = ends_of last

  module _ (is_plan : IsPlanOf drill_text plan) (accepted_plan : IsAccepted plan) (one_model : HasItsModels plan) (setting : setting_in kept0 ≡ drill_setting plan)
      (new0 : IsDrillWorker plan d 0 w0) (new1 : IsDrillWorker plan d 1 w1) (still0 : v0.reader.source.count ≡ 0) (still1 : v1.reader.source.count ≡ 0) where
    none0 : w0.reader.source.count ≡ 0
    none0 = new_count plan d 0 w0 new0

    none1 : w1.reader.source.count ≡ 0
    none1 = new_count plan d 1 w1 new1

    -- the rows of a source that has not failed are all of its list's
    list_is : (s : ℕ) (w v : Working) (rows : List Row) → to_come w ≡ Some (drill_rows plan d s) → IsListOf (supply_of w) (supply_of v) rows → (v.end ≡ Some finish.ReadFailed → ⊥) → rows ≡ (drill_rows plan d s).rows
    list_is s w v rows rest are sound = sym ((are (drill_rows plan d s) rest).1 sound)

    in_turns : (journal : List Entry) → GoInRounds olds news journal → AreFirst ((drill_rows plan d 0).rows ∷ (drill_rows plan d 1).rows ∷ []) journal
    in_turns journal rounds =
        let same = two_lists rounds.lists (drill_rows plan d 0).rows (drill_rows plan d 1).rows rounds.many
        (λ rows at. list_is 0 w0 v0 rows (new_rows plan d 0 w0 new0) (rounds.are 0 (supply_of w0) (supply_of v0) rows refl refl at)
        (λ bad. not_risen w0.reader.source.count v0.reader.source.count none0 still0 (rounds.failed 0 (supply_of w0) (supply_of v0) refl refl bad)))
        (λ rows at. list_is 1 w1 v1 rows (new_rows plan d 1 w1 new1) (rounds.are 1 (supply_of w1) (supply_of v1) rows refl refl at)
        (λ bad. not_risen w1.reader.source.count v1.reader.source.count none1 still1 (rounds.failed 1 (supply_of w1) (supply_of v1) refl refl bad))) in
        subst (λ (lists : List (List Row)). AreFirst lists journal) same rounds.first

    abbrev run_of : CameBehind true [] first final → DrillRun d
    run_of came = record {
      plan = plan;
      is_plan = is_plan;
      accepted = accepted_plan;
      one_model = one_model;
      journal = came.journal;
      legal = subst (λ (s : Setting). IsLegal s.start came.journal) setting came.legal;
      sources = came.sources;
      turns = in_turns came.journal (came.rounds refl);
    }

    module _ (journal : List Entry) (fed : AreFed olds news journal) where
      abbrev fed0 : HasEnded v0.end (supply_of w0) (supply_of v0) (rows_of 0 journal)
      fed0 = (fed.each 0 (supply_of w0) (supply_of v0) refl refl).end

      abbrev fed1 : HasEnded v1.end (supply_of w1) (supply_of v1) (rows_of 1 journal)
      fed1 = (fed.each 1 (supply_of w1) (supply_of v1) refl refl).end

      none_failed : first_failed ends ≡ None
      none_failed = neither_failed v0.end v1.end (no_failed_read v0.end (supply_of w0) (supply_of v0) (rows_of 0 journal) none0 still0 fed0) (no_failed_read v1.end (supply_of w1) (supply_of v1) (rows_of 1 journal) none1 still1 fed1)

      module _ (ended : HaveEnded news) where
        rows0 : drill_rows plan d 0 ≡ record { rows = rows_of 0 journal; end = source_end v0.end }
        rows0 = read_whole v0.end (supply_of w0) (supply_of v0) (rows_of 0 journal) (ended 0 (supply_of v0) refl) none0 still0 fed0 (drill_rows plan d 0) (new_rows plan d 0 w0 new0)

        rows1 : drill_rows plan d 1 ≡ record { rows = rows_of 1 journal; end = source_end v1.end }
        rows1 = read_whole v1.end (supply_of w1) (supply_of v1) (rows_of 1 journal) (ended 1 (supply_of v1) refl) none1 still1 fed1 (drill_rows plan d 1) (new_rows plan d 1 w1 new1)

        all_rows : (s : ℕ) → s < 2 → (drill_rows plan d s).rows ≡ rows_of s journal
        all_rows = of_two (λ s. (drill_rows plan d s).rows ≡ rows_of s journal) (ap (λ (r : SourceRows). r.rows) rows0) (ap (λ (r : SourceRows). r.rows) rows1)

        ends_are : (drill_rows plan d 0).end ∷ (drill_rows plan d 1).end ∷ [] ≡ map source_end ends
        ends_are =
            ap (λ (r : SourceRows). r.end ∷ (drill_rows plan d 1).end ∷ []) rows0
            ∙ ap (λ (r : SourceRows). source_end v0.end ∷ r.end ∷ []) rows1

        module _ (well : first_malformed (map source_end ends) ≡ None) where
          all_whole : (s : ℕ) → s < 2 → drill_rows plan d s ≡ record { rows = rows_of s journal; end = Whole }
          all_whole = of_two (λ s. drill_rows plan d s ≡ record { rows = rows_of s journal; end = Whole })
              (rows0 ∙ ap (led (rows_of 0 journal)) (none_malformed (map source_end ends) well 0 (source_end v0.end) refl))
              (rows1 ∙ ap (led (rows_of 1 journal)) (none_malformed (map source_end ends) well 1 (source_end v1.end) refl))
            where
              led : List Row → SourceEnd → SourceRows
              led rows end = record { rows = rows; end = end }

    -- the counts of the last line
    done_is : (w : ThroughWellBehind true [] first final) → Done kept1.accepted kept1.late kept1.state.steps kept1.state.lines ≡ done_line (setting_in kept0) w.through.came.journal
    done_is w = done_counts (setting_in kept0) [] w.through.came.journal kept1 w.accepted w.late w.steps w.lines ∙ done_first (setting_in kept0) w.through.came.journal

    by_ends : (m : Option MalformedSource) → first_malformed (map source_end ends) ≡ m → ThroughWellBehind true [] first final → DrillsTo (line_of (malformed_by m) kept1) d
    by_ends None well w = record {
      run = run_of w.through.came;
      rows = all_whole w.through.came.journal w.fed w.ended well;
      no_fault = subst (λ (s : Setting). fault_in s w.through.came.journal ≡ None) setting w.no_fault;
      line_is = done_is w ∙ ap (λ (s : Setting). done_line s w.through.came.journal) setting;
    }
    by_ends (Some m) least w = record {
      run = run_of w.through.came;
      rows = all_rows w.through.came.journal w.fed w.ended;
      at = m;
      least = ap first_malformed (ends_are w.through.came.journal w.fed w.ended) ∙ least;
      no_fault = subst (λ (s : Setting). fault_in s w.through.came.journal ≡ None) setting w.no_fault;
      line_is = refl;
    }

    -- where a fault stands
    placed : (fault : RunFault) (came : CameBehind true [] first final) → IsRowFaultBehind (setting_in kept0) [] came.journal fault ⊎ behind.IsAtDeadlineBehind [] came.journal first final
        → IsRowFault (drill_setting plan) came.journal fault ⊎ IsAtDrillDeadline d (run_of came)
    placed fault came (inl at) = inl (subst (λ (s : Setting). IsRowFault s came.journal fault) setting (row_fault_first (setting_in kept0) came.journal fault at))
    placed fault came (inr at) = inr (record { settled = subst (λ (s : Setting). settled_fault_in s came.journal ≡ None) setting at.settled; rows = all_rows came.journal at.fed at.ended })

    abbrev faulty : (fault : RunFault) → EndedByFaultBehind true [] fault first final → IsDrillFault d (fault_line plan fault)
    faulty fault e = record {
      run = run_of e.through.came;
      fault = fault;
      is_fault = subst (λ (s : Setting). fault_in s e.through.came.journal ≡ Some fault) setting e.is_fault;
      stands = placed fault e.through.came e.place;
      line_is = refl;
    }

    line_same : (a b : EndLine) → Line a ≡ Line b → a ≡ b
    line_same a b e = cc

    ends_with : (how : Result (Unit {0}) Stop) (line : EndLine) → OutcomeAfter how (end_of ends) plan kept1 (Line line) → EndsBehind true [] how first final → DrillsTo line d
    ends_with (Ok done) line is ran =
        let whole : end_of ends ≡ malformed_by (first_malformed (map source_end ends)) = ap (λ f. end_by f (first_malformed (map source_end ends))) (none_failed ran.through.came.journal ran.fed) in
        subst (λ l. DrillsTo l d) (sym (line_same line (line_of (malformed_by (first_malformed (map source_end ends))) kept1) (is ∙ ap (λ e. Line (line_of e kept1)) whole)))
        (by_ends (first_malformed (map source_end ends)) refl ran)
    ends_with (Err (stop.Fault stream kind time)) line (inl is) ran =
        let fault : RunFault = record { stream = stream; kind = kind; time = time } in
        subst (λ l. DrillsTo l d) (sym (line_same line (fault_line plan fault) is)) (faulty fault ran)
    ends_with (Err (stop.Fault stream kind time)) line (inr is) ran = absurd (cc)
    ends_with (Err (stop.CutFault stream kind time)) line is ran = absurd (cc)
    ends_with (Err stop.Put) line is ran = absurd (cc)
    ends_with (Err stop.Memory) line is ran = absurd (cc)

-- the same of two lists of workers
pub drills_to : (d : DrillCommand) (plan : Plan) (kept0 kept1 : Keeping) (lent last : List Working) (out0 trace0 out1 trace1 : SinkState) (how : Result (Unit {0}) Stop) (line : EndLine)
    → IsPlanOf drill_text plan → IsAccepted plan → HasItsModels plan → setting_in kept0 ≡ drill_setting plan → AreDrillWorkers plan d lent → length last ≡ length lent
    → All (λ (w : Working). w.reader.source.count ≡ 0) last
    → OutcomeAfter how (end_of (ends_of last)) plan kept1 (Line line)
    → EndsBehind true [] how (world kept0 (map supply_of lent) out0 trace0) (world kept1 (map supply_of last) out1 trace1) → DrillsTo line d
drills_to d plan kept0 kept1 [] last out0 trace0 out1 trace1 how line is_plan accepted_plan one_model setting are many still is ran = absurd (omega (arith, are.many))
drills_to d plan kept0 kept1 (w0 ∷ []) last out0 trace0 out1 trace1 how line is_plan accepted_plan one_model setting are many still is ran = absurd (omega (arith, are.many))
drills_to d plan kept0 kept1 (w0 ∷ w1 ∷ w2 ∷ lent) last out0 trace0 out1 trace1 how line is_plan accepted_plan one_model setting are many still is ran = absurd (omega (arith, are.many))
drills_to d plan kept0 kept1 (w0 ∷ w1 ∷ []) [] out0 trace0 out1 trace1 how line is_plan accepted_plan one_model setting are many still is ran = absurd (omega (arith, many))
drills_to d plan kept0 kept1 (w0 ∷ w1 ∷ []) (v0 ∷ []) out0 trace0 out1 trace1 how line is_plan accepted_plan one_model setting are many still is ran = absurd (omega (arith, many))
drills_to d plan kept0 kept1 (w0 ∷ w1 ∷ []) (v0 ∷ v1 ∷ v2 ∷ last) out0 trace0 out1 trace1 how line is_plan accepted_plan one_model setting are many still is ran = absurd (omega (arith, many))
drills_to d plan kept0 kept1 (w0 ∷ w1 ∷ []) (v0 ∷ v1 ∷ []) out0 trace0 out1 trace1 how line is_plan accepted_plan one_model setting are many still is ran =
    let P : Working → Type 0 = λ w. w.reader.source.count ≡ 0 in
    ends_with d plan kept0 kept1 w0 w1 v0 v1 out0 trace0 out1 trace1 is_plan accepted_plan one_model setting (are.each 0 w0 refl) (are.each 1 w1 refl)
    (All-head P v0 (v1 ∷ []) still) (All-head P v1 [] (All-tail P v0 (v1 ∷ []) still)) how line is ran

as_many : (lent last : List Working) → AreInPlace lent last → length last ≡ length lent
as_many lent last places = sym (length-map last (λ (w : Working). w.reader.source.place)) ∙ ap length places ∙ length-map lent (λ (w : Working). w.reader.source.place)

pub few_workers : (plan : Plan) (d : DrillCommand) (lent last shown : List Working) → AreDrillWorkers plan d lent → AreInPlace lent last → shown ≡ last → length shown ≤ 64
few_workers plan d lent last shown are places same = omega (arith, ap length same, as_many lent last places, are.many)

-- the same of what was shown of the workers and of the run
pub drilled : (d : DrillCommand) (plan : Plan) (kept0 kept1 : Keeping) (lent last shown : List Working) (how : Result (Unit {0}) Stop) (end : SourcesEnd) (line : EndLine)
    → IsPlanOf drill_text plan → IsAccepted plan → HasItsModels plan → setting_in kept0 ≡ drill_setting plan → AreDrillWorkers plan d lent → AreInPlace lent last
    → All (λ (w : Working). w.reader.source.count ≡ 0) last → shown ≡ last → end ≡ end_of (ends_of shown) → kept1.state.plan ≡ kept0.state.plan
    → OutcomeAfter how end kept1.state.plan kept1 (Line line)
    → EndsBehind true [] how (world kept0 (map supply_of lent) nowhere nowhere) (world kept1 (map supply_of last) nowhere nowhere) → DrillsTo line d
drilled d plan kept0 kept1 lent last shown how end line is_plan accepted_plan one_model setting are places still same ends plans is ran =
    let ends_are : end ≡ end_of (ends_of last) = ends ∙ ap (λ (ws : List Working). end_of (ends_of ws)) same in
    let plan_is : kept1.state.plan ≡ plan = plans ∙ ap (λ (s : Setting). s.plan) setting in
    drills_to d plan kept0 kept1 lent last nowhere nowhere nowhere nowhere how line is_plan accepted_plan one_model setting are (as_many lent last places) still
    (subst (λ (p : Plan). OutcomeAfter how (end_of (ends_of last)) p kept1 (Line line)) plan_is (subst (λ (e : SourcesEnd). OutcomeAfter how e kept1.state.plan kept1 (Line line)) ends_are is))
    ran
