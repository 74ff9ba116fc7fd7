-- A run of sources that were fetched and came back.
use Rattle.std.proofs.Common.{◌≡◌, ℕ, ◌+◌, ◌-◌, ◌≤◌, ◌⊎◌, List, [], ◌∷◌, ◌++◌, Option, None, Some, Result, Ok, Err, IsSome, Bool, nat_lt, slice_get, map, take, drop, refl, sym, ap, ◌∙◌, inl, inr, subst, length, true, false, arith}
use Rattle.std.proofs.lemmas.Bool.Decides.{nat_tests}
use Rattle.std.proofs.lemmas.List.{length-map, take-append-drop}
use Rattle.std.proofs.lemmas.Option.{slice_get_within}
use Rattle.lola_port.specs.States.{Rose, ShelfState, SinkState, SourceState}
use Rattle.lola_port.specs.Asks.{failed_ask, given_ask}
use Rattle.lola_port.specs.declared.traits.Ask.{Ask}
use Rattle.lola_model.specs.Journal.{accepted, rows_of}
use Rattle.lola_model.specs.Faults.{RunFault}
use Rattle.lola_model.specs.declared.plan.Plan.{Plan}
use Rattle.lola_model.specs.declared.journal.Entry.{Entry}
use Rattle.lola_model.specs.declared.journal.Row.{Row}
use Rattle.lola_rows.specs.Rows.{SourceEnd, SourceRows, Whole, rows_of_source}
use Rattle.lola_rows.specs.Reading.{Shape, fresh, shape_of}
use Rattle.lola_feed.specs.Feeding.{Working, beginning, to_come}
use Rattle.lola_feed.specs.declared.worker.SourceEnd as worker
use Rattle.lola_feed.specs.declared.worker.SourceEnd.TheVariants as finish
use Rattle.lola_report.specs.declared.end.EndLine.TheVariants.{Done, UnreadableSource}
use Rattle.lola_monitor_run.specs.Verdicts.{AreOfSources, Setting, most_rows}
use Rattle.lola_monitor_run.specs.Running.{Keeping, setting_in}
use Rattle.lola_monitor_run.specs.declared.stop.Stop.{Stop}
use Rattle.lola_monitor_run.specs.declared.stop.Stop.TheVariants as stop
use Rattle.lola_monitor_run.specs.Behind as behind
use Rattle.lola_monitor_run.specs.Behind.{CameBehind, EndedByCutFaultBehind, EndedByFaultBehind, EndsBehind, IsRowFaultBehind, RanOutOfMemoryBehind, RanToFailedPutBehind, ThroughBehind, ThroughCutBehind, ThroughWellBehind}
use Rattle.lola_monitor_run.specs.Feeds.{AreFed, AreReady, BeganWith, EndedWith, GoInRounds, HasEnded, HaveBegun, HaveEnded, IsFed, Supply, World, supply_of, world}
use Rattle.lola_feed.specs.Lending as shelves
use Rattle.lola_feed.specs.Lending.{AreRooms, Fetches, HasReturned, IsLent, IsNotGiven, asks_of, counts_of, places_of}
use Rattle.lola_feed.specs.declared.sources.FetchStop.{FetchStop}
use Rattle.lola_feed.specs.declared.sources.FetchStop.TheVariants as fetch
use Rattle.lola_monitor.specs.Causes.{AllHome}
use Rattle.lola_monitor.specs.Monitor.{AllBegin, AllEnd, AllRead, Begins, Ends, GoInTurns, MalformedSource, Outside, asks_between, fault_line, first_failed_ask, first_malformed, is_failed_ask, outside, source_rows}
use Rattle.lola_monitor.specs.Pasts.{done_line_behind}
use Rattle.lola_monitor.specs.Outcomes.{ArePutBehind, BrokenRun, CameHome, CutFaultRun, CutRun, EndedRun, EndsSources, FaultRun, Grew, IsAtDeadlineBehind, NotBegunRun, NotGivenRun, OutcomeAfter, RunsSources, SourcesRun, TakesSources, UnfinishedRun, end_by, end_of, ends_of, first_failed, line_of, source_end, unfetched}
use Rattle.lola_monitor.specs.declared.ending.SourcesEnd.{SourcesEnd}
use Rattle.lola_monitor.specs.declared.ending.SourcesEnd.TheVariants as sources_end
use Rattle.lola_monitor.specs.declared.call_end.CallEnd.{CallEnd}
use Rattle.lola_monitor.specs.declared.call_end.CallEnd.TheVariants.{Line, Memory}
use Rattle.lola_monitor.proofs.Calls.{between, grew_all, names_given}
use Rattle.lola_monitor.proofs.DoneLines.{done_counts}
use Rattle.lola_monitor.proofs.FailedAsks.{Fits, all_counted, ask_not_given, counted, first_is, first_not_given, front_asked, get_counted, names_counted, none_counted, none_failed, none_failed_ask, none_malformed, plainly_given, some_counted}
use Rattle.lola_monitor.proofs.Listed.{get_beside, get_image, image_get}

-- the rows of a told source are those to come
abbrev pub IsOfSource : Plan → Option (List ℕ) → ℕ → Option SourceRows → Type 0
IsOfSource plan told n rest = (bytes : List ℕ) → told ≡ Some bytes → rest ≡ Some (source_rows plan n bytes)

-- sources of names before their first turn
pub record AreFresh (plan : Plan) (told : List ℕ → Option (List ℕ)) (names : List (List ℕ)) (lent : List Working) : Type 0 where
  pub many : length lent ≡ length names
  pub count : (n : ℕ) (name : List ℕ) (w : Working) → slice_get names n ≡ Some name → slice_get lent n ≡ Some w → w.reader.source.count ≡ 0
  pub rest : (n : ℕ) (name : List ℕ) (w : Working) → slice_get names n ≡ Some name → slice_get lent n ≡ Some w → IsOfSource plan (told name) n (to_come w)

-- how a source's count goes with its end
fits : (end : Option worker.SourceEnd) (old new : Supply) (rows : List Row) → old.count ≡ 0 → HasEnded end old new rows → Fits end new.count
fits None old new rows none ended = ended.2 ∙ none
fits (Some finish.End) old new rows none ended = ended.1 ∙ none
fits (Some (finish.Malformed kind row)) old new rows none ended = ended.1 ∙ none
fits (Some finish.ReadFailed) old new rows none ended = omega (arith, none, ended)
fits (Some finish.Closed) old new rows none ended = ended
fits (Some finish.Memory) old new rows none ended = ended

-- a source that has ended and not failed was read to its end
read_end : (end : Option worker.SourceEnd) (old new : Supply) (rows : List Row) → IsSome end → Fits end new.count → new.count ≡ 0 → HasEnded end old new rows → EndedWith (source_end end) old.rest rows
read_end None old new rows some fit none ended = let bad : false ≡ true = some in absurd (cc)
read_end (Some finish.End) old new rows some fit none ended = ended.0
read_end (Some (finish.Malformed kind row)) old new rows some fit none ended = ended.0
read_end (Some finish.ReadFailed) old new rows some fit none ended = absurd (omega (arith, fit, none))
read_end (Some finish.Closed) old new rows some fit none ended = absurd ended
read_end (Some finish.Memory) old new rows some fit none ended = absurd ended

-- one that has no failed read has not failed
not_failed : (end : Option worker.SourceEnd) (count : ℕ) → (end ≡ Some finish.ReadFailed → ⊥) → Fits end count → count ≡ 0
not_failed None count none fit = fit
not_failed (Some finish.End) count none fit = fit
not_failed (Some (finish.Malformed kind row)) count none fit = fit
not_failed (Some finish.ReadFailed) count none fit = absurd (none refl)
not_failed (Some finish.Closed) count none fit = absurd fit
not_failed (Some finish.Memory) count none fit = absurd fit

zero_of : (count : ℕ) → nat_lt 0 count ≡ false → count ≡ 0
zero_of count is = grind (arith, nat_tests)

module _ (front : List Entry) (in_turns : Bool) (names : List (List ℕ)) (before after : Outside) (kept0 kept1 : Keeping) (lent last : List Working) where
  abbrev olds : List Supply
  olds = map supply_of lent

  abbrev news : List Supply
  news = map supply_of last

  abbrev first : World
  first = world kept0 olds before.out before.trace

  abbrev final : World
  final = world kept1 news after.out after.trace

  abbrev s : Setting
  s = setting_in kept0

  abbrev counts : List ℕ
  counts = counts_of last

  abbrev asks : List Ask
  asks = asks_of names counts

  module _ (fresh : AreFresh s.plan before.shelf.told names lent) (many : length last ≡ length lent) (returned : HasReturned names counts before.shelf after.shelf) where
    -- ---- source by source

    many_old : length olds ≡ length names
    many_old = length-map lent supply_of ∙ fresh.many

    many_last : length last ≡ length names
    many_last = many ∙ fresh.many

    many_counts : length counts ≡ length names
    many_counts = length-map last (λ (w : Working). w.reader.source.count) ∙ many_last

    old_of : (n : ℕ) (name : List ℕ) → slice_get names n ≡ Some name → (w : Working) × (slice_get lent n ≡ Some w)
    old_of n name is = get_beside names lent n name fresh.many is

    new_of : (n : ℕ) (name : List ℕ) → slice_get names n ≡ Some name → (w : Working) × (slice_get last n ≡ Some w)
    new_of n name is = get_beside names last n name many_last is

    name_of : (n : ℕ) (w : Working) → slice_get last n ≡ Some w → (name : List ℕ) × (slice_get names n ≡ Some name)
    name_of n w is = get_beside last names n w (sym many_last) is

    begins_are : (n : ℕ) (name : List ℕ) (w : Working) (rows : List Row) → slice_get names n ≡ Some name → slice_get lent n ≡ Some w → BeganWith (to_come w) rows → Begins (before.shelf.told name) s.plan n rows
    begins_are n name w rows named is begins bytes told = begins (source_rows s.plan n bytes) (fresh.rest n name w named is bytes told)

    ends_are : (end : SourceEnd) (n : ℕ) (name : List ℕ) (w : Working) (rows : List Row) → slice_get names n ≡ Some name → slice_get lent n ≡ Some w → EndedWith end (to_come w) rows → Ends (before.shelf.told name) s.plan n rows end
    ends_are end n name w rows named is ended bytes told = ended (source_rows s.plan n bytes) (fresh.rest n name w named is bytes told)

    pub of_sources : (journal : List Entry) → AreOfSources (length olds) journal → AreOfSources (length names) journal
    of_sources journal are = subst (λ n. AreOfSources n journal) many_old are

    pub all_begun : (journal : List Entry) → HaveBegun olds journal → AllBegin before.shelf s.plan names journal
    all_begun journal begun n name named = let w = old_of n name named in begins_are n name w.0 (rows_of n journal) named w.1 (begun n (supply_of w.0) (image_get supply_of lent n w.0 w.1))

    -- ---- the asks

    ask_at : (n : ℕ) (name : List ℕ) (w : Working) → slice_get names n ≡ Some name → slice_get last n ≡ Some w → slice_get asks n ≡ Some (counted name w.reader.source.count)
    ask_at n name w named is = get_counted names counts n name w.reader.source.count named (image_get (λ (v : Working). v.reader.source.count) last n w is)

    ask_is : (n : ℕ) (name : List ℕ) (w : Working) (ask : Ask) → slice_get names n ≡ Some name → slice_get last n ≡ Some w → slice_get asks n ≡ Some ask → is_failed_ask ask ≡ nat_lt 0 w.reader.source.count
    ask_is n name w ask named is there = let at = ask_at n name w named is in let same : ask ≡ counted name w.reader.source.count = cc in ap is_failed_ask same

    between_is : asks_between before.shelf after.shelf ≡ asks
    between_is = between before.shelf after.shelf asks returned.asks

    pub came_home : CameHome names asks before.shelf after.shelf
    came_home = record {
      appended = returned.asks;
      named = names_counted names counts many_counts;
      given = all_counted names counts;
      unfailed = λ none. returned.unfailed (none_counted names counts many_counts none);
      failed = λ at some. let r = some_counted names counts at some in returned.failed r.0 r.1 r.2 r.3;
      out = returned.out;
    }

    pub all_home : first_failed_ask asks ≡ None → AllHome names before.shelf after.shelf
    all_home none =
        let zeros = none_counted names counts many_counts none in
        record { asks = returned.asks ∙ ap (λ (a : List Ask). before.shelf.asks ++ a) (plainly_given names counts many_counts zeros); count = returned.unfailed zeros; out = returned.out }

    -- ---- rows in turns

    sound : first_failed_ask asks ≡ None → (n : ℕ) (name : List ℕ) (w : Working) → slice_get names n ≡ Some name → slice_get last n ≡ Some w → w.reader.source.count ≡ 0
    sound none n name w named is = zero_of w.reader.source.count (none_failed_ask asks none n (counted name w.reader.source.count) (ask_at n name w named is))

    pub go_in_turns : (journal : List Entry) → GoInRounds olds news journal → GoInTurns names s.plan before.shelf after.shelf journal
    go_in_turns journal rounds = record {
      lists = rounds.lists;
      many = rounds.many ∙ many_old;
      fronts = λ n name rows named at.
          let w = old_of n name named in
          let v = new_of n name named in
          begins_are n name w.0 rows named w.1 (λ all is. (rounds.are n (supply_of w.0) (supply_of v.0) rows (image_get supply_of lent n w.0 w.1) (image_get supply_of last n v.0 v.1) at all is).0);
      whole = λ none n name rows named at bytes told.
          let w = old_of n name named in
          let v = new_of n name named in
          let old = image_get supply_of lent n w.0 w.1 in
          let new = image_get supply_of last n v.0 v.1 in
          (rounds.are n (supply_of w.0) (supply_of v.0) rows old new at (source_rows s.plan n bytes) (fresh.rest n name w.0 named w.1 bytes told)).1
          (λ bad. not_risen w.0 v.0 (fresh.count n name w.0 named w.1) (sound (sym (ap first_failed_ask between_is) ∙ none) n name v.0 named v.1) (rounds.failed n (supply_of w.0) (supply_of v.0) old new bad));
      first = rounds.first;
    }
      where
        not_risen : (w v : Working) → w.reader.source.count ≡ 0 → v.reader.source.count ≡ 0 → Rose w.reader.source.count v.reader.source.count → ⊥
        not_risen w v none still rose = absurd (omega (arith, none, still, rose))

    module _ (journal : List Entry) (fed : AreFed olds news journal) where
      fed_at : (n : ℕ) (w v : Working) → slice_get lent n ≡ Some w → slice_get last n ≡ Some v → IsFed (supply_of w) (supply_of v) (rows_of n journal)
      fed_at n w v old new = fed.each n (supply_of w) (supply_of v) (image_get supply_of lent n w old) (image_get supply_of last n v new)

      fit_at : (n : ℕ) (v : Working) → slice_get last n ≡ Some v → Fits v.end v.reader.source.count
      fit_at n v new =
          let name = name_of n v new in
          let w = old_of n name.0 name.1 in
          fits v.end (supply_of w.0) (supply_of v) (rows_of n journal) (fresh.count n name.0 w.0 name.1 w.1) (fed_at n w.0 v w.1 new).end

      pub first_is_failed : first_failed_ask asks ≡ first_failed (ends_of last)
      first_is_failed = first_is names last many_last fit_at

      module _ (ended : HaveEnded news) where
        -- a source that has not failed was read to its end
        ended_at : (n : ℕ) (name : List ℕ) (v : Working) → slice_get names n ≡ Some name → slice_get last n ≡ Some v → v.reader.source.count ≡ 0 → Ends (before.shelf.told name) s.plan n (rows_of n journal) (source_end v.end)
        ended_at n name v named new none =
            let w = old_of n name named in
            ends_are (source_end v.end) n name w.0 (rows_of n journal) named w.1
            (read_end v.end (supply_of w.0) (supply_of v) (rows_of n journal) (ended n (supply_of v) (image_get supply_of last n v new)) (fit_at n v new) none (fed_at n w.0 v w.1 new).end)

        pub all_read : AllRead before.shelf s.plan names asks journal
        all_read n name ask named there not_failed_ask =
            let v = new_of n name named in
            (source_end v.0.end, ended_at n name v.0 named v.1 (zero_of v.0.reader.source.count (sym (ask_is n name v.0 ask named v.1 there) ∙ not_failed_ask)))

        -- where none has failed, all were
        pub all_end : first_failed (ends_of last) ≡ None → AllEnd before.shelf s.plan names journal (map source_end (ends_of last))
        all_end none = record {
          many = length-map (ends_of last) source_end ∙ length-map last (λ (w : Working). w.end) ∙ many_last;
          each = λ n name end named at.
              let e = get_image source_end (ends_of last) n end at in
              let v = get_image (λ (w : Working). w.end) last n e.0 e.1 in
              let same : source_end v.0.end ≡ end = sym (e.2 ∙ ap source_end v.2) in
              subst (λ x. Ends (before.shelf.told name) s.plan n (rows_of n journal) x) same
              (ended_at n name v.0 named v.1 (not_failed v.0.end v.0.reader.source.count (λ bad. none_failed (ends_of last) none n e.0 e.1 (v.2 ∙ bad)) (fit_at n v.0 v.1)));
        }

        pub all_whole : first_failed (ends_of last) ≡ None → first_malformed (map source_end (ends_of last)) ≡ None
            → (n : ℕ) (name : List ℕ) → slice_get names n ≡ Some name → Ends (before.shelf.told name) s.plan n (rows_of n journal) Whole
        all_whole none well n name named =
            let v = new_of n name named in
            let at = image_get source_end (ends_of last) n v.0.end (image_get (λ (w : Working). w.end) last n v.0 v.1) in
            subst (λ x. Ends (before.shelf.told name) s.plan n (rows_of n journal) x) (none_malformed (map source_end (ends_of last)) well n (source_end v.0.end) at) ((all_end none).each n name (source_end v.0.end) named at)

    -- ---- how a run ends

    abbrev pub run_is : (came : CameBehind in_turns front first final) → HaveBegun olds came.journal → SourcesRun front in_turns s names before.shelf after.shelf
    run_is came begun = record {
      journal = came.journal;
      legal = came.legal;
      sources = of_sources came.journal came.sources;
      traceable = came.traceable;
      rows = all_begun came.journal begun;
      turns = λ asked. go_in_turns came.journal (came.rounds asked);
    }

    abbrev run_through : ThroughBehind in_turns front first final → SourcesRun front in_turns s names before.shelf after.shelf
    run_through through = run_is through.came through.begun

    put_is : (through : ThroughBehind in_turns front first final) → ArePutBehind front s before after through.came.journal
    put_is through = record { trace = through.trace; out = through.out }

    -- the counts of the last line
    done_is : (w : ThroughWellBehind in_turns front first final) → Done kept1.accepted kept1.late kept1.state.steps kept1.state.lines ≡ done_line_behind s front w.through.came.journal
    done_is w = done_counts s front w.through.came.journal kept1 w.accepted w.late w.steps w.lines

    none_first : (w : ThroughWellBehind in_turns front first final) → first_failed (ends_of last) ≡ None → first_failed_ask asks ≡ None
    none_first w none = first_is_failed w.through.came.journal w.fed ∙ none

    abbrev ended_run : (w : ThroughWellBehind in_turns front first final) → first_failed (ends_of last) ≡ None → EndedRun front in_turns s names before after
    ended_run w none = record { run = run_through w.through; put = put_is w.through; asks = asks; home = came_home; all = all_home (none_first w none); no_fault = w.no_fault }

    cut_run : (w : ThroughWellBehind in_turns front first final) (at : ℕ) → first_failed (ends_of last) ≡ Some at → CutRun front in_turns (UnreadableSource at) s names before after
    cut_run w at failed = record {
      run = run_through w.through;
      put = put_is w.through;
      no_fault = w.no_fault;
      asks = asks;
      home = came_home;
      at = at;
      least = first_is_failed w.through.came.journal w.fed ∙ failed;
      read = all_read w.through.came.journal w.fed w.ended;
      line_is = refl;
    }

    -- a run without a fault, by its sources' ends
    pub by_ends : (failed : Option ℕ) (m : Option MalformedSource) → first_failed (ends_of last) ≡ failed → first_malformed (map source_end (ends_of last)) ≡ m → ThroughWellBehind in_turns front first final
        → RunsSources front in_turns (Line (line_of (end_by failed m) kept1)) s names before after
    by_ends (Some at) m failed least w = cut_run w at failed
    by_ends None (Some m) failed least w = record {
      ended = ended_run w failed;
      ends = map source_end (ends_of last);
      rows = all_end w.through.came.journal w.fed w.ended failed;
      at = m;
      least = least;
      line_is = refl;
    }
    by_ends None None failed least w = record {
      ended = ended_run w failed;
      rows = all_whole w.through.came.journal w.fed w.ended failed least;
      line_is = done_is w;
    }

    placed : (fault : RunFault) (journal : List Entry) → IsRowFaultBehind s front journal fault ⊎ behind.IsAtDeadlineBehind front journal first final
        → IsRowFaultBehind s front journal fault ⊎ IsAtDeadlineBehind front before.shelf s names asks journal
    placed fault journal (inl at) = inl at
    placed fault journal (inr at) = inr (record { settled = at.settled; read = all_read journal at.fed at.ended })

    fault_run : (fault : RunFault) → EndedByFaultBehind in_turns front fault first final → FaultRun front in_turns (fault_line s.plan fault) s names before after
    fault_run fault e = record {
      run = run_through e.through;
      put = put_is e.through;
      asks = asks;
      home = came_home;
      fault = fault;
      is_fault = e.is_fault;
      stands = placed fault e.through.came.journal e.place;
      line_is = refl;
    }

    cut_fault_run : (fault : RunFault) → EndedByCutFaultBehind in_turns front fault first final → CutFaultRun front in_turns s names before after
    cut_fault_run fault e = record {
      run = run_is e.came e.begun;
      asks = asks;
      home = came_home;
      fault = fault;
      is_fault = e.is_fault;
      stands = e.place;
      trace = e.trace;
      out = e.out;
    }

    -- a failed put ended the run
    broken_run : RanToFailedPutBehind in_turns front first final ⊎ ThroughCutBehind in_turns front first final → BrokenRun front in_turns s names before after
    broken_run (inl (inl t)) = record { run = run_is t.came t.begun; asks = asks; home = came_home; cut = inl (record { no_fault = t.no_fault; trace = t.trace; out = t.out }) }
    broken_run (inl (inr r)) = record { run = run_is r.came r.begun; asks = asks; home = came_home; cut = inr (inl (record { no_fault = r.no_fault; trace = r.trace; out = r.out })) }
    broken_run (inr d) = record {
      run = run_is d.came d.begun;
      asks = asks;
      home = came_home;
      cut = inr (inr (record { no_fault = d.no_fault; read = all_read d.came.journal d.place.fed d.place.ended; trace = d.trace; out = d.out }));
    }

    -- there was no memory, for a row or for the end line of a fault
    out_of_memory : RanOutOfMemoryBehind in_turns front first final → UnfinishedRun front in_turns s names before after
    out_of_memory m = record { run = run_is m.came m.begun; asks = asks; home = came_home; trace = m.trace; out = inl m.out }

    no_line : ThroughBehind in_turns front first final → UnfinishedRun front in_turns s names before after
    no_line through = record { run = run_through through; asks = asks; home = came_home; trace = through.trace; out = inr through.out }

    pub ran_sources : (how : Result (Unit {0}) Stop) (outcome : CallEnd) → OutcomeAfter how (end_of (ends_of last)) s.plan kept1 outcome → EndsBehind in_turns front how first final → RunsSources front in_turns outcome s names before after
    ran_sources (Ok done) outcome is ran =
        subst (λ o. RunsSources front in_turns o s names before after) (sym is) (by_ends (first_failed (ends_of last)) (first_malformed (map source_end (ends_of last))) refl refl ran)
    ran_sources (Err (stop.Fault stream kind time)) outcome (inl is) ran =
        subst (λ o. RunsSources front in_turns o s names before after) (sym is) (fault_run (record { stream = stream; kind = kind; time = time }) ran)
    ran_sources (Err (stop.Fault stream kind time)) outcome (inr is) ran = subst (λ o. RunsSources front in_turns o s names before after) (sym is) (no_line ran.through)
    ran_sources (Err (stop.CutFault stream kind time)) outcome is ran =
        subst (λ o. RunsSources front in_turns o s names before after) (sym is) (cut_fault_run (record { stream = stream; kind = kind; time = time }) ran)
    ran_sources (Err stop.Put) outcome is ran = subst (λ o. RunsSources front in_turns o s names before after) (sym is) (broken_run ran)
    ran_sources (Err stop.Memory) outcome is ran = subst (λ o. RunsSources front in_turns o s names before after) (sym is) (out_of_memory ran)

-- ---- sources that were lent

-- a fresh reader of a told source has all its rows to come
fresh_rows : (plan : Plan) (n : ℕ) (told : Option (List ℕ)) (file : SourceState) → file.left ≡ told → IsOfSource plan told n (to_come (beginning (fresh (shape_of plan.spec.streams n most_rows) file)))
unfolding rows_of_source
fresh_rows plan n told file is bytes known =
    ap (λ (o : Option (List ℕ)). to_come (beginning (fresh (shape_of plan.spec.streams n most_rows) (record file { left = o })))) (is ∙ known)

pub lent_fresh : (plan : Plan) (names : List (List ℕ)) (rooms : List Shape) (before mid : ShelfState) (lent : List Working) → IsLent names rooms before mid lent → AreRooms plan (length names) most_rows rooms → AreFresh plan before.told names lent
lent_fresh plan names rooms before mid lent is are = record {
  many = is.many;
  count = λ n name w named there.
      let l = is.each n name (shape_of plan.spec.streams n most_rows) w named (are.each n (slice_get_within names n name named)) there in
      ap (λ (v : Working). v.reader.source.count) l.is ∙ l.count;
  rest = λ n name w named there bytes told.
      let l = is.each n name (shape_of plan.spec.streams n most_rows) w named (are.each n (slice_get_within names n name named)) there in
      ap to_come l.is ∙ fresh_rows plan n (before.told name) l.file l.left bytes told;
}

-- ---- sources that were not

-- a source was not given
pub not_given : (at : ℕ) (names : List (List ℕ)) (before after : ShelfState) (out trace : SinkState) → IsNotGiven at names before after
    → NotGivenRun (Line (UnreadableSource at)) (outside before out trace) (outside after out trace)
not_given at names before after out trace broke = record {
  at = at;
  outcome_is = refl;
  asks = map given_ask (take at names) ++ failed_ask broke.name ∷ [];
  appended = broke.asks;
  least = first_not_given names at broke.name broke.is;
  ask = failed_ask broke.name;
  is_ask = ask_not_given names at broke.name broke.is;
  not_given = refl;
  rose = broke.rose;
  early = record { trace = refl; out = refl };
}

-- no memory before any source was read
pub not_begun : (before after : ShelfState) (out trace : SinkState) → NotBegunRun Memory (outside before out trace) (outside after out trace)
not_begun before after out trace = record { outcome_is = refl; early = record { trace = refl; out = refl } }

-- not all sources were fetched
pub unfetched_run : (in_turns : Bool) (end : FetchStop) (kept : Keeping) (names : List (List ℕ)) (rooms : List Shape) (before after : ShelfState) (out trace : SinkState) (workers : List Working) → Fetches (Err end) names rooms before after workers
    → TakesSources in_turns (unfetched end) kept names (outside before out trace) (outside after out trace)
unfetched_run in_turns (fetch.Failed at) kept names rooms before after out trace workers fetches = inl (not_given at names before after out trace fetches)
unfetched_run in_turns fetch.Memory kept names rooms before after out trace workers fetches = inr (inl (not_begun before after out trace))

-- the first of the names were asked for
pub grew_unfetched : (end : FetchStop) (names : List (List ℕ)) (rooms : List Shape) (before after : ShelfState) (workers : List Working) → Fetches (Err end) names rooms before after workers → Grew names before after
grew_unfetched (fetch.Failed at) names rooms before after workers broke =
    record { asks = map given_ask (take at names) ++ failed_ask broke.name ∷ []; appended = broke.asks; front = front_asked names at broke.name broke.is; home = broke.out }
grew_unfetched fetch.Memory names rooms before after workers stopped = record {
  asks = map given_ask (take stopped.asked names);
  appended = stopped.asks;
  front = (drop stopped.asked names, sym (ap (λ (l : List (List ℕ)). l ++ drop stopped.asked names) (names_given (take stopped.asked names)) ∙ take-append-drop stopped.asked names));
  home = stopped.out;
}

-- ---- sources that were lent, run and given back

pub as_many : (lent last : List Working) → places_of last ≡ places_of lent → length last ≡ length lent
as_many lent last same = sym (length-map last (λ (w : Working). w.reader.source.place)) ∙ ap length same ∙ length-map lent (λ (w : Working). w.reader.source.place)

pub ran_lent : (front : List Entry) (in_turns : Bool) (names : List (List ℕ)) (rooms : List Shape) (before mid after : ShelfState) (out0 trace0 out1 trace1 : SinkState) (kept0 kept1 : Keeping) (lent last : List Working) (how : Result (Unit {0}) Stop) (outcome : CallEnd)
    → IsLent names rooms before mid lent → AreRooms kept0.state.plan (length names) most_rows rooms → places_of last ≡ places_of lent → HasReturned names (counts_of last) before after
    → kept1.state.plan ≡ kept0.state.plan → OutcomeAfter how (end_of (ends_of last)) kept1.state.plan kept1 outcome
    → EndsBehind in_turns front how (world kept0 (map supply_of lent) out0 trace0) (world kept1 (map supply_of last) out1 trace1)
    → RunsSources front in_turns outcome (setting_in kept0) names (outside before out0 trace0) (outside after out1 trace1)
ran_lent front in_turns names rooms before mid after out0 trace0 out1 trace1 kept0 kept1 lent last how outcome is are places returned same ends ran =
    ran_sources front in_turns names (outside before out0 trace0) (outside after out1 trace1) kept0 kept1 lent last (lent_fresh kept0.state.plan names rooms before mid lent is are) (as_many lent last places) returned
    how outcome (subst (λ (p : Plan). OutcomeAfter how (end_of (ends_of last)) p kept1 outcome) same ends) ran

-- each was asked for
pub grew_lent : (names : List (List ℕ)) (rooms : List Shape) (before mid after : ShelfState) (lent last : List Working) → IsLent names rooms before mid lent → places_of last ≡ places_of lent → HasReturned names (counts_of last) before after → Grew names before after
grew_lent names rooms before mid after lent last is places returned =
    let many : length (counts_of last) ≡ length names = length-map last (λ (w : Working). w.reader.source.count) ∙ (as_many lent last places ∙ is.many) in
    grew_all names before after (asks_of names (counts_of last)) returned.asks (names_counted names (counts_of last) many) returned.out

-- which ends there are
pub ends_sources : (how : Result (Unit {0}) Stop) (end : SourcesEnd) (plan : Plan) (kept : Keeping) (outcome : CallEnd) → OutcomeAfter how end plan kept outcome → EndsSources outcome
ends_sources (Ok done) sources_end.Whole plan kept outcome is = subst EndsSources (sym is) tt
ends_sources (Ok done) (sources_end.ReadFailed at) plan kept outcome is = subst EndsSources (sym is) tt
ends_sources (Ok done) (sources_end.Malformed source row kind) plan kept outcome is = subst EndsSources (sym is) tt
ends_sources (Err (stop.Fault stream kind time)) end plan kept outcome (inl is) = subst EndsSources (sym is) tt
ends_sources (Err (stop.Fault stream kind time)) end plan kept outcome (inr is) = subst EndsSources (sym is) tt
ends_sources (Err (stop.CutFault stream kind time)) end plan kept outcome is = subst EndsSources (sym is) tt
ends_sources (Err stop.Put) end plan kept outcome is = subst EndsSources (sym is) tt
ends_sources (Err stop.Memory) end plan kept outcome is = subst EndsSources (sym is) tt

-- they can be given back
pub still_given : (shelf : List Ask) (lent last : List Working) → places_of last ≡ places_of lent → shelves.AreGiven shelf (places_of lent) → shelves.AreGiven shelf (places_of last)
still_given shelf lent last same given = subst (λ (p : List ℕ). shelves.AreGiven shelf p) (sym same) given

-- ---- sources that were lent, before their first turn

-- a worker that has had no turn is at the beginning of its reader
at_beginning : (w : Working) (shape : Shape) (file : SourceState) → w ≡ beginning (fresh shape file) → (w ≡ beginning w.reader) × (w.reader.given ≡ 0) × (w.reader.shape ≡ shape)
at_beginning w shape file is = (is ∙ ap (λ (v : Working). beginning v.reader) (sym is), ap (λ (v : Working). v.reader.given) is, ap (λ (v : Working). v.reader.shape) is)

pub lent_ready : (plan : Plan) (names : List (List ℕ)) (rooms : List Shape) (before mid : ShelfState) (lent : List Working) → IsLent names rooms before mid lent → AreRooms plan (length names) most_rows rooms
    → 1 ≤ length names → length names ≤ 64 → AreReady plan lent
lent_ready plan names rooms before mid lent is are some few = record {
  many = (omega (arith, some, is.many), omega (arith, few, is.many));
  new = λ n w there.
      let name = get_beside lent names n w (sym is.many) there in
      let l = is.each n name.0 (shape_of plan.spec.streams n most_rows) w name.1 (are.each n (slice_get_within names n name.0 name.1)) there in
      at_beginning w (shape_of plan.spec.streams n most_rows) l.file l.is;
}
