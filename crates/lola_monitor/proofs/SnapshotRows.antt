-- The rows of a snapshot's sources, which were lent and came back.
use Rattle.std.proofs.Common.{◌≡◌, ℕ, List, [], ◌∷◌, ◌++◌, Option, None, Some, Result, Ok, Err, map, take, refl, sym, ap, ◌∙◌, ◌<◌, ◌≤◌, inl, inr, subst, length, true, append-nil, arith}
use Rattle.std.specs.Prelude.{OnOk}
use Rattle.std.proofs.lemmas.List.{length-map}
use Rattle.std.proofs.lemmas.List.Elements.{All-nil}
use Rattle.lola_port.specs.Asks.{failed_ask, given_ask}
use Rattle.lola_port.specs.States.{Rose, ShelfState}
use Rattle.lola_port.specs.declared.traits.Ask.{Ask}
use Rattle.lola_model.specs.Faults.{RunFault}
use Rattle.lola_model.specs.Journal.{IsLegal}
use Rattle.lola_model.specs.declared.journal.Entry.{Entry}
use Rattle.lola_rows.specs.Reading.{Shape}
use Rattle.lola_feed.specs.Feeding.{Working}
use Rattle.lola_feed.specs.Lending.{AreRooms, Fetches, HasReturned, IsLent, IsNotGiven, asks_of, counts_of, places_of}
use Rattle.lola_feed.specs.declared.sources.FetchStop.{FetchStop}
use Rattle.lola_feed.specs.declared.sources.FetchStop.TheVariants as fetch
use Rattle.lola_report.specs.declared.end.EndLine.TheVariants.{UnreadableSource}
use Rattle.lola_save.specs.declared.end.StateEnd.TheVariants as state_end
use Rattle.lola_save_text.specs.JournalStates.{state_of}
use Rattle.lola_save_text.specs.Fitting.{most_steps}
use Rattle.lola_save_text.specs.Lines.{state_text}
use Rattle.lola_monitor_run.specs.Behind.{CameBehind, IsBehind, RanToEndBehind, RanToFailedPutBehind, RunsBehind}
use Rattle.lola_monitor_run.specs.Feeds.{AreFed, HaveBegun, Supply, World, supply_of, world}
use Rattle.lola_monitor_run.specs.Running.{IsGoing, IsSetAs, Keeping, setting_in}
use Rattle.lola_monitor_run.specs.Verdicts.{Setting, most_rows, settled_fault_in}
use Rattle.lola_monitor_run.specs.declared.stop.Stop.{Stop}
use Rattle.lola_monitor_run.specs.declared.stop.Stop.TheVariants as stop
use Rattle.lola_monitor.specs.Monitor.{MalformedSource, Outside, fault_line, first_failed_ask, first_malformed, outside, source_rows}
use Rattle.lola_monitor.specs.Outcomes.{Grew, end_by, end_of, ends_of, first_failed, source_end, unfetched}
use Rattle.lola_monitor.specs.SnapshotOutcomes.{CutRows, EndsAfter, LongRows, RowsEnded, RowsTaken, RunsRows, SavedRows, SavesState, StandingRows, StopsRows, TookRows, nowhere, steps_of}
use Rattle.lola_monitor.specs.declared.ending.SourcesEnd.{SourcesEnd}
use Rattle.lola_monitor.specs.declared.ending.SourcesEnd.TheVariants as sources_end
use Rattle.lola_monitor.specs.declared.call_end.CallEnd.{CallEnd}
use Rattle.lola_monitor.specs.declared.call_end.CallEnd.TheVariants.{Line, Drilled, Report, Replayed, Stated, CutFault, Put, Memory}
use Rattle.lola_monitor.proofs.Calls.{between, grew_all}
use Rattle.lola_monitor.proofs.FailedAsks.{ask_not_given, first_not_given, front_asked, given_at, names_counted}
use Rattle.lola_monitor.proofs.Lent.{AreFresh, all_end, all_home, all_read, all_whole, as_many, came_home, first_is_failed, grew_lent, grew_unfetched, lent_fresh, run_is}
use Rattle.lola_monitor.proofs.Listed.{get_beside}
use Rattle.lola_monitor.proofs.SavingStates.{near_most}
use Rattle.lola_monitor.proofs.Working.{no_turns}

-- a count that stands has not risen
pub still : Rose 0 0 → ⊥
still rose = omega (arith, rose)

-- what was taken of sources was at their front
begun_fed : (olds news : List Supply) (journal : List Entry) → AreFed olds news journal → HaveBegun olds journal
begun_fed olds news journal fed s old is = let new = get_beside olds news s old fed.many is in (fed.each s old new.0 is new.1).began

module _ (front : List Entry) (names : List (List ℕ)) (before after : ShelfState) (kept0 kept1 : Keeping) (lent last : List Working) where
  abbrev here : Outside
  here = outside before nowhere nowhere

  abbrev there : Outside
  there = outside after nowhere nowhere

  abbrev first : World
  first = world kept0 (map supply_of lent) nowhere nowhere

  abbrev final : World
  final = world kept1 (map supply_of last) nowhere nowhere

  abbrev s : Setting
  s = setting_in kept0

  abbrev asks : List Ask
  asks = asks_of names (counts_of last)

  module _ (fresh : AreFresh (setting_in kept0).plan before.told names lent) (many : length last ≡ length lent) (returned : HasReturned names (counts_of last) before after) where
    many_counts : length (counts_of last) ≡ length names
    many_counts = length-map last (λ (w : Working). w.reader.source.count) ∙ (many ∙ fresh.many)

    abbrev grew : Grew names before after
    grew = grew_all names before after asks returned.asks (names_counted names (counts_of last) many_counts) returned.out

    abbrev taken : (came : CameBehind true front first final) → HaveBegun (map supply_of lent) came.journal → RowsTaken front s names before after
    taken came begun = record {
      run = run_is front true names here there kept0 kept1 lent last fresh many returned came begun;
      asks = asks;
      home = came_home front true names here there kept0 kept1 lent last fresh many returned;
    }

    module _ (r : RanToEndBehind true front first final) where
      begun : HaveBegun (map supply_of lent) r.came.journal
      begun = begun_fed (map supply_of lent) (map supply_of last) r.came.journal r.fed

      no_fault : settled_fault_in s (front ++ r.came.journal) ≡ None
      no_fault = subst (λ (t : Setting). settled_fault_in t (front ++ r.came.journal) ≡ None) r.setting r.stands.engine.fine

      least_is : first_failed_ask asks ≡ first_failed (ends_of last)
      least_is = first_is_failed front true names here there kept0 kept1 lent last fresh many returned r.came.journal r.fed

      abbrev rows_ended : first_failed (ends_of last) ≡ None → RowsEnded front s names before after
      rows_ended none = record {
        taken = taken r.came begun;
        all = all_home front true names here there kept0 kept1 lent last fresh many returned (least_is ∙ none);
        no_fault = no_fault;
      }

      cut_rows : (at : ℕ) → first_failed (ends_of last) ≡ Some at → CutRows (UnreadableSource at) front s names before after
      cut_rows at failed =
          let home = came_home front true names here there kept0 kept1 lent last fresh many returned in
          let least : first_failed_ask asks ≡ Some at = least_is ∙ failed in
          record {
            run = run_is front true names here there kept0 kept1 lent last fresh many returned r.came begun;
            no_fault = no_fault;
            asked = grew;
            home = inr home;
            at = at;
            least = least;
            rose = home.failed at least;
            unless_given = λ n ask is none. let given = given_at asks n ask is home.given in absurd (cc);
            read = λ were. (home.named, all_read front true names here there kept0 kept1 lent last fresh many returned r.came.journal r.fed r.ended);
            line_is = refl;
          }

      -- by the ends of the sources
      stops_well : (done : Unit {0}) (failed : Option ℕ) (m : Option MalformedSource) → first_failed (ends_of last) ≡ failed → first_malformed (map source_end (ends_of last)) ≡ m
          → StopsRows (Ok done) (end_by failed m) front s kept1 names before after
      stops_well done (Some at) m failed least = cut_rows at failed
      stops_well done None (Some m) failed least = record {
        ended = rows_ended failed;
        ends = map source_end (ends_of last);
        rows = all_end front true names here there kept0 kept1 lent last fresh many returned r.came.journal r.fed r.ended failed;
        at = m;
        least = least;
        line_is = refl;
      }
      stops_well done None None failed least = record {
        whole = record {
          ended = rows_ended failed;
          rows = all_whole front true names here there kept0 kept1 lent last fresh many returned r.came.journal r.fed r.ended failed least;
        };
        stands = r.stands;
      }

    -- no put fails
    not_put : RanToFailedPutBehind true front first final → ⊥
    not_put (inl t) = still t.trace.cut.rose
    not_put (inr r) = still r.out.cut.rose

    stops_rows : (how : Result (Unit {0}) Stop) → RunsBehind true front how first final → StopsRows how (end_of (ends_of last)) front s kept1 names before after
    stops_rows (Ok done) r = stops_well r done (first_failed (ends_of last)) (first_malformed (map source_end (ends_of last))) refl refl
    stops_rows (Err (stop.Fault stream kind time)) r = record {
      taken = taken r.came r.begun;
      fault = record { stream = stream; kind = kind; time = time };
      stands = r.stands;
      line_is = refl;
    }
    stops_rows (Err (stop.CutFault stream kind time)) r = still r.out.rose
    stops_rows (Err stop.Put) r = not_put r
    stops_rows (Err stop.Memory) r = tt

-- sources that were lent
pub took_rows : (names : List (List ℕ)) (rooms : List Shape) (before mid after : ShelfState) (kept0 kept1 : Keeping) (lent last : List Working) (how : Result (Unit {0}) Stop)
    → IsLent names rooms before mid lent → AreRooms kept0.state.plan (length names) most_rows rooms → places_of last ≡ places_of lent → HasReturned names (counts_of last) before after
    → ((front : List Entry) → IsBehind front front kept0 → RunsBehind true front how (world kept0 (map supply_of lent) nowhere nowhere) (world kept1 (map supply_of last) nowhere nowhere))
    → TookRows how (end_of (ends_of last)) kept0 kept1 names before after
took_rows names rooms before mid after kept0 kept1 lent last how is are places returned runs = record {
  asked = grew_lent names rooms before mid after lent last is places returned;
  behind = λ front stands.
      stops_rows front names before after kept0 kept1 lent last (lent_fresh kept0.state.plan names rooms before mid lent is are) (as_many lent last places) returned how (runs front stands);
}

-- ---- sources that were not

module _ (specification : List ℕ) (kept : Keeping) (names : List (List ℕ)) (before after : ShelfState) where
  -- a source was not given: nothing was taken
  not_given_rows : (at : ℕ) (front : List Entry) → IsNotGiven at names before after → IsBehind front front kept → CutRows (UnreadableSource at) front (setting_in kept) names before after
  not_given_rows at front broke stands =
      let asks : List Ask = map given_ask (take at names) ++ failed_ask broke.name ∷ [] in
      let least : first_failed_ask asks ≡ Some at = first_not_given names at broke.name broke.is in
      let same : front ≡ front ++ [] = sym (append-nil front) in
      record {
        run = record {
          journal = [];
          legal = subst (IsLegal kept.state.given_start) same stands.legal;
          sources = All-nil (λ (e : Entry). e.row.source < length names);
          traceable = tt;
          rows = λ n name named bytes told. ((source_rows kept.state.plan n bytes).rows, refl);
          turns = λ asked. no_turns kept.state.plan names before after at (ap first_failed_ask (between before after asks broke.asks) ∙ least);
        };
        no_fault = ap (settled_fault_in (setting_in kept)) (sym same) ∙ stands.engine.fine;
        asked = record { asks = asks; appended = broke.asks; front = front_asked names at broke.name broke.is; home = broke.out };
        home = inl refl;
        at = at;
        least = least;
        rose = broke.rose;
        unless_given = λ n ask is none. refl;
        read = λ were. let given = given_at asks at (failed_ask broke.name) (ask_not_given names at broke.name broke.is) were in absurd (cc);
        line_is = refl;
      }

  -- not all sources were fetched
  pub unfetched_rows : (end : FetchStop) (rooms : List Shape) (workers : List Working) → Fetches (Err end) names rooms before after workers → RunsRows (unfetched end) specification kept names before after
  unfetched_rows (fetch.Failed at) rooms workers broke = record {
    asked = grew_unfetched (fetch.Failed at) names rooms before after workers broke;
    is_end = tt;
    long = tt;
    behind = λ front stands. not_given_rows at front broke stands;
  }
  unfetched_rows fetch.Memory rooms workers stopped = record {
    asked = grew_unfetched fetch.Memory names rooms before after workers stopped;
    is_end = tt;
    long = tt;
    behind = λ front stands. tt;
  }

-- ---- what a snapshot ends with after its rows

module _ (specification : List ℕ) (kept0 kept1 : Keeping) (names : List (List ℕ)) (before after : ShelfState) (same : IsSetAs kept0 kept1) (steps_before : kept1.state.behind ≡ kept0.state.behind) where
  saved_rows : (text : List ℕ) (front : List Entry) → StandingRows front (setting_in kept0) kept1 names before after → SavesState (Report text) specification kept1 → SavedRows text specification front (setting_in kept0) names before after
  saved_rows text front w saves =
      let journal : List Entry = front ++ w.whole.ended.taken.run.journal in
      let e = saves.1 front journal w.stands in
      record {
        whole = w.whole;
        few = subst (λ (t : Setting). steps_of t journal ≤ most_steps) same e.0;
        text_is = subst (λ (t : Setting). text ≡ state_text specification t.plan (state_of t.plan t.start journal)) same e.1;
      }

  long_rows : (front : List Entry) → StandingRows front (setting_in kept0) kept1 names before after → SavesState (Stated state_end.TooManySteps) specification kept1 → LongRows front (setting_in kept0) names before after
  long_rows front w many =
      let journal : List Entry = front ++ w.whole.ended.taken.run.journal in
      record { whole = w.whole; many = subst (λ (t : Setting). most_steps < steps_of t journal) same (many.1 front journal w.stands) }

  whole_rows : (done : Unit {0}) (outcome : CallEnd) → IsGoing kept1 → TookRows (Ok done) sources_end.Whole kept0 kept1 names before after → SavesState outcome specification kept1 → RunsRows outcome specification kept0 names before after
  whole_rows done (Line line) going took saves = absurd saves
  whole_rows done (Drilled line) going took saves = absurd saves
  whole_rows done (Report text) going took saves = record { asked = took.asked; is_end = tt; long = tt; behind = λ front stands. saved_rows text front (took.behind front stands) saves }
  whole_rows done (Replayed end) going took saves = absurd saves
  whole_rows done (Stated state_end.Unreadable) going took saves = absurd saves
  whole_rows done (Stated (state_end.Damaged line)) going took saves = absurd saves
  whole_rows done (Stated state_end.OtherSpecification) going took saves = absurd saves
  whole_rows done (Stated state_end.TooManySteps) going took saves = record { asked = took.asked; is_end = tt; long = near_most kept0 kept1 going steps_before saves.0; behind = λ front stands. long_rows front (took.behind front stands) saves }
  whole_rows done CutFault going took saves = absurd saves
  whole_rows done Put going took saves = absurd saves
  whole_rows done Memory going took saves = record { asked = took.asked; is_end = tt; long = tt; behind = λ front stands. tt }

  pub ends_rows : (how : Result (Unit {0}) Stop) (end : SourcesEnd) (outcome : CallEnd) → OnOk how (IsGoing kept1) → TookRows how end kept0 kept1 names before after → EndsAfter how end specification kept1 outcome → RunsRows outcome specification kept0 names before after
  ends_rows (Ok done) sources_end.Whole outcome going took saves = whole_rows done outcome going took saves
  ends_rows (Ok done) (sources_end.ReadFailed at) outcome going took is =
      subst (λ o. RunsRows o specification kept0 names before after) (sym is) (record { asked = took.asked; is_end = tt; long = tt; behind = took.behind })
  ends_rows (Ok done) (sources_end.Malformed source row kind) outcome going took is =
      subst (λ o. RunsRows o specification kept0 names before after) (sym is) (record { asked = took.asked; is_end = tt; long = tt; behind = took.behind })
  ends_rows (Err (stop.Fault stream kind time)) end outcome going took (inl is) =
      let fault : RunFault = record { stream = stream; kind = kind; time = time } in
      subst (λ o. RunsRows o specification kept0 names before after) (sym (is ∙ ap (λ (t : Setting). Line (fault_line t.plan fault)) same)) (record { asked = took.asked; is_end = tt; long = tt; behind = took.behind })
  ends_rows (Err (stop.Fault stream kind time)) end outcome going took (inr is) =
      subst (λ o. RunsRows o specification kept0 names before after) (sym is) (record { asked = took.asked; is_end = tt; long = tt; behind = λ front stands. tt })
  ends_rows (Err (stop.CutFault stream kind time)) end outcome going took is =
      subst (λ o. RunsRows o specification kept0 names before after) (sym is) (record { asked = took.asked; is_end = tt; long = tt; behind = took.behind })
  ends_rows (Err stop.Put) end outcome going took is = subst (λ o. RunsRows o specification kept0 names before after) (sym is) (record { asked = took.asked; is_end = tt; long = tt; behind = took.behind })
  ends_rows (Err stop.Memory) end outcome going took is = subst (λ o. RunsRows o specification kept0 names before after) (sym is) (record { asked = took.asked; is_end = tt; long = tt; behind = took.behind })
