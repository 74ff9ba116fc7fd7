-- Why the rows of sources ended so, whatever journal the run stood for: how their workers ended, and what was put.
use Rattle.std.proofs.Common.{◌≡◌, ◌⊎◌, ℕ, List, [], ◌∷◌, ◌++◌, Option, None, Some, Result, Ok, Err, map, take, inl, inr, refl, sym, ap, ◌∙◌, subst, length, true}
use Rattle.lola_port.specs.Asks.{failed_ask, given_ask}
use Rattle.lola_port.specs.States.{Rose, ShelfState, SinkState}
use Rattle.lola_port.specs.declared.traits.Ask.{Ask}
use Rattle.lola_model.specs.declared.plan.Plan.{Plan}
use Rattle.lola_model.specs.declared.journal.Entry.{Entry}
use Rattle.lola_rows.specs.Reading.{Shape}
use Rattle.lola_rows.specs.Rows.{SourceEnd, SourceRows}
use Rattle.lola_feed.specs.Feeding.{Working}
use Rattle.lola_feed.specs.Lending.{AreRooms, Fetches, HasReturned, IsLent, asks_of, counts_of, places_of}
use Rattle.lola_feed.specs.declared.sources.FetchStop.{FetchStop}
use Rattle.lola_feed.specs.declared.sources.FetchStop.TheVariants as fetch
use Rattle.lola_report.specs.declared.end.EndLine.TheVariants.{Done, Usage, Refused, Malformed, Fault, UnreadableSpecification, UnreadableSource, Analysed}
use Rattle.lola_save.specs.declared.end.StateEnd.TheVariants as state_end
use Rattle.lola_monitor_run.specs.Feeds.{RunEnds, WereTaken, supply_of, world}
use Rattle.lola_monitor_run.specs.Running.{Keeping, Received}
use Rattle.lola_monitor_run.specs.Verdicts.{most_rows}
use Rattle.lola_monitor_run.specs.declared.stop.Stop.{Stop}
use Rattle.lola_monitor_run.specs.declared.stop.Stop.TheVariants as stop
use Rattle.lola_monitor_run.proofs.Sinks.{grown_nil}
use Rattle.lola_monitor.specs.Causes.{AreWhole, HaveEnds, SourcesCause, SourcesRead, SourcesUnread}
use Rattle.lola_monitor.specs.Monitor.{AllEnd, MalformedSource, Outside, first_failed_ask, first_malformed, outside}
use Rattle.lola_monitor.specs.Outcomes.{AreUntouched, OutcomeAfter, end_by, end_of, ends_of, first_failed, line_of, source_end, unfetched}
use Rattle.lola_monitor.specs.SnapshotOutcomes.{EndsAfter, RowsCause, SavesState, nowhere}
use Rattle.lola_monitor.specs.declared.ending.SourcesEnd.{SourcesEnd}
use Rattle.lola_monitor.specs.declared.ending.SourcesEnd.TheVariants as sources_end
use Rattle.lola_monitor.specs.declared.call_end.CallEnd.{CallEnd}
use Rattle.lola_monitor.specs.declared.call_end.CallEnd.TheVariants.{Line, Drilled, Report, Replayed, Stated, CutFault, Put, Memory}
use Rattle.lola_monitor.proofs.FailedAsks.{first_not_given}
use Rattle.lola_monitor.proofs.Lent.{AreFresh, all_end, all_home, as_many, came_home, first_is_failed, lent_fresh}
use Rattle.lola_monitor.proofs.SnapshotRows.{still}

-- ---- nothing was put

received_nothing : (old new : SinkState) → new ≡ old → Received old new
received_nothing old new same = ([], same ∙ sym (grown_nil old))

pub untouched_whole : (before after : Outside) → AreUntouched before after → AreWhole before after
untouched_whole before after early = record { out = received_nothing before.out after.out early.out; trace = received_nothing before.trace after.trace early.trace }

shelf_alone : (before after : ShelfState) (out trace : SinkState) → AreWhole (outside before out trace) (outside after out trace)
shelf_alone before after out trace = record { out = received_nothing out out refl; trace = received_nothing trace trace refl }

-- ---- sources that were lent, run and given back

-- the ends of sources of which all rows were taken
have_ends : (shelf : ShelfState) (plan : Plan) (names : List (List ℕ)) (journal : List Entry) (ends : List SourceEnd) → AllEnd shelf plan names journal ends → HaveEnds shelf plan names ends
have_ends shelf plan names journal ends all = record { many = all.many; each = λ n name end is at bytes told. ap (λ (r : SourceRows). r.end) (all.each n name end is at bytes told) }

module _ (names : List (List ℕ)) (before after : Outside) (kept0 kept1 : Keeping) (lent last : List Working) where
  abbrev asks : List Ask
  asks = asks_of names (counts_of last)

  module _ (fresh : AreFresh kept0.state.plan before.shelf.told names lent) (many : length last ≡ length lent) (returned : HasReturned names (counts_of last) before.shelf after.shelf) where
    module _ (taken : WereTaken (world kept0 (map supply_of lent) before.out before.trace) (world kept1 (map supply_of last) after.out after.trace)) (whole : AreWhole before after) where
      least_is : first_failed_ask asks ≡ first_failed (ends_of last)
      least_is = first_is_failed [] true names before after kept0 kept1 lent last fresh many returned taken.journal taken.fed

      -- none has failed
      sources_read : first_failed (ends_of last) ≡ None → SourcesRead (map source_end (ends_of last)) kept0.state.plan names before after
      sources_read none = record {
        home = all_home [] true names before after kept0 kept1 lent last fresh many returned (least_is ∙ none);
        ended = have_ends before.shelf kept0.state.plan names taken.journal (map source_end (ends_of last))
            (all_end [] true names before after kept0 kept1 lent last fresh many returned taken.journal taken.fed taken.ended none);
        whole = whole;
      }

      -- some has
      sources_unread : (at : ℕ) → first_failed (ends_of last) ≡ Some at → SourcesUnread (UnreadableSource at) before after
      sources_unread at failed =
          let home = came_home [] true names before after kept0 kept1 lent last fresh many returned in
          let least : first_failed_ask asks ≡ Some at = least_is ∙ failed in
          record { asks = asks; appended = home.appended; at = at; least = least; rose = home.failed at least; whole = whole; line_is = refl }

      by_ends : (failed : Option ℕ) (m : Option MalformedSource) → first_failed (ends_of last) ≡ failed → first_malformed (map source_end (ends_of last)) ≡ m
          → SourcesCause (Line (line_of (end_by failed m) kept1)) kept0.state.plan names before after
      by_ends (Some at) m failed least = sources_unread at failed
      by_ends None (Some m) failed least = record { ends = map source_end (ends_of last); read = sources_read failed; at = m; least = least; line_is = refl }
      by_ends None None failed least = record { ends = map source_end (ends_of last); read = sources_read failed; none = least }

      -- of a run that nothing stopped
      pub well_caused : SourcesCause (Line (line_of (end_of (ends_of last)) kept1)) kept0.state.plan names before after
      well_caused = by_ends (first_failed (ends_of last)) (first_malformed (map source_end (ends_of last))) refl refl

    caused : (how : Result (Unit {0}) Stop) (outcome : CallEnd) → OutcomeAfter how (end_of (ends_of last)) kept1.state.plan kept1 outcome
        → RunEnds how (world kept0 (map supply_of lent) before.out before.trace) (world kept1 (map supply_of last) after.out after.trace) → SourcesCause outcome kept0.state.plan names before after
    caused (Ok done) outcome is e = subst (λ (o : CallEnd). SourcesCause o kept0.state.plan names before after) (sym is) (well_caused e.taken (record { out = e.writes.0; trace = e.writes.1 }))
    caused (Err (stop.Fault stream kind time)) outcome (inl is) e = subst (λ (o : CallEnd). SourcesCause o kept0.state.plan names before after) (sym is) (record { out = e.writes.0; trace = e.writes.1 })
    caused (Err (stop.Fault stream kind time)) outcome (inr is) e = subst (λ (o : CallEnd). SourcesCause o kept0.state.plan names before after) (sym is) tt
    caused (Err (stop.CutFault stream kind time)) outcome is e = subst (λ (o : CallEnd). SourcesCause o kept0.state.plan names before after) (sym is) e.writes
    caused (Err stop.Put) outcome is e = subst (λ (o : CallEnd). SourcesCause o kept0.state.plan names before after) (sym is) e.writes
    caused (Err stop.Memory) outcome is e = subst (λ (o : CallEnd). SourcesCause o kept0.state.plan names before after) (sym is) tt

pub caused_lent : (names : List (List ℕ)) (rooms : List Shape) (before mid after : ShelfState) (out0 trace0 out1 trace1 : SinkState) (kept0 kept1 : Keeping) (lent last : List Working) (how : Result (Unit {0}) Stop) (outcome : CallEnd)
    → IsLent names rooms before mid lent → AreRooms kept0.state.plan (length names) most_rows rooms → places_of last ≡ places_of lent → HasReturned names (counts_of last) before after
    → OutcomeAfter how (end_of (ends_of last)) kept1.state.plan kept1 outcome
    → RunEnds how (world kept0 (map supply_of lent) out0 trace0) (world kept1 (map supply_of last) out1 trace1)
    → SourcesCause outcome kept0.state.plan names (outside before out0 trace0) (outside after out1 trace1)
caused_lent names rooms before mid after out0 trace0 out1 trace1 kept0 kept1 lent last how outcome is are places returned ends ran =
    caused names (outside before out0 trace0) (outside after out1 trace1) kept0 kept1 lent last (lent_fresh kept0.state.plan names rooms before mid lent is are) (as_many lent last places) returned
    how outcome ends ran

-- ---- sources that were not

pub caused_unfetched : (end : FetchStop) (plan : Plan) (names : List (List ℕ)) (rooms : List Shape) (before after : ShelfState) (out trace : SinkState) (workers : List Working) → Fetches (Err end) names rooms before after workers
    → SourcesCause (unfetched end) plan names (outside before out trace) (outside after out trace)
caused_unfetched (fetch.Failed at) plan names rooms before after out trace workers broke = record {
  asks = map given_ask (take at names) ++ failed_ask broke.name ∷ [];
  appended = broke.asks;
  at = at;
  least = first_not_given names at broke.name broke.is;
  rose = broke.rose;
  whole = shelf_alone before after out trace;
  line_is = refl;
}
caused_unfetched fetch.Memory plan names rooms before after out trace workers stopped = tt

-- ---- over sinks that nobody reads, no put to which fails

rows_by_line : (done : Unit {0}) (end : SourcesEnd) (kept : Keeping) (plan : Plan) (names : List (List ℕ)) (before after : ShelfState)
    → SourcesCause (Line (line_of end kept)) plan names (outside before nowhere nowhere) (outside after nowhere nowhere) → RowsCause (Ok done) end plan names before after
rows_by_line done sources_end.Whole kept plan names before after cause = cause
rows_by_line done (sources_end.ReadFailed at) kept plan names before after cause = cause
rows_by_line done (sources_end.Malformed source row kind) kept plan names before after cause = cause

no_put : Rose 0 0 ⊎ Rose 0 0 → ⊥
no_put (inl rose) = still rose
no_put (inr rose) = still rose

-- why rows that were taken ended so
pub caused_rows : (names : List (List ℕ)) (rooms : List Shape) (before mid after : ShelfState) (kept0 kept1 : Keeping) (lent last : List Working) (how : Result (Unit {0}) Stop)
    → IsLent names rooms before mid lent → AreRooms kept0.state.plan (length names) most_rows rooms → places_of last ≡ places_of lent → HasReturned names (counts_of last) before after
    → RunEnds how (world kept0 (map supply_of lent) nowhere nowhere) (world kept1 (map supply_of last) nowhere nowhere) → RowsCause how (end_of (ends_of last)) kept0.state.plan names before after
caused_rows names rooms before mid after kept0 kept1 lent last (Ok done) is are places returned e =
    rows_by_line done (end_of (ends_of last)) kept1 kept0.state.plan names before after
    (well_caused names (outside before nowhere nowhere) (outside after nowhere nowhere) kept0 kept1 lent last (lent_fresh kept0.state.plan names rooms before mid lent is are) (as_many lent last places) returned
    e.taken (shelf_alone before after nowhere nowhere))
caused_rows names rooms before mid after kept0 kept1 lent last (Err (stop.Fault stream kind time)) is are places returned e = tt
caused_rows names rooms before mid after kept0 kept1 lent last (Err (stop.CutFault stream kind time)) is are places returned e = still e.writes.0
caused_rows names rooms before mid after kept0 kept1 lent last (Err stop.Put) is are places returned e = no_put e.writes
caused_rows names rooms before mid after kept0 kept1 lent last (Err stop.Memory) is are places returned e = tt

module _ (specification : List ℕ) (kept : Keeping) (plan : Plan) (names : List (List ℕ)) (before after : ShelfState) where
  -- what a snapshot saves of them
  caused_saved : (done : Unit {0}) (outcome : CallEnd) → RowsCause (Ok done) sources_end.Whole plan names before after → SavesState outcome specification kept
      → SourcesCause outcome plan names (outside before nowhere nowhere) (outside after nowhere nowhere)
  caused_saved done (Line line) cause saves = absurd saves
  caused_saved done (Drilled line) cause saves = absurd saves
  caused_saved done (Report text) cause saves = cause
  caused_saved done (Replayed end) cause saves = absurd saves
  caused_saved done (Stated state_end.Unreadable) cause saves = absurd saves
  caused_saved done (Stated (state_end.Damaged line)) cause saves = absurd saves
  caused_saved done (Stated state_end.OtherSpecification) cause saves = absurd saves
  caused_saved done (Stated state_end.TooManySteps) cause saves = cause
  caused_saved done CutFault cause saves = absurd saves
  caused_saved done Put cause saves = absurd saves
  caused_saved done Memory cause saves = tt

  -- why a snapshot ends so after them
  pub caused_after : (how : Result (Unit {0}) Stop) (end : SourcesEnd) (outcome : CallEnd) → RowsCause how end plan names before after → EndsAfter how end specification kept outcome
      → SourcesCause outcome plan names (outside before nowhere nowhere) (outside after nowhere nowhere)
  caused_after (Ok done) sources_end.Whole outcome cause saves = caused_saved done outcome cause saves
  caused_after (Ok done) (sources_end.ReadFailed at) outcome cause is = subst (λ (o : CallEnd). SourcesCause o plan names (outside before nowhere nowhere) (outside after nowhere nowhere)) (sym is) cause
  caused_after (Ok done) (sources_end.Malformed source row kind) outcome cause is =
      subst (λ (o : CallEnd). SourcesCause o plan names (outside before nowhere nowhere) (outside after nowhere nowhere)) (sym is) cause
  caused_after (Err (stop.Fault stream kind time)) end outcome cause (inl is) =
      subst (λ (o : CallEnd). SourcesCause o plan names (outside before nowhere nowhere) (outside after nowhere nowhere)) (sym is) (shelf_alone before after nowhere nowhere)
  caused_after (Err (stop.Fault stream kind time)) end outcome cause (inr is) =
      subst (λ (o : CallEnd). SourcesCause o plan names (outside before nowhere nowhere) (outside after nowhere nowhere)) (sym is) tt
  caused_after (Err (stop.CutFault stream kind time)) end outcome cause is = absurd cause
  caused_after (Err stop.Put) end outcome cause is = absurd cause
  caused_after (Err stop.Memory) end outcome cause is = subst (λ (o : CallEnd). SourcesCause o plan names (outside before nowhere nowhere) (outside after nowhere nowhere)) (sym is) tt

-- whatever sinks a call has: a snapshot's rows put nothing to either
module _ (plan : Plan) (names : List (List ℕ)) (before after : ShelfState) (out trace : SinkState) where
  read_over : (ends : List SourceEnd) → SourcesRead ends plan names (outside before nowhere nowhere) (outside after nowhere nowhere) → SourcesRead ends plan names (outside before out trace) (outside after out trace)
  read_over ends r = record { home = r.home; ended = r.ended; whole = shelf_alone before after out trace }

  pub caused_over : (outcome : CallEnd) → SourcesCause outcome plan names (outside before nowhere nowhere) (outside after nowhere nowhere) → SourcesCause outcome plan names (outside before out trace) (outside after out trace)
  caused_over (Line (Done a l n v)) c = record { ends = c.ends; read = read_over c.ends c.read; none = c.none }
  caused_over (Line (Malformed n row kind)) c = record { ends = c.ends; read = read_over c.ends c.read; at = c.at; least = c.least; line_is = c.line_is }
  caused_over (Line (Fault stream kind time)) c = shelf_alone before after out trace
  caused_over (Line (UnreadableSource n)) c = record { asks = c.asks; appended = c.appended; at = c.at; least = c.least; rose = c.rose; whole = shelf_alone before after out trace; line_is = c.line_is }
  caused_over (Line Usage) c = shelf_alone before after out trace
  caused_over (Line (Refused r)) c = shelf_alone before after out trace
  caused_over (Line UnreadableSpecification) c = shelf_alone before after out trace
  caused_over (Line (Analysed n w)) c = shelf_alone before after out trace
  caused_over (Drilled line) c = shelf_alone before after out trace
  caused_over (Report text) c = record { ends = c.ends; read = read_over c.ends c.read; none = c.none }
  caused_over (Replayed end) c = shelf_alone before after out trace
  caused_over (Stated state_end.Unreadable) c = shelf_alone before after out trace
  caused_over (Stated (state_end.Damaged line)) c = shelf_alone before after out trace
  caused_over (Stated state_end.OtherSpecification) c = shelf_alone before after out trace
  caused_over (Stated state_end.TooManySteps) c = record { ends = c.ends; read = read_over c.ends c.read; none = c.none }
  caused_over CutFault c = absurd (still c.0)
  caused_over Put c = absurd (no_put c)
  caused_over Memory c = tt
