-- What a turn of a source does to a run, and what its turns so far come to.
use Rattle.std.specs.Prelude.{ℕ, suc, ◌≡◌, ◌⊎◌, ◌+◌, ◌<◌, ◌≤◌, Bool, true, false, List, [], ◌∷◌, ◌++◌, Option, Some, None, IsSome, Result, Ok, Err, length, map, slice_get, slice_set}
use Rattle.std.specs.Option.{option_to_list}
use Rattle.lola_port.specs.States.{PutBroke, Rose, grown}
use Rattle.lola_model.specs.Journal.{accepted, rows_of}
use Rattle.lola_model.specs.Faults.{RunFault}
use Rattle.lola_model.specs.Trace.{IsTraceable, trace_line, trace_text}
use Rattle.lola_model.specs.declared.plan.Plan.{Plan}
use Rattle.lola_model.specs.declared.journal.Row.{Row}
use Rattle.lola_model.specs.declared.journal.Entry.{Entry}
use Rattle.lola_rows.specs.Reading.{Keeps}
use Rattle.lola_rows.specs.Rows.{Whole, MalformedAt}
use Rattle.lola_merge.specs.Merging.{take_after}
use Rattle.lola_feed.specs.Feeding.{Turns, Working, finishes_at, offers_at}
use Rattle.lola_feed.specs.declared.worker.SourceEnd as worker
use Rattle.lola_feed.specs.declared.worker.SourceEnd.TheVariants as end
use Rattle.lola_feed.specs.declared.worker.TurnEnd.{TurnEnd}
use Rattle.lola_feed.specs.declared.worker.TurnEnd.TheVariants as turn
use Rattle.lola_monitor_run.specs.Verdicts.{AreOfSources, AreTraceable, late_count, most_rows}
use Rattle.lola_monitor_run.specs.Running.{CutFaultNext, CutNext, FaultNext, IsAccepted, IsGoing, IsNext, IsRowFor, IsSetAs, KeptNext, setting_in}
use Rattle.lola_monitor_run.specs.Behind.{HasTaken, IsBehind, NextBehind, RunsBehind, settled_behind}
use Rattle.lola_monitor_run.specs.declared.stop.Stop.{Stop}
use Rattle.lola_monitor_run.specs.declared.stop.Stop.TheVariants as stop
use Rattle.lola_monitor_run.specs.Rounds.{InTurn}
use Rattle.lola_monitor_run.specs.Feeds.{AreFed, Feeding, HaveEnded, IsAt, IsSound, Passes, Supply, World}

-- a turn ended for want of memory
abbrev pub IsOutOfMemory : TurnEnd → Type 0
IsOutOfMemory answer = answer ≡ turn.Done end.Memory

-- the worker at this place reads this source
abbrev pub IsAtIndex : ℕ → List Working → Type 0
IsAtIndex s workers = (w : Working) → slice_get workers s ≡ Some w → w.reader.shape.index ≡ s

-- a source took its turn at the merge object, in its place among the workers
pub record TookTurn (s : ℕ) (answer : TurnEnd) (old new : Feeding) : Type 0 where
  pub before : Working
  pub after : Working
  pub was : slice_get old.workers s ≡ Some before
  pub now : new.workers ≡ slice_set old.workers s after
  pub turns : Turns offers_at finishes_at (record { merging = old.merging; source = s }) (record { merging = new.merging; source = s }) answer before after
  pub kept : Keeps before.reader after.reader
  pub batch : new.batch ≡ old.batch

-- the first of the pending entries was taken out, if there is one
pub record TookEntry (entry : Option Entry) (old new : Feeding) : Type 0 where
  pub pending : old.merging.pending ≡ option_to_list entry ++ new.batch
  pub none : entry ≡ None → old.merging.pending ≡ []
  pub merging : new.merging ≡ take_after old.merging
  pub workers : new.workers ≡ old.workers

-- a source that had not ended was changed
pub record Touched (s : ℕ) (olds news : List Supply) : Type 0 where
  pub old : Supply
  pub new : Supply
  pub was : slice_get olds s ≡ Some old
  pub now : news ≡ slice_set olds s new
  pub went_on : old.end ≡ None

-- a row was taken of a source
pub record TookRow (plan : Plan) (s : ℕ) (row : Row) (olds news : List Supply) : Type 0 where
  pub at : Touched s olds news
  pub goes_on : at.new.end ≡ None
  pub source : row.source ≡ s
  pub fits : IsRowFor plan row
  pub passes : Passes at.old.rest at.new.rest (row ∷ [])
  pub number : at.new.number ≡ at.old.number + 1
  pub few : at.new.number ≤ most_rows
  pub count : at.new.count ≡ at.old.count
  pub less : at.new.bound < at.old.bound

-- how a source ended that had no row
abbrev pub Stopped : worker.SourceEnd → Supply → Supply → Type 0
Stopped end.End old new = IsAt Whole old.rest × (new.count ≡ old.count)
Stopped (end.Malformed kind row) old new = IsAt (MalformedAt kind row) old.rest × (new.count ≡ old.count)
Stopped end.ReadFailed old new = Rose old.count new.count
Stopped end.Closed old new = ⊥
Stopped end.Memory old new = Unit {0}

-- a source had no row, and has ended
pub record Finished (s : ℕ) (how : worker.SourceEnd) (olds news : List Supply) : Type 0 where
  pub at : Touched s olds news
  pub over : at.new.end ≡ Some how
  pub stopped : Stopped how at.old at.new

-- a source had ended before its turn
pub record Rested (s : ℕ) (olds news : List Supply) : Type 0 where
  pub source : Supply
  pub how : worker.SourceEnd
  pub was : slice_get olds s ≡ Some source
  pub over : source.end ≡ Some how
  pub same : news ≡ olds

-- a source has no row, and a run goes on
abbrev pub SatOut : ℕ → List Supply → List Supply → Type 0
SatOut s olds news = Rested s olds news ⊎ ((how : worker.SourceEnd) × ((how ≡ end.Memory → ⊥) × Finished s how olds news))

-- nothing but the sources has changed
pub record OnlySources (old new : World) : Type 0 where
  pub kept : new.kept ≡ old.kept
  pub trace : new.trace ≡ old.trace
  pub out : new.out ≡ old.out

-- a row of a source was taken and traced
pub record Traced (s : ℕ) (entry : Entry) (old new : World) : Type 0 where
  pub took : TookRow old.kept.state.plan s entry.row old.sources new.sources
  pub mark : IsNext old.kept entry
  pub traceable : IsTraceable old.kept.state.plan entry
  pub trace : new.trace ≡ grown old.trace (trace_line entry)

-- one row was taken, traced, and run without a fault
pub record Stepped (s : ℕ) (old new : World) : Type 0 where
  pub entry : Entry
  pub traced : Traced s entry old new
  pub setting : IsSetAs old.kept new.kept
  pub taken : HasTaken entry old.kept new.kept
  pub runs : (before journal : List Entry) → IsBehind before journal old.kept → NextBehind before journal entry old.kept new.kept old.out new.out

-- a source had no row
pub record Passed (s : ℕ) (old new : World) : Type 0 where
  pub out_of : SatOut s old.sources new.sources
  pub only : OnlySources old new

-- a row was taken and traced, and a step of it has a fault
pub record SawFault (fault : RunFault) (s : ℕ) (old new : World) : Type 0 where
  pub entry : Entry
  pub traced : Traced s entry old new
  pub accepted : IsAccepted entry
  pub runs : (before journal : List Entry) → IsBehind before journal old.kept → FaultNext fault journal entry old.kept old.out new.out

-- a row was taken and traced, and a step of it has a fault, the lines before which were cut short
pub record SawCutFault (fault : RunFault) (s : ℕ) (old new : World) : Type 0 where
  pub entry : Entry
  pub traced : Traced s entry old new
  pub accepted : IsAccepted entry
  pub runs : (before journal : List Entry) → IsBehind before journal old.kept → CutFaultNext fault journal entry old.kept old.out new.out

-- a row was taken, and its line was cut short
pub record TraceCut (s : ℕ) (old new : World) : Type 0 where
  pub at : Touched s old.sources new.sources
  pub sound : IsSound at.new
  pub entry : Entry
  pub traceable : IsTraceable old.kept.state.plan entry
  pub trace : PutBroke old.trace new.trace (trace_line entry)
  pub out : new.out ≡ old.out

-- there was no memory for a row or its line
pub record NotTraced (s : ℕ) (old new : World) : Type 0 where
  pub touched : (new.sources ≡ old.sources) ⊎ ((at : Touched s old.sources new.sources) × IsSound at.new)
  pub trace : new.trace ≡ old.trace
  pub out : new.out ≡ old.out

-- a row was taken and traced, and its lines were cut short
pub record OutCut (s : ℕ) (old new : World) : Type 0 where
  pub entry : Entry
  pub traced : Traced s entry old new
  pub accepted : IsAccepted entry
  pub runs : (before journal : List Entry) → IsBehind before journal old.kept → CutNext journal entry old.kept old.out new.out

-- a row was taken and traced, and its lines were not put
pub record OutKept (s : ℕ) (old new : World) : Type 0 where
  pub entry : Entry
  pub traced : Traced s entry old new
  pub runs : (before journal : List Entry) → IsBehind before journal old.kept → KeptNext journal entry old.kept old.out new.out

-- one turn: whether a row was taken
abbrev pub Steps : Result Bool Stop → ℕ → World → World → Type 0
Steps (Ok true) s old new = Stepped s old new
Steps (Ok false) s old new = Passed s old new
Steps (Err (stop.Fault stream kind time)) s old new = SawFault (record { stream = stream; kind = kind; time = time }) s old new
Steps (Err (stop.CutFault stream kind time)) s old new = SawCutFault (record { stream = stream; kind = kind; time = time }) s old new
Steps (Err stop.Put) s old new = TraceCut s old new ⊎ OutCut s old new
Steps (Err stop.Memory) s old new = NotTraced s old new ⊎ OutKept s old new

-- whether turns were made, whatever they answer
abbrev pub without_answer : Result Bool Stop → Result (Unit {0}) Stop
without_answer (Ok moved) = Ok tt
without_answer (Err end) = Err end

-- a row that was taken was traced and run, or what kept it from that
abbrev pub RunsTaken : Result (Unit {0}) Stop → ℕ → World → World → Type 0
RunsTaken (Ok done) s old new = Steps (Ok true) s old new
RunsTaken (Err end) s old new = Steps (Err end) s old new

-- this source has not ended
abbrev pub Goes : List Supply → ℕ → Type 0
Goes sources s = (source : Supply) × (slice_get sources s ≡ Some source) × (source.end ≡ None)

-- the rows of a journal were taken in turns up to this one
pub record Drawn (first : World) (round turn : ℕ) (sources : List Supply) (journal : List Entry) : Type 0 where
  pub of_sources : AreOfSources (length first.sources) journal
  pub fed : AreFed first.sources sources journal
  pub turns : InTurn (length first.sources) round turn (Goes sources) (λ s. rows_of s journal) (map (λ e. e.row) journal)

-- a run up to here: the journal of the rows that came since it began or went on, and what it stands for and has put, whatever it
-- stood for then
pub record SoFar (first : World) (round turn : ℕ) (now : World) : Type 0 where
  pub few : length first.sources ≤ 64
  pub journal : List Entry
  pub drawn : Drawn first round turn now.sources journal
  pub setting : IsSetAs first.kept now.kept
  pub traceable : AreTraceable first.kept.state.plan journal
  pub trace : now.trace ≡ grown first.trace (trace_text journal)
  pub going : IsGoing now.kept
  pub rows : now.kept.state.rows ≤ length (accepted journal) + 1
  pub late : now.kept.late ≡ late_count journal
  pub accepted : now.kept.accepted ≡ length (accepted journal)
  pub stands : (before : List Entry) → IsBehind before before first.kept → IsBehind before (before ++ journal) now.kept
  pub out : (before : List Entry) → IsBehind before before first.kept → now.out ≡ grown first.out (settled_behind (setting_in first.kept) before journal)

-- how the rows of a run were stopped, whatever it stood for at first
abbrev pub StopsFrom : Stop → World → World → Type 0
StopsFrom end first last = (before : List Entry) → IsBehind before before first.kept → RunsBehind true before (Err end) first last

-- all rows of a run, to the end of its sources or to what stopped them
abbrev pub RunsOn : Result (Unit {0}) Stop → World → World → Type 0
RunsOn (Ok done) first last = ((round : ℕ) × SoFar first round 0 last) × HaveEnded last.sources
RunsOn (Err end) first last = StopsFrom end first last

-- a run between two rounds
abbrev pub IsBetweenRounds : World → Type 0
IsBetweenRounds now = (first : World) × (round : ℕ) × SoFar first round 0 now

-- what a source may still take: turns for its rows and for its end
abbrev pub left_by : Supply → ℕ
left_by source = elim source.end [ None ↦ source.bound + 1 | Some how ↦ 0 ]

abbrev pub left_of : List Supply → ℕ
left_of [] = 0
left_of (source ∷ sources) = left_by source + left_of sources

-- a round up to this turn, and whether a row was taken in it
pub record InRound (turn : ℕ) (moved : Bool) (old now : World) : Type 0 where
  pub so_far : (first : World) (round : ℕ) → SoFar first round 0 old → SoFar first round turn now
  pub many : length now.sources ≡ length old.sources
  pub no_more : left_of now.sources ≤ left_of old.sources
  pub fell : moved ≡ true → left_of now.sources < left_of old.sources
  pub quiet : moved ≡ false → (s : ℕ) (source : Supply) → s < turn → slice_get now.sources s ≡ Some source → IsSome source.end

-- a round: whether a row was taken
abbrev pub GoesRound : Result Bool Stop → World → World → Type 0
GoesRound (Ok true) old new = ((first : World) (round : ℕ) → SoFar first round 0 old → SoFar first (suc round) 0 new) × (left_of new.sources < left_of old.sources)
GoesRound (Ok false) old new = ((first : World) (round : ℕ) → SoFar first round 0 old → SoFar first (suc round) 0 new) × HaveEnded new.sources
GoesRound (Err end) old new = (first : World) (round : ℕ) → SoFar first round 0 old → StopsFrom end first new
