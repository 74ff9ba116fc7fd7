-- Sources that are read in turns: what is taken of each, and how a run of their rows ends.
use Rattle.std.specs.Prelude.{ℕ, ◌≡◌, ◌≤◌, List, [], ◌++◌, Option, Some, None, IsSome, OnOk, Result, false, length, map, slice_get}
use Rattle.lola_port.specs.States.{Rose, SinkState, grown}
use Rattle.lola_model.specs.Journal.{rows_of}
use Rattle.lola_model.specs.Trace.{trace_text}
use Rattle.lola_model.specs.declared.plan.Plan.{Plan}
use Rattle.lola_model.specs.declared.journal.Row.{Row}
use Rattle.lola_model.specs.declared.journal.Entry.{Entry}
use Rattle.lola_rows.specs.Rows.{SourceEnd, SourceRows, Whole, MalformedAt}
use Rattle.lola_rows.specs.Reading.{shape_of}
use Rattle.lola_merge.specs.Merging.{Merging, sources_of}
use Rattle.lola_feed.specs.Feeding.{Working, beginning, bound_of, handed_in, to_come}
use Rattle.lola_feed.specs.declared.worker.SourceEnd as worker
use Rattle.lola_feed.specs.declared.worker.SourceEnd.TheVariants.{End, Malformed, ReadFailed, Closed, Memory}
use Rattle.lola_monitor_run.specs.Verdicts.{most_rows}
use Rattle.lola_monitor_run.specs.Running.{Keeping, Writes}
use Rattle.lola_monitor_run.specs.Rounds.{AreFirst}
use Rattle.lola_monitor_run.specs.declared.stop.Stop.{Stop}

-- what is known of a source: the rows still to come where it tells its bytes, how many were handed in, its failures, a bound on
-- the rows still to come, and how it ended
pub record Supply : Type 0 where
  pub rest : Option SourceRows
  pub number : ℕ
  pub count : ℕ
  pub bound : ℕ
  pub end : Option worker.SourceEnd

abbrev pub supply_of : Working → Supply
supply_of w = record { rest = to_come w; number = handed_in w; count = w.reader.source.count; bound = bound_of w; end = w.end }

-- rows, and then what is to come
abbrev pub led_by : List Row → SourceRows → SourceRows
led_by rows more = record { rows = rows ++ more.rows; end = more.end }

-- these rows were taken from the front of those to come
abbrev pub Passes : Option SourceRows → Option SourceRows → List Row → Type 0
Passes old new rows = (all : SourceRows) → old ≡ Some all → (more : SourceRows) × (new ≡ Some more) × (all ≡ led_by rows more)

-- no row is to come, and the source has this end
abbrev pub IsAt : SourceEnd → Option SourceRows → Type 0
IsAt end rest = (all : SourceRows) → rest ≡ Some all → all ≡ record { rows = []; end = end }

-- these were all rows, and the source has this end
abbrev pub EndedWith : SourceEnd → Option SourceRows → List Row → Type 0
EndedWith end rest rows = (all : SourceRows) → rest ≡ Some all → all ≡ record { rows = rows; end = end }

-- these were the first rows
abbrev pub BeganWith : Option SourceRows → List Row → Type 0
BeganWith rest rows = (all : SourceRows) → rest ≡ Some all → (more : List Row) × (all.rows ≡ rows ++ more)

-- how a source stands by its end, once these rows were taken: it goes on, these were all of its rows, or it has failed
abbrev pub HasEnded : Option worker.SourceEnd → Supply → Supply → List Row → Type 0
HasEnded None old new rows = Passes old.rest new.rest rows × (new.number ≡ length rows) × (new.count ≡ old.count)
HasEnded (Some End) old new rows = EndedWith Whole old.rest rows × (new.count ≡ old.count)
HasEnded (Some (Malformed kind row)) old new rows = EndedWith (MalformedAt kind row) old.rest rows × (new.count ≡ old.count)
HasEnded (Some ReadFailed) old new rows = Rose old.count new.count
HasEnded (Some Closed) old new rows = ⊥
HasEnded (Some Memory) old new rows = ⊥

-- these rows were taken of a source
pub record IsFed (old new : Supply) (rows : List Row) : Type 0 where
  pub few : length rows ≤ most_rows
  pub began : BeganWith old.rest rows
  pub end : HasEnded new.end old new rows

-- the rows of a journal were taken of these sources
pub record AreFed (olds news : List Supply) (journal : List Entry) : Type 0 where
  pub many : length news ≡ length olds
  pub each : (s : ℕ) (old new : Supply) → slice_get olds s ≡ Some old → slice_get news s ≡ Some new → IsFed old new (rows_of s journal)

-- they were the first rows of these sources
abbrev pub HaveBegun : List Supply → List Entry → Type 0
HaveBegun olds journal = (s : ℕ) (old : Supply) → slice_get olds s ≡ Some old → BeganWith old.rest (rows_of s journal)

-- a source that has not failed
abbrev pub IsSound : Supply → Type 0
IsSound s = s.end ≡ Some ReadFailed → ⊥

-- these are the first rows of a source, and all of them where it has not failed
abbrev pub IsListOf : Supply → Supply → List Row → Type 0
IsListOf old new rows = (all : SourceRows) → old.rest ≡ Some all → ((more : List Row) × (all.rows ≡ rows ++ more)) × (IsSound new → all.rows ≡ rows)

-- the rows of a journal are the first of the sources' in rounds
pub record GoInRounds (olds news : List Supply) (journal : List Entry) : Type 0 where
  pub lists : List (List Row)
  pub many : length lists ≡ length olds
  pub are : (s : ℕ) (old new : Supply) (rows : List Row) → slice_get olds s ≡ Some old → slice_get news s ≡ Some new → slice_get lists s ≡ Some rows → IsListOf old new rows
  pub first : AreFirst lists journal
  pub failed : (s : ℕ) (old new : Supply) → slice_get olds s ≡ Some old → slice_get news s ≡ Some new → new.end ≡ Some ReadFailed → Rose old.count new.count

-- all have ended
abbrev pub HaveEnded : List Supply → Type 0
HaveEnded sources = (s : ℕ) (source : Supply) → slice_get sources s ≡ Some source → IsSome source.end

-- what a run of rows begins with, and what it leaves
pub record World : Type 0 where
  pub kept : Keeping
  pub sources : List Supply
  pub out : SinkState
  pub trace : SinkState

abbrev pub world : Keeping → List Supply → SinkState → SinkState → World
world kept sources out trace = record { kept = kept; sources = sources; out = out; trace = trace }

-- the trace received the lines of a journal
abbrev pub AreTraced : World → World → List Entry → Type 0
AreTraced first last journal = last.trace ≡ grown first.trace (trace_text journal)

-- all rows of sources were taken: each was read to its end, or has failed
pub record WereTaken (first last : World) : Type 0 where
  pub journal : List Entry
  pub fed : AreFed first.sources last.sources journal
  pub ended : HaveEnded last.sources

-- how the rows of a run ended, whatever journal it stood for: what is known of its sources, of the sink and of the trace
pub record RunEnds (result : Result (Unit {0}) Stop) (first last : World) : Type 0 where
  pub taken : OnOk result (WereTaken first last)
  pub writes : Writes result first.out last.out first.trace last.trace

-- workers of some sources before their first turn, of which that of source s reads the rows of source s of a plan
pub record AreReady (plan : Plan) (workers : List Working) : Type 0 where
  pub many : (1 ≤ length workers) × (length workers ≤ 64)
  pub new : (s : ℕ) (w : Working) → slice_get workers s ≡ Some w → (w ≡ beginning w.reader) × (w.reader.given ≡ 0) × (w.reader.shape ≡ shape_of plan.spec.streams s most_rows)

-- sources that are read by one thread: their workers, the merge object that they share, and what was taken out of it and is not
-- yet run
pub record Feeding : Type 0 where
  pub workers : List Working
  pub merging : Merging
  pub batch : List Entry

-- what is known of the sources of a feed
abbrev pub supplies_of : Feeding → List Supply
supplies_of feed = map supply_of feed.workers

-- the worker of source s reads the rows of source s of a plan
abbrev pub AreOfPlan : Plan → List Working → Type 0
AreOfPlan plan workers = (s : ℕ) (w : Working) → slice_get workers s ≡ Some w → w.reader.shape ≡ shape_of plan.spec.streams s most_rows

-- between turns: nothing is pending, the merge object lets rows in, and its merged time is that of the run
pub record IsIdle (feed : Feeding) (kept : Keeping) : Type 0 where
  pub pending : feed.merging.pending ≡ []
  pub batch : feed.batch ≡ []
  pub lets_in : feed.merging.closed ≡ false
  pub merged : feed.merging.merged ≡ kept.state.merged
  pub many : sources_of feed.merging ≡ length feed.workers
  pub workers : AreOfPlan kept.state.plan feed.workers

-- before the first turn
pub record IsFresh (feed : Feeding) : Type 0 where
  pub many : (1 ≤ length feed.workers) × (length feed.workers ≤ 64)
  pub none : (s : ℕ) (w : Working) → slice_get feed.workers s ≡ Some w → (w.end ≡ None) × (handed_in w ≡ 0)

-- the sources are in their places
abbrev pub AreInPlace : List Working → List Working → Type 0
AreInPlace olds news = map (λ w. w.reader.source.place) news ≡ map (λ w. w.reader.source.place) olds
