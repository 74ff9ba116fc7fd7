-- What the sink and the trace of a run received, one text after another, and where a put failed behind some.
use Rattle.std.proofs.Common.{◌≡◌, ℕ, List, [], ◌++◌, Result, Ok, Err, refl, sym, ap, ◌∙◌, subst, inl, inr}
use Rattle.std.specs.Prelude.{OnOk}
use Rattle.lola_port.specs.States.{Rose, SinkState}
use Rattle.lola_model.specs.declared.journal.Row.{Row}
use Rattle.lola_engine.specs.declared.end.EngineEnd.{EngineEnd}
use Rattle.lola_engine.specs.declared.end.EngineEnd.TheVariants as engine_end
use Rattle.lola_monitor_run.specs.Running.{Keeping, Puts, Received, RunsAccepted, StopsAt, Writes}
use Rattle.lola_monitor_run.specs.Feeds.{AreFed, HaveEnded, RunEnds, Supply, WereTaken, World, world}
use Rattle.lola_monitor_run.specs.Turning.{SoFar}
use Rattle.lola_monitor_run.specs.declared.stop.Stop.{Stop}
use Rattle.lola_monitor_run.specs.declared.stop.Stop.TheVariants as stop
use Rattle.lola_monitor_run.proofs.Sinks.{grown_nil, more_text}

-- a sink that received nothing
pub received_none : (s : SinkState) → Received s s
received_none s = ([], sym (grown_nil s))

received_same : (old new : SinkState) → new ≡ old → Received old new
received_same old new same = ([], same ∙ sym (grown_nil old))

-- one text behind another
pub received_more : (s0 s1 s2 : SinkState) → Received s0 s1 → Received s1 s2 → Received s0 s2
received_more s0 s1 s2 first second = (first.0 ++ second.0, more_text s0 s1 s2 first.0 second.0 (first.0 ++ second.0) first.1 second.1 refl)

-- a put that failed behind a text
pub rose_behind : (s0 s1 s2 : SinkState) → Received s0 s1 → Rose s1.count s2.count → Rose s0.count s2.count
rose_behind s0 s1 s2 first rose = subst (λ (n : ℕ). Rose n s2.count) (ap (λ (s : SinkState). s.count) first.1) rose

-- what was written behind texts
pub writes_more : (result : Result (Unit {0}) Stop) (o0 o1 o2 t0 t1 t2 : SinkState) → Received o0 o1 → Received t0 t1 → Writes result o1 o2 t1 t2 → Writes result o0 o2 t0 t2
writes_more (Ok done) o0 o1 o2 t0 t1 t2 out trace writes = (received_more o0 o1 o2 out writes.0, received_more t0 t1 t2 trace writes.1)
writes_more (Err (stop.Fault stream kind time)) o0 o1 o2 t0 t1 t2 out trace writes = (received_more o0 o1 o2 out writes.0, received_more t0 t1 t2 trace writes.1)
writes_more (Err (stop.CutFault stream kind time)) o0 o1 o2 t0 t1 t2 out trace writes = (rose_behind o0 o1 o2 out writes.0, received_more t0 t1 t2 trace writes.1)
writes_more (Err stop.Put) o0 o1 o2 t0 t1 t2 out trace (inl rose) = inl (rose_behind o0 o1 o2 out rose)
writes_more (Err stop.Put) o0 o1 o2 t0 t1 t2 out trace (inr rose) = inr (rose_behind t0 t1 t2 trace rose)
writes_more (Err stop.Memory) o0 o1 o2 t0 t1 t2 out trace writes = (received_more o0 o1 o2 out writes.0, received_more t0 t1 t2 trace writes.1)

-- nothing was written
pub writes_none : (out trace : SinkState) → Received out out × Received trace trace
writes_none out trace = (received_none out, received_none trace)

-- a trace line was not put whole
pub untraced_writes : (how : Stop) (line : List ℕ) (out t0 t1 : SinkState) → Puts (Err how) line t0 t1 → Writes (Err how) out out t0 t1
untraced_writes (stop.Fault stream kind time) line out t0 t1 puts = absurd puts
untraced_writes (stop.CutFault stream kind time) line out t0 t1 puts = absurd puts
untraced_writes stop.Put line out t0 t1 puts = inr puts.rose
untraced_writes stop.Memory line out t0 t1 puts = (received_none out, received_same t0 t1 puts)

module _ (o0 o1 trace : SinkState) where
  -- a text was put, or not
  pub put_writes : (result : Result (Unit {0}) Stop) (text : List ℕ) → Puts result text o0 o1 → Writes result o0 o1 trace trace
  put_writes (Ok done) text puts = ((text, puts), received_none trace)
  put_writes (Err (stop.Fault stream kind time)) text puts = absurd puts
  put_writes (Err (stop.CutFault stream kind time)) text puts = absurd puts
  put_writes (Err stop.Put) text puts = inl puts.rose
  put_writes (Err stop.Memory) text puts = (received_same o0 o1 puts, received_none trace)

  -- an engine's end stopped a run
  pub stopped_writes : (end : EngineEnd) (how : Stop) (text : List ℕ) → StopsAt end how text o0 o1 → Writes (Err how) o0 o1 trace trace
  stopped_writes (engine_end.Fault stream kind time) how text (inl at) = subst (λ (s : Stop). Writes (Err s) o0 o1 trace trace) (sym at.0) ((text, at.1), received_none trace)
  stopped_writes (engine_end.Fault stream kind time) how text (inr (inl at)) = subst (λ (s : Stop). Writes (Err s) o0 o1 trace trace) (sym at.0) (at.1.rose, received_none trace)
  stopped_writes (engine_end.Fault stream kind time) how text (inr (inr at)) = subst (λ (s : Stop). Writes (Err s) o0 o1 trace trace) (sym at.0) (received_same o0 o1 at.1, received_none trace)
  stopped_writes engine_end.Memory how text at = subst (λ (s : Stop). Writes (Err s) o0 o1 trace trace) (sym at.0) (received_same o0 o1 at.1, received_none trace)

  -- an accepted row was run and its text put, or what kept it from that
  pub accepted_writes : (result : Result (Unit {0}) Stop) (row : Row) (old new : Keeping) → RunsAccepted result row old new o0 o1 → Writes result o0 o1 trace trace
  accepted_writes (Ok done) row old new ran = ((ran.0, ran.2), received_none trace)
  accepted_writes (Err (stop.Fault stream kind time)) row old new ran = ((ran.0, ran.2), received_none trace)
  accepted_writes (Err (stop.CutFault stream kind time)) row old new ran = (ran.2.rose, received_none trace)
  accepted_writes (Err stop.Put) row old new ran = inl ran.2.rose
  accepted_writes (Err stop.Memory) row old new ran = (received_same o0 o1 ran.2, received_none trace)

-- all rows of a run were taken
pub were_taken : (first : World) (n : ℕ) (last : World) → SoFar first n 0 last → HaveEnded last.sources → WereTaken first last
were_taken first n last so ended = record { journal = so.journal; fed = so.drawn.fed; ended = ended }

-- and stay so, whatever came of what was run behind them
still_taken : (result : Result (Unit {0}) Stop) (first old new : World) → new.sources ≡ old.sources → WereTaken first old → OnOk result (WereTaken first new)
still_taken (Ok done) first old new same taken = record {
  journal = taken.journal;
  fed = subst (λ (sources : List Supply). AreFed first.sources sources taken.journal) (sym same) taken.fed;
  ended = subst HaveEnded (sym same) taken.ended;
}
still_taken (Err how) first old new same taken = tt

-- how a run ends whose deadlines at the last stamp were run, or not
pub ends_then : (result : Result (Unit {0}) Stop) (first : World) (k1 k2 : Keeping) (sources : List Supply) (o1 o2 trace : SinkState) → RunEnds (Ok tt) first (world k1 sources o1 trace) → Writes result o1 o2 trace trace
    → RunEnds result first (world k2 sources o2 trace)
ends_then result first k1 k2 sources o1 o2 trace ran writes = record {
  taken = still_taken result first (world k1 sources o1 trace) (world k2 sources o2 trace) refl ran.taken;
  writes = writes_more result first.out o1 o2 first.trace trace trace ran.writes.0 ran.writes.1 writes;
}

-- there was no memory to begin
pub ends_at_first : (first : World) → RunEnds (Err stop.Memory) first first
ends_at_first first = record { taken = tt; writes = writes_none first.out first.trace }
