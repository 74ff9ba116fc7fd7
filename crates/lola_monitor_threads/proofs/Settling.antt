-- How a run ends, from how its rows came.
use Rattle.std.proofs.Common.{◌≡◌, ◌⊎◌, ℕ, true, false, List, ◌++◌, Option, None, Some, Ok, Err, map, refl, sym, ap, ◌∙◌, inl, inr, arith, subst}
use Rattle.std.proofs.lemmas.Option.{slice_get_within}
use Rattle.std.specs.Prelude.{IsSome, slice_get}
use Rattle.lola_port.specs.States.{SinkState}
use Rattle.lola_model.specs.Journal.{IsLegal, IsLegalFrom, opening_time}
use Rattle.lola_model.specs.Trace.{trace_text}
use Rattle.lola_model.specs.declared.journal.Row.{Row}
use Rattle.lola_model.specs.declared.journal.Entry.{Entry}
use Rattle.lola_model.proofs.Growing.{slice_get_some}
use Rattle.lola_model.proofs.Journals.{IsLegalFrom-append}
use Rattle.lola_feed.specs.Feeding.{Working}
use Rattle.lola_feed.specs.declared.worker.SourceEnd as worker
use Rattle.lola_feed.specs.declared.worker.SourceEnd.TheVariants as end
use Rattle.lola_monitor_run.specs.Running.{Keeping, Received, setting_in}
use Rattle.lola_monitor_run.specs.declared.stop.Stop.{Stop}
use Rattle.lola_monitor_run.specs.declared.stop.Stop.TheVariants as stop
use Rattle.lola_monitor_run.specs.Feeds.{AreFed, AreReady, HasEnded, HaveEnded, RunEnds, Supply, World, supply_of, world}
use Rattle.lola_monitor_run.specs.Behind.{CameBehind, HasTakenNone, IsBehind, RanOutOfMemoryBehind, RanToEndBehind, RanToFailedPutBehind, RunsBehind}
use Rattle.lola_monitor_run.proofs.Beginning.{never_went_on}
use Rattle.lola_monitor_run.proofs.Lists.{from_mapped}
use Rattle.lola_monitor_run.proofs.Runs.{all_now}
use Rattle.lola_monitor_run.proofs.TextsBehind.{all_put_behind}
use Rattle.lola_monitor_threads.specs.Joining.{AllCame, IsOver, SomeCame, place_in}
use Rattle.lola_monitor_threads.specs.Seated.{SomeOutOfMemory}
use Rattle.lola_monitor_threads.specs.Takings.{IsCutInRow, IsCutInTrace}

not_in_turns : {A : Type 0} → false ≡ true → A
not_in_turns e = absurd (cc e)

-- a source that is over has ended
over_ended : (e : Option worker.SourceEnd) (old new : Supply) (rows : List Row) → IsOver e old new rows → IsSome e
over_ended None old new rows over = absurd over
over_ended (Some how) old new rows over = refl

over_well : (e : Option worker.SourceEnd) (old new : Supply) (rows : List Row) → (e ≡ Some end.Memory → ⊥) → IsOver e old new rows → HasEnded e old new rows
over_well None old new rows enough over = absurd over
over_well (Some end.End) old new rows enough over = over
over_well (Some (end.Malformed kind row)) old new rows enough over = over
over_well (Some end.ReadFailed) old new rows enough over = over
over_well (Some end.Closed) old new rows enough over = absurd over
over_well (Some end.Memory) old new rows enough over = absurd (enough refl)

-- rows that are rightly marked from a run's merged time on are so behind whatever it stands for
legal_behind : (kept : Keeping) (before journal : List Entry) → IsBehind before before kept → IsLegalFrom kept.state.merged journal → IsLegal kept.state.given_start (before ++ journal)
legal_behind kept before journal stood legal =
    IsLegalFrom-append (opening_time kept.state.given_start) before journal stood.legal (subst (λ (m : ℕ). IsLegalFrom m journal) stood.engine.merged legal)

module _ (first last : World) (all : AllCame first last) where
  -- what a source was
  was_at : (s : ℕ) (new : Supply) → slice_get last.sources s ≡ Some new → (old : Supply) × (slice_get first.sources s ≡ Some old)
  was_at s new is = slice_get_some first.sources s (let m = all.many in let l = slice_get_within last.sources s new is in omega arith)

  -- and is
  is_at : (s : ℕ) (old : Supply) → slice_get first.sources s ≡ Some old → (new : Supply) × (slice_get last.sources s ≡ Some new)
  is_at s old was = slice_get_some last.sources s (let m = all.many in let l = slice_get_within first.sources s old was in omega arith)

  -- the sink received the verdicts of all rows, and the trace their lines
  all_received : Received first.out last.out × Received first.trace last.trace
  all_received = (all.run.received, (trace_text all.journal, all.run.trace))

  abbrev all_came : (before : List Entry) → IsBehind before before first.kept → CameBehind false before first last
  all_came before stood = record {
    journal = all.journal;
    legal = legal_behind first.kept before all.journal stood all.legal;
    sources = all.sources;
    traceable = all.run.traceable;
    rounds = not_in_turns;
  }

  -- no worker had too little memory
  module _ (enough : (s : ℕ) (new : Supply) → slice_get last.sources s ≡ Some new → new.end ≡ Some end.Memory → ⊥) where
    all_fed : AreFed first.sources last.sources all.journal
    all_fed = record {
      many = all.many;
      each = λ s old new was is. let c = all.each s old new was is in record {
        few = c.few;
        began = c.began;
        end = over_well new.end old new _ (enough s new is) c.over;
      };
    }

    all_ended : HaveEnded last.sources
    all_ended = λ s new is. let old = was_at s new is in over_ended new.end old.0 new _ (all.each s old.0 new old.1 is).over

    pub all_ran : (before : List Entry) → IsBehind before before first.kept → RanToEndBehind false before first last
    all_ran before stood = record {
      came = all_came before stood;
      setting = all.run.setting;
      fed = all_fed;
      ended = all_ended;
      trace = all.run.trace;
      out = all.run.out before stood;
      stands = all.run.stands before stood;
      accepted = all.run.accepted;
      late = all.run.late;
    }

    -- whatever the run stood for
    pub all_ran_ends : RunEnds (Ok tt) first last
    all_ran_ends = record { taken = record { journal = all.journal; fed = all_fed; ended = all_ended }; writes = all_received }

  -- one had
  pub all_cut : (before : List Entry) → IsBehind before before first.kept → RanOutOfMemoryBehind false before first last
  all_cut before stood = record {
    came = all_came before stood;
    begun = λ s old was. let new = is_at s old was in (all.each s old new.0 was new.1).began;
    trace = all.run.trace;
    out = all_put_behind (setting_in first.kept) before all.journal first.out last.out (all_now first last all.run.setting before all.journal (all.run.stands before stood)) (all.run.out before stood);
  }

  pub all_cut_ends : RunEnds (Err stop.Memory) first last
  all_cut_ends = record { taken = tt; writes = all_received }

-- where a run was stopped
module _ (how : Stop) (first last : World) (some : SomeCame how first last) (before : List Entry) (stood : IsBehind before before first.kept) where
  abbrev came_so : CameBehind false before first last
  came_so = record {
    journal = some.journal;
    legal = legal_behind first.kept before some.journal stood some.legal;
    sources = some.sources;
    traceable = some.stops.traceable;
    rounds = not_in_turns;
  }

-- by a failed put
module _ (first last : World) (some : SomeCame stop.Put first last) (before : List Entry) (stood : IsBehind before before first.kept) where
  cut_so : IsCutInTrace before (place_in first) some.journal (place_in last) ⊎ IsCutInRow before (place_in first) some.journal (place_in last) → RanToFailedPutBehind false before first last
  cut_so (inl cut) = inl (record { came = came_so stop.Put first last some before stood; begun = some.begun; no_fault = cut.no_fault; trace = cut.trace; out = cut.out })
  cut_so (inr cut) = inr (record { came = came_so stop.Put first last some before stood; begun = some.begun; no_fault = cut.no_fault; trace = cut.trace; out = cut.out })

pub some_stopped : (how : Stop) (first last : World) → SomeCame how first last → (before : List Entry) → IsBehind before before first.kept → RunsBehind false before (Err how) first last
some_stopped (stop.Fault stream kind time) first last some before stood = record {
  came = came_so (stop.Fault stream kind time) first last some before stood;
  begun = some.begun;
  trace = (some.stops.by before stood).trace;
  out = (some.stops.by before stood).out;
  stands = (some.stops.by before stood).stands;
}
some_stopped (stop.CutFault stream kind time) first last some before stood = record {
  came = came_so (stop.CutFault stream kind time) first last some before stood;
  begun = some.begun;
  trace = (some.stops.by before stood).trace;
  out = (some.stops.by before stood).out;
  stands = (some.stops.by before stood).stands;
}
some_stopped stop.Put first last some before stood = cut_so first last some before stood (some.stops.by before stood)
some_stopped stop.Memory first last some before stood = record {
  came = came_so stop.Memory first last some before stood;
  begun = some.begun;
  trace = (some.stops.by before stood).trace;
  out = (some.stops.by before stood).out;
}

pub some_stopped_ends : (how : Stop) (first last : World) → SomeCame how first last → RunEnds (Err how) first last
some_stopped_ends how first last some = record { taken = tt; writes = some.stops.writes }

-- none of these workers had too little memory
pub none_ended_so : (workers : List Working) → (SomeOutOfMemory workers → ⊥) → (s : ℕ) (new : Supply) → slice_get (map supply_of workers) s ≡ Some new → new.end ≡ Some end.Memory → ⊥
none_ended_so workers none s new is ended =
    let w = from_mapped supply_of workers s new is in
    none (record { at = s; worker = w.0; is = w.1.0; end = sym (ap (λ (x : Supply). x.end) w.1.1) ∙ ended })

-- a run in turns for which there was no memory is one of whose turns nothing is promised
no_turns : (before : List Entry) (first last : World) → RanOutOfMemoryBehind true before first last → RanOutOfMemoryBehind false before first last
no_turns before first last ran = record {
  came = record { journal = ran.came.journal; legal = ran.came.legal; sources = ran.came.sources; traceable = ran.came.traceable; rounds = not_in_turns };
  begun = ran.begun;
  trace = ran.trace;
  out = ran.out;
}

-- a run of ready workers for which there was no memory before its first row
module _ (kept : Keeping) (workers : List Working) (out trace : SinkState) (none : HasTakenNone kept) (ready : AreReady kept.state.plan workers) where
  abbrev still : World
  still = world kept (map supply_of workers) out trace

  pub never_went : (before : List Entry) → IsBehind before before kept → RanOutOfMemoryBehind false before still still
  never_went before stood = no_turns before still still (never_went_on kept workers out trace before none stood ready)
