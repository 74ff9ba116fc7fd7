-- An entry behind a journal is traced and run, and what becomes of one after another.
use Rattle.std.proofs.Common.{◌≡◌, ℕ, ◌+◌, ◌<◌, List, [], ◌∷◌, ◌++◌, Option, None, Some, Result, Ok, Err, refl, sym, ap, ◌∙◌, inl, inr, ⊎_elim, arith, append_assoc, subst}
use Rattle.std.proofs.lemmas.List.{append-nil}
use Rattle.std.proofs.lemmas.List.Elements.{All-append, All-push}
use Rattle.std.specs.Prelude.{OnOk}
use Rattle.lola_port.specs.States.{PutBroke, SinkState, grown}
use Rattle.lola_model.specs.Journal.{IsLegalFrom, IsRightlyMarked, time_after}
use Rattle.lola_model.specs.Faults.{RunFault}
use Rattle.lola_model.specs.Texts.{text_of}
use Rattle.lola_model.specs.Trace.{IsTraceable, trace_line, trace_text}
use Rattle.lola_model.specs.declared.journal.Entry.{Entry}
use Rattle.lola_model.proofs.Journals.{IsLegalFrom-append_left, IsLegalFrom-append_right, merged_from-append, trace_text-append_one}
use Rattle.lola_engine.specs.Engines.{Brings}
use Rattle.lola_monitor_run.specs.Verdicts.{AreOfSources, AreTraceable, Setting, settled_fault_in}
use Rattle.lola_monitor_run.specs.Running.{CutFaultNext, CutNext, FaultNext, HasRoom, IsAccepted, IsNext, IsSetAs, Keeping, KeptNext, Puts, Received, WasNotTraced, Writes, setting_in}
use Rattle.lola_monitor_run.specs.Behind.{Enters, HasTaken, IsBehind, IsRowFaultBehind, Takes, WasTraced, settled_behind}
use Rattle.lola_monitor_run.specs.Feeds.{World, world}
use Rattle.lola_monitor_run.specs.declared.stop.Stop.{Stop}
use Rattle.lola_monitor_run.specs.declared.stop.Stop.TheVariants as stop
use Rattle.lola_monitor_run.proofs.EntriesTold.{BringsIn, accepted_is, told_more}
use Rattle.lola_monitor_run.proofs.Runs.{all_now, fine_now}
use Rattle.lola_monitor_run.proofs.Sinks.{broke_behind, more_text}
use Rattle.lola_monitor_run.proofs.Taking.{accepted_append, late_append}
use Rattle.lola_monitor_run.proofs.TextsBehind.{HasAll, all_put_behind, cut_at_row_behind, has_all_more, last_not_put_behind, settled_more}
use Rattle.lola_monitor_run.proofs.Writing.{received_more, rose_behind, writes_more}
use Rattle.lola_monitor_threads.specs.Takings.{HasMetFault, HasRun, Halts, IsCutAtFault, IsCutInRow, IsFit, IsOutOfMemory, IsStopped, IsPartlyRun, Place, RunsOne, StopsBy, most_taken, place}
use Rattle.lola_monitor_threads.specs.declared.halt.Halt.{Halt}
use Rattle.lola_monitor_threads.specs.declared.halt.Halt.TheVariants as halt

-- a place, whatever sources there are
abbrev world_at : Place → World
world_at p = world p.kept [] p.out p.trace

-- what stood at first has no fault so far, and has lost no line
module _ (first : Place) (journal : List Entry) (now : Place) (so : HasRun first journal now) (before : List Entry) (stood : IsBehind before before first.kept) where
  fine_so_far : settled_fault_in (setting_in first.kept) (before ++ journal) ≡ None
  fine_so_far = fine_now (world_at first) (world_at now) so.setting before journal (so.stands before stood)

  all_so_far : HasAll (setting_in first.kept) before journal
  all_so_far = all_now (world_at first) (world_at now) so.setting before journal (so.stands before stood)

module _ (first : Place) (journal : List Entry) (k0 : Keeping) (o0 t0 : SinkState) (so : HasRun first journal (place k0 o0 t0)) (entry : Entry) (told : IsTraceable k0.state.plan entry) where
  told_first : IsTraceable first.kept.state.plan entry
  told_first = subst (λ (s : Setting). IsTraceable s.plan entry) so.setting told

  all_told : AreTraceable first.kept.state.plan (journal ++ entry ∷ [])
  all_told = told_more first.kept.state.plan journal entry so.traceable told_first

  not_traced : (t1 : SinkState) (how : Stop) → Puts (Err how) (trace_line entry) t0 t1 → RunsOne (Err how) first journal entry (place k0 o0 t1)
  not_traced t1 (stop.Fault stream kind time) puts = absurd puts
  not_traced t1 (stop.CutFault stream kind time) puts = absurd puts
  not_traced t1 stop.Put puts = (
    journal,
    inl refl,
    record {
      traceable = so.traceable;
      writes = inr (rose_behind first.trace t0 t1 (trace_text journal, so.trace) puts.rose);
      by = λ before stood. inl (record {
        no_fault = fine_so_far first journal (place k0 o0 t0) so before stood;
        trace = record { entry = entry; traceable = told_first; cut = subst (λ (t : SinkState). PutBroke t t1 (trace_line entry)) so.trace puts };
        out = so.out before stood;
      });
    },
  )
  not_traced t1 stop.Memory puts = (
    journal,
    inl refl,
    record {
      traceable = so.traceable;
      writes = (so.received, (trace_text journal, puts ∙ so.trace));
      by = λ before stood. record {
        trace = puts ∙ so.trace;
        out = all_put_behind (setting_in first.kept) before journal first.out o0 (all_so_far first journal (place k0 o0 t0) so before stood) (so.out before stood);
      };
    },
  )

  -- an entry's line was put, and it was given to the run
  module _ (k1 : Keeping) (o1 t1 : SinkState) (traced : t1 ≡ grown t0 (trace_line entry)) where
    trace_is : t1 ≡ grown first.trace (trace_text (journal ++ entry ∷ []))
    trace_is = more_text _ _ _ _ _ _ so.trace traced (trace_text-append_one journal entry)

    module _ (before : List Entry) (stood : IsBehind before before first.kept) where
      brings_is : (lines : List (List ℕ)) → Brings k0.state (before ++ journal) entry lines → BringsIn (setting_in first.kept) (before ++ journal) entry lines
      brings_is lines brings = subst (λ (s : Setting). BringsIn s (before ++ journal) entry lines) so.setting brings

      text_is : (lines : List (List ℕ)) → Brings k0.state (before ++ journal) entry lines
          → settled_behind (setting_in first.kept) before (journal ++ entry ∷ []) ≡ settled_behind (setting_in first.kept) before journal ++ text_of lines
      text_is lines brings = settled_more (setting_in first.kept) before journal entry lines (brings_is lines brings) (all_so_far first journal (place k0 o0 t0) so before stood)

      all_is : (lines : List (List ℕ)) → Brings k0.state (before ++ journal) entry lines → HasAll (setting_in first.kept) before (journal ++ entry ∷ [])
      all_is lines brings = has_all_more (setting_in first.kept) before journal entry lines (brings_is lines brings) (all_so_far first journal (place k0 o0 t0) so before stood)

      fault_is : (o : Option RunFault) → settled_fault_in (setting_in k0) ((before ++ journal) ++ entry ∷ []) ≡ o → settled_fault_in (setting_in first.kept) (before ++ (journal ++ entry ∷ [])) ≡ o
      fault_is o is =
          ap (settled_fault_in (setting_in first.kept)) (sym (append_assoc before journal (entry ∷ [])))
          ∙ (ap (λ (s : Setting). settled_fault_in s ((before ++ journal) ++ entry ∷ [])) (sym so.setting) ∙ is)

      row_fault : (fault : RunFault) → IsAccepted entry → settled_fault_in (setting_in k0) ((before ++ journal) ++ entry ∷ []) ≡ Some fault
          → IsRowFaultBehind (setting_in first.kept) before (journal ++ entry ∷ []) fault
      row_fault fault accepted is = record {
        front = journal;
        row = entry.row;
        whole = ap (λ (e : Entry). journal ++ e ∷ []) (accepted_is entry accepted);
        none_before = fine_so_far first journal (place k0 o0 t0) so before stood;
        settled = fault_is (Some fault) is;
      }

      failed : (fault : RunFault) → FaultNext fault (before ++ journal) entry k0 o0 o1 → IsAccepted entry → HasMetFault fault before first (journal ++ entry ∷ []) (place k1 o1 t1)
      failed fault bad accepted = record {
        stands = row_fault fault accepted bad.is_fault;
        trace = trace_is;
        out = more_text _ _ _ _ _ _ (so.out before stood) bad.out (text_is bad.lines bad.brings);
      }

      faulted_cut : (fault : RunFault) → CutFaultNext fault (before ++ journal) entry k0 o0 o1 → IsAccepted entry → IsCutAtFault fault before first (journal ++ entry ∷ []) (place k1 o1 t1)
      faulted_cut fault bad accepted = record {
        stands = row_fault fault accepted bad.is_fault;
        trace = trace_is;
        out = subst (PutBroke first.out o1) (sym (text_is bad.lines bad.brings))
            (broke_behind first.out o0 o1 (settled_behind (setting_in first.kept) before journal) (text_of bad.lines) (so.out before stood) bad.out);
      }

      broken : CutNext (before ++ journal) entry k0 o0 o1 → IsAccepted entry → IsCutInRow before first (journal ++ entry ∷ []) (place k1 o1 t1)
      broken c accepted = record {
        no_fault = fault_is None c.fine;
        trace = trace_is;
        out = cut_at_row_behind (setting_in first.kept) before journal entry (text_of c.lines) first.out o0 o1 (all_is c.lines c.brings) accepted (text_is c.lines c.brings) (so.out before stood) c.out;
      }

      unput : KeptNext (before ++ journal) entry k0 o0 o1 → IsOutOfMemory before first (journal ++ entry ∷ []) (place k1 o1 t1)
      unput c = record {
        trace = trace_is;
        out = last_not_put_behind (setting_in first.kept) before journal entry (text_of c.lines) first.out o1 (all_is c.lines c.brings) (text_is c.lines c.brings) (c.out ∙ so.out before stood);
      }

    ran : Takes (Ok tt) entry k0 k1 o0 o1 → Received o0 o1 → HasTaken entry k0 k1 → IsSetAs k0 k1 → HasRun first (journal ++ entry ∷ []) (place k1 o1 t1)
    ran takes received taken setting =
        let more = accepted_append journal (entry ∷ []) in
        let later = late_append journal (entry ∷ []) in
        record {
          setting = setting ∙ so.setting;
          traceable = all_told;
          trace = trace_is;
          going = taken.going;
          merged = taken.merged ∙ (ap (λ (m : ℕ). time_after m entry) so.merged ∙ sym (merged_from-append first.kept.state.merged journal (entry ∷ [])));
          rows = omega (arith, taken.rows, so.rows, more);
          late = omega (arith, taken.late, so.late, later);
          accepted = omega (arith, taken.accepted, so.accepted, more);
          received = received_more first.out o0 o1 so.received received;
          stands = λ before stood. subst (λ (j : List Entry). IsBehind before j k1) (append_assoc before journal (entry ∷ [])) (takes before (before ++ journal) (so.stands before stood)).stands;
          out = λ before stood.
              let next = takes before (before ++ journal) (so.stands before stood) in
              more_text _ _ _ _ _ _ (so.out before stood) next.out (text_is before stood next.lines next.brings);
        }

    stopped : (how : Stop) → Writes (Err how) o0 o1 t0 t1 → ((before : List Entry) → IsBehind before before first.kept → StopsBy how before first (journal ++ entry ∷ []) (place k1 o1 t1)) → RunsOne (Err how) first journal entry (place k1 o1 t1)
    stopped how writes by = (
      journal ++ entry ∷ [],
      inr refl,
      record { traceable = all_told; writes = writes_more (Err how) first.out o0 o1 first.trace t0 t1 so.received (trace_text journal, so.trace) writes; by = by },
    )

    ran_one : (result : Result (Unit {0}) Stop) → Takes result entry k0 k1 o0 o1 → Writes result o0 o1 t0 t1 → OnOk result (HasTaken entry k0 k1) → IsSetAs k0 k1 → RunsOne result first journal entry (place k1 o1 t1)
    ran_one (Ok done) takes writes taken setting = ran takes writes.0 taken setting
    ran_one (Err (stop.Fault stream kind time)) takes writes taken setting = stopped (stop.Fault stream kind time) writes
        (λ before stood. failed before stood (record { stream = stream; kind = kind; time = time }) (takes.0 before (before ++ journal) (so.stands before stood)) takes.1)
    ran_one (Err (stop.CutFault stream kind time)) takes writes taken setting = stopped (stop.CutFault stream kind time) writes
        (λ before stood. faulted_cut before stood (record { stream = stream; kind = kind; time = time }) (takes.0 before (before ++ journal) (so.stands before stood)) takes.1)
    ran_one (Err stop.Put) takes writes taken setting = stopped stop.Put writes (λ before stood. inr (broken before stood (takes.0 before (before ++ journal) (so.stands before stood)) takes.1))
    ran_one (Err stop.Memory) takes writes taken setting = stopped stop.Memory writes (λ before stood. unput before stood (takes before (before ++ journal) (so.stands before stood)))

-- an entry was to be traced and run
module _ (first : Place) (journal : List Entry) (k0 k1 : Keeping) (o0 o1 t0 t1 : SinkState) (so : HasRun first journal (place k0 o0 t0)) (entry : Entry) (result : Result (Unit {0}) Stop) where
  was_not_traced : IsTraceable k0.state.plan entry → WasNotTraced result entry k0 k1 o0 o1 t0 t1 → RunsOne result first journal entry (place k1 o1 t1)
  was_not_traced told n =
      subst (λ (r : Result (Unit {0}) Stop). RunsOne r first journal entry (place k1 o1 t1)) (sym n.is)
      (subst (λ (k : Keeping). RunsOne (Err n.how) first journal entry (place k o1 t1)) (sym n.kept)
      (subst (λ (o : SinkState). RunsOne (Err n.how) first journal entry (place k0 o t1)) (sym n.out) (not_traced first journal k0 o0 t0 so entry told t1 n.how n.puts)))

  pub ran_entered : Enters result entry k0 k1 o0 o1 t0 t1 → Writes result o0 o1 t0 t1 → OnOk result (HasTaken entry k0 k1) → IsSetAs k0 k1 → RunsOne result first journal entry (place k1 o1 t1)
  ran_entered e writes taken setting = ⊎_elim
      (λ (n : WasNotTraced result entry k0 k1 o0 o1 t0 t1). was_not_traced e.told n)
      (λ (w : WasTraced result entry k0 k1 o0 o1 t0 t1). ran_one first journal k0 o0 t0 so entry e.told k1 o1 t1 w.trace result w.takes writes taken setting)
      e.does

-- one entry more, of one of so many sources
of_sources_more : (count : ℕ) (journal : List Entry) (entry : Entry) → AreOfSources count journal → entry.row.source < count → AreOfSources count (journal ++ entry ∷ [])
of_sources_more count journal entry all less = All-push (λ (e : Entry). e.row.source < count) journal entry all less

-- an entry stopped the run
pub one_stopped : (how : Stop) (count : ℕ) (first : Place) (journal : List Entry) (entry : Entry) (now : Place) → AreOfSources count journal → entry.row.source < count
    → RunsOne (Err how) first journal entry now → Halts (Err (halt.Stopped how)) count first (journal ++ entry ∷ []) now
one_stopped how count first journal entry now all less (front, at, stops) = ⊎_elim
    (λ (is : front ≡ journal). before is)
    (λ (is : front ≡ journal ++ entry ∷ []). behind is)
    at
  where
    before : front ≡ journal → IsStopped how count first (journal ++ entry ∷ []) now
    before is = record { front = front; behind = entry ∷ []; joined = ap (λ l. l ++ entry ∷ []) (sym is); sources = subst (AreOfSources count) (sym is) all; stops = stops }

    behind : front ≡ journal ++ entry ∷ [] → IsStopped how count first (journal ++ entry ∷ []) now
    behind is = record { front = front; behind = []; joined = sym is ∙ sym (append-nil front); sources = subst (AreOfSources count) (sym is) (of_sources_more count journal entry all less); stops = stops }

-- an entry that no run takes
pub one_unfit : (count : ℕ) (first : Place) (journal : List Entry) (entry : Entry) (now : Place) → AreOfSources count journal → HasRun first journal now → (IsFit count now.kept entry → ⊥)
    → Halts (Err halt.Unfit) count first (journal ++ entry ∷ []) now
one_unfit count first journal entry now all run unfit = record { front = journal; entry = entry; behind = []; joined = refl; sources = all; run = run; unfit = unfit }

-- an entry was run
pub one_run : (count : ℕ) (first : Place) (journal : List Entry) (entry : Entry) (now : Place) → AreOfSources count journal → entry.row.source < count → HasRun first (journal ++ entry ∷ []) now
    → Halts (Ok tt) count first (journal ++ entry ∷ []) now
one_run count first journal entry now all less run = (run, of_sources_more count journal entry all less)

-- what stands behind an end changes nothing of it
pub more_behind : (how : Halt) (count : ℕ) (first : Place) (front behind whole : List Entry) (now : Place) → whole ≡ front ++ behind → Halts (Err how) count first front now → Halts (Err how) count first whole now
more_behind (halt.Stopped how) count first front behind whole now is h = record {
  front = h.front;
  behind = h.behind ++ behind;
  joined = is ∙ (ap (λ l. l ++ behind) h.joined ∙ append_assoc h.front h.behind behind);
  sources = h.sources;
  stops = h.stops;
}
more_behind halt.Unfit count first front behind whole now is h = record {
  front = h.front;
  entry = h.entry;
  behind = h.behind ++ behind;
  joined = is ∙ (ap (λ l. l ++ behind) h.joined ∙ append_assoc h.front (h.entry ∷ h.behind) behind);
  sources = h.sources;
  run = h.run;
  unfit = h.unfit;
}

-- the next entry is rightly marked
pub next_marked : (now : Place) (entry : Entry) (more : List Entry) → IsPartlyRun now (entry ∷ more) → IsNext now.kept entry
next_marked now entry more way =
    let legal = IsLegalFrom-append_right way.first.kept.state.merged way.journal (entry ∷ more) way.marked in
    subst (λ t. IsRightlyMarked t entry) (sym way.run.merged) legal.0

-- the next entry alone
pub way_to_next : (now : Place) (entry : Entry) (more : List Entry) → IsPartlyRun now (entry ∷ more) → IsPartlyRun now (entry ∷ [])
way_to_next now entry more way = record {
  first = way.first;
  journal = way.journal;
  run = way.run;
  marked = IsLegalFrom-append_left way.first.kept.state.merged (way.journal ++ entry ∷ []) more
      (subst (IsLegalFrom way.first.kept.state.merged) (sym (append_assoc way.journal (entry ∷ []) more)) way.marked);
}

-- the way goes on behind an entry
pub way_on : (now next : Place) (entry : Entry) (more : List Entry) → IsPartlyRun now (entry ∷ more) → ((first : Place) (journal : List Entry) → HasRun first journal now → HasRun first (journal ++ entry ∷ []) next)
    → IsPartlyRun next more
way_on now next entry more way goes = record {
  first = way.first;
  journal = way.journal ++ entry ∷ [];
  run = goes way.first way.journal way.run;
  marked = subst (IsLegalFrom way.first.kept.state.merged) (sym (append_assoc way.journal (entry ∷ []) more)) way.marked;
}

-- a run that may count one row more has room for it
pub has_room : (now : Place) (more : List Entry) → IsPartlyRun now more → now.kept.accepted + now.kept.late < most_taken → HasRoom now.kept
has_room now more way few =
    let rows = way.run.rows in
    let counted = way.run.accepted in
    record { engine = omega (arith, rows, counted, few); rows = omega (arith, few) }

-- some entries were run one after another, and these are left
pub record RanSome (count : ℕ) (old new : Place) (all left : List Entry) : Type 0 where
  pub done : List Entry
  pub split : all ≡ done ++ left
  pub sources : AreOfSources count done
  pub runs : (first : Place) (journal : List Entry) → HasRun first journal old → HasRun first (journal ++ done) new

pub ran_none : (count : ℕ) (old : Place) (all : List Entry) → RanSome count old old all all
ran_none count old all = record {
  done = [];
  split = refl;
  sources = λ k d l. absurd (omega arith);
  runs = λ first journal run. subst (λ l. HasRun first l old) (sym (append-nil journal)) run;
}

pub ran_more : (count : ℕ) (old mid new : Place) (all : List Entry) (entry : Entry) (left : List Entry) → RanSome count old mid all (entry ∷ left) → entry.row.source < count
    → ((first : Place) (journal : List Entry) → HasRun first journal mid → HasRun first (journal ++ entry ∷ []) new) → RanSome count old new all left
ran_more count old mid new all entry left some less goes = record {
  done = some.done ++ entry ∷ [];
  split = some.split ∙ sym (append_assoc some.done (entry ∷ []) left);
  sources = of_sources_more count some.done entry some.sources less;
  runs = λ first journal run. subst (λ l. HasRun first l new) (append_assoc journal some.done (entry ∷ [])) (goes first (journal ++ some.done) (some.runs first journal run));
}

-- all of them were run
pub all_run : (count : ℕ) (old new : Place) (all : List Entry) → RanSome count old new all [] → (first : Place) (journal : List Entry) → HasRun first journal old → HasRun first (journal ++ all) new
all_run count old new all some first journal run = subst (λ l. HasRun first (journal ++ l) new) (sym (some.split ∙ append-nil some.done)) (some.runs first journal run)

pub all_halts : (count : ℕ) (old new : Place) (all : List Entry) → RanSome count old new all [] → (first : Place) (journal : List Entry) → HasRun first journal old → AreOfSources count journal
    → Halts (Ok tt) count first (journal ++ all) new
all_halts count old new all some first journal run sources = (
  all_run count old new all some first journal run,
  subst (λ l. AreOfSources count (journal ++ l)) (sym (some.split ∙ append-nil some.done)) (All-append (λ (e : Entry). e.row.source < count) journal some.done sources some.sources),
)

-- the next of them ended it
pub next_halts : (how : Halt) (count : ℕ) (old mid new : Place) (all : List Entry) (entry : Entry) (left : List Entry) → RanSome count old mid all (entry ∷ left)
    → ((first : Place) (journal : List Entry) → HasRun first journal mid → AreOfSources count journal → Halts (Err how) count first (journal ++ entry ∷ []) new)
    → (first : Place) (journal : List Entry) → HasRun first journal old → AreOfSources count journal → Halts (Err how) count first (journal ++ all) new
next_halts how count old mid new all entry left some ends first journal run sources =
    more_behind how count first ((journal ++ some.done) ++ entry ∷ []) left (journal ++ all) new
    (ap (λ l. journal ++ l) some.split ∙ (sym (append_assoc journal some.done (entry ∷ left)) ∙ sym (append_assoc (journal ++ some.done) (entry ∷ []) left)))
    (ends first (journal ++ some.done) (some.runs first journal run) (All-append (λ (e : Entry). e.row.source < count) journal some.done sources some.sources))
