-- One more line is taken, or it is the first that is wrong.
use Rattle.std.proofs.Common.{◌≡◌, ◌≢◌, ◌∙◌, refl, sym, ap, subst, inl, inr, ◌⊎◌, ℕ, ◌+◌, ◌<◌, ◌≤◌, List, [], ◌∷◌, ◌++◌, Option, Some, None, Bool, true, false, arith, append_assoc, append-nil, drop, filter, ◌^◌, ◌&&◌, get_or, if◌then◌else◌, is_some, length, map, nat_lt, slice_get, take}
use Rattle.std.proofs.lemmas.Slice.Zip.{AllZip-long}
use Rattle.std.specs.Prelude.{unwrap_or}
use Rattle.std.proofs.lemmas.Bool.{and_parts, leb-true, ltb-true}
use Rattle.lola_value.specs.Times.{latest}
use Rattle.lola_model.specs.Model.{is_input, filled_kind}
use Rattle.lola_model.specs.declared.spec.Stream.{Stream}
use Rattle.std.proofs.Math.Seq.{take-append_seam}
use Rattle.std.proofs.lemmas.List.{length-map, map-append}
use Rattle.lola_model.proofs.Journals.{accepted-append_accepted, accepted-append_late}
use Rattle.lola_model.specs.Journal.{accepted}
use Rattle.lola_model.specs.NextStep.{next_below}
use Rattle.lola_model.specs.Runs.{HasModelsOfRuns, run_start, settled_fault}
use Rattle.lola_model.specs.Steps.{start_of}
use Rattle.lola_model.specs.Trace.{IsFieldOf, IsTraceable, input_kinds, trace_line}
use Rattle.lola_model.specs.declared.journal.Entry.{Entry}
use Rattle.lola_model.specs.declared.journal.Mark.{Mark}
use Rattle.lola_model.specs.declared.journal.Mark.TheVariants as mark
use Rattle.lola_model.specs.declared.journal.Row.{Row}
use Rattle.lola_model.specs.declared.journal.Show.{Show}
use Rattle.lola_model.specs.declared.plan.Plan.{Plan}
use Rattle.lola_report.specs.Journals.{IsLineOf}
use Rattle.lola_replay.specs.Comparing.{line_long}
use Rattle.lola_replay.specs.Ends.{most_sources}
use Rattle.lola_replay.specs.LinesOf.{IsFirstLine, lines_of}
use Rattle.lola_replay.specs.Progressing.{IsAlong, IsAt, IsFit, IsSettled, IsStopped}
use Rattle.lola_replay.specs.Running.{IsFitRun, IsGoingOn, IsOn, IsStart, IsTaking, IsWhole}
use Rattle.lola_replay.specs.Traces.{AreRightFrom, IsMismarked, IsMisnumbered, IsRightEntry, IsWrongAt, IsWrongLine}
use Rattle.lola_replay.specs.Tracked.{IsBegin, IsTallied, Tracks, is_marked, is_next, is_right, marked_in, noted, numbered_in, start_at}
use Rattle.lola_replay.specs.declared.entries.ReplayedRun.{ReplayedRun}
use Rattle.lola_replay.specs.declared.progress.Fault.{Fault}
use Rattle.lola_replay.specs.declared.progress.Progress.{Progress}
use Rattle.lola_replay.specs.declared.tracking.Tracking.{Tracking}
use Rattle.lola_replay.proofs.ComparingLemmas.{lines-first}
use Rattle.lola_replay.proofs.RightLines.{not-before, right-trace, seam, traceable-all}
use Rattle.lola_replay.proofs.TrackingLemmas.{right-is, tallied-more, tracks-more, wrong-is}
use Rattle.lola_replay.proofs.UnderwayLemmas.{settled-by, stopped-settled}

-- whether there is a fault

pub none-by : (o : Option Fault) → is_some o ≡ false → o ≡ None
none-by None e = refl
none-by (Some f) e = absurd (cc e)

pub some-by : (o : Option Fault) → is_some o ≡ true → o ≢ None
some-by None e = absurd (cc e)
some-by (Some f) e = λ none. absurd (cc none)

-- where time counts from

pub starts-at : (b : Option ℕ) (stamp : ℕ) → IsStart b (start_at b stamp)
starts-at None stamp = tt
starts-at (Some t) stamp = refl

pub starts-run : (start : Option ℕ) (rows : List Row) (b : Option ℕ) → IsBegin start rows b → IsStart b (start_of start rows)
starts-run start rows None is = tt
starts-run start rows (Some t) is = sym (is []) ∙ ap (start_of start) (append-nil rows)

module _ (plan : Plan) (has : HasModelsOfRuns plan) (start : Option ℕ) (show : Show) (text : List ℕ) (journal : List Entry) (run : ReplayedRun) (on : IsOn plan start show text journal run) where
  abbrev here : ℕ
  here = run_start plan start journal

  at-start : IsSettled plan show text here (accepted journal) run.fault run.progress
  at-start = on.settled here (starts-run start (accepted journal) run.tracking.begin on.tracks.begin_is)

  -- where there was no fault, there is none in the settled steps
  pub fine-so-far : run.fault ≡ None → settled_fault plan start journal ≡ None
  fine-so-far none =
      let along : IsAlong plan show text here (next_below plan here (accepted journal) 0) (length (accepted journal)) run.progress =
      subst (λ (f : Option Fault). IsSettled plan show text here (accepted journal) f run.progress) none at-start in
      (settled-by plan has start journal along.table along.so_far along.taken).1

  -- and where there was one, there is
  pub faulty-so-far : run.fault ≢ None → settled_fault plan start journal ≢ None
  faulty-so-far some none = go run.fault refl
    where
      go : (f : Option Fault) → run.fault ≡ f → ⊥
      go None e = some e
      go (Some f) e =
          let is : IsStopped plan show text here (next_below plan here (accepted journal) 0) f run.progress =
          subst (λ (f : Option Fault). IsSettled plan show text here (accepted journal) f run.progress) e at-start in
          let told = stopped-settled plan has start journal is.table is.made is.lawful _ is.fault_is is.so_far is.comes in
          let both = sym told ∙ none in
          absurd (cc both)

  -- a line behind a fault is wrong
  pub wrong-fault : (line : List ℕ) → run.fault ≢ None → IsWrongLine plan start journal line
  wrong-fault line some = inr (inr (inr (inr (faulty-so-far some))))

  -- a line that tells an entry which is not right
  pub wrong-entry : (line : List ℕ) (e : Entry) → IsLineOf plan line e → is_right run.tracking e ≡ false → IsWrongLine plan start journal line
  wrong-entry line e is off = go (wrong-is plan start journal e run.tracking on.tracks off)
    where
      go : (most_sources ≤ e.row.source) ⊎ (IsMisnumbered plan start journal e ⊎ IsMismarked plan start journal e) → IsWrongLine plan start journal line
      go (inl far) = inr (inl (e, is, far))
      go (inr (inl number)) = inr (inr (inl (e, is, number)))
      go (inr (inr marked)) = inr (inr (inr (inl (e, is, marked))))

  -- and one that tells one which is
  pub right-line : (line : List ℕ) (e : Entry) → IsLineOf plan line e → run.fault ≡ None → is_right run.tracking e ≡ true → IsRightEntry plan start journal e
  right-line line e is none hit =
      let right = right-is plan start journal e run.tracking on.tracks hit in
      record { traceable = is.traceable; known = right.0; numbered = right.1; marked = right.2; fine = fine-so-far none }

-- the steps of one more entry

pub steps-accepted : (plan : Plan) (start : Option ℕ) (show : Show) (text : List ℕ) (journal : List Entry) (e : Entry) (t : Tracking) (fault : Option Fault) (p : Progress)
    → e.mark ≡ mark.Accepted → IsSettled plan show text (start_at t.begin e.row.stamp) (accepted journal ++ e.row ∷ []) fault p
    → (u : ℕ) → IsStart (marked_in e.mark e.row.stamp t).begin u → IsSettled plan show text u (accepted (journal ++ e ∷ [])) fault p
steps-accepted plan start show text journal e t fault p is settled u begins =
    let same : start_at t.begin e.row.stamp ≡ u = subst (λ (m : Mark). IsStart (marked_in m e.row.stamp t).begin u) is begins in
    subst (λ (rs : List Row). IsSettled plan show text u rs fault p) (sym (accepted-append_accepted journal e is))
    (subst (λ v. IsSettled plan show text v (accepted journal ++ e.row ∷ []) fault p) same settled)

pub steps-late : (plan : Plan) (start : Option ℕ) (show : Show) (text : List ℕ) (journal : List Entry) (e : Entry) (m : ℕ) (run : ReplayedRun)
    → e.mark ≡ mark.Late m → IsOn plan start show text journal run
    → (u : ℕ) → IsStart (marked_in e.mark e.row.stamp run.tracking).begin u → IsSettled plan show text u (accepted (journal ++ e ∷ [])) run.fault run.progress
steps-late plan start show text journal e m run is on u begins =
    subst (λ (rs : List Row). IsSettled plan show text u rs run.fault run.progress) (sym (accepted-append_late journal e m is))
    (on.settled u (subst (λ (k : Mark). IsStart (marked_in k e.row.stamp run.tracking).begin u) is begins))

-- lines of a trace

right-more : (plan : Plan) (start : Option ℕ) (before es : List Entry) (e : Entry) → AreRightFrom plan start before es → IsRightEntry plan start (before ++ es) e
    → AreRightFrom plan start before (es ++ e ∷ [])
right-more plan start before [] e are is = (subst (λ (js : List Entry). IsRightEntry plan start js e) (append-nil before) is, tt)
right-more plan start before (d ∷ es) e are is =
    (are.0, right-more plan start (before ++ d ∷ []) es e are.1 (subst (λ (js : List Entry). IsRightEntry plan start js e) (sym (append_assoc before (d ∷ []) es)) is))

module _ (plan : Plan) (start : Option ℕ) (show : Show) (text trace rest : List ℕ) (before : ReplayedRun) (taking : IsTaking plan start show text trace rest before) where
  abbrev first : List ℕ
  first = take (line_long rest) rest

  abbrev behind : List ℕ
  behind = drop (line_long rest) rest

  split : rest ≢ [] → lines_of rest ≡ first ∷ lines_of behind
  split some = go rest refl
    where
      go : (bs : List ℕ) → rest ≡ bs → lines_of bs ≡ take (line_long bs) bs ∷ lines_of (drop (line_long bs) bs)
      go [] e = absurd (some e)
      go (b ∷ bs) e = lines-first b bs

  -- one more is taken
  pub taken-line : (after : ReplayedRun) → rest ≢ [] → IsGoingOn plan start show text taking.journal first after → IsTaking plan start show text trace behind after
  taken-line after some going =
      let e = going.entry in
      record {
        journal = taking.journal ++ e ∷ [];
        written = taking.written
            ∙ ap (λ ls. map trace_line taking.journal ++ ls) (split some ∙ ap (λ l. l ∷ lines_of behind) (sym going.line_of.written))
            ∙ sym (append_assoc (map trace_line taking.journal) (trace_line e ∷ []) (lines_of behind))
            ∙ ap (λ (ls : List (List ℕ)). ls ++ lines_of behind) (sym (map-append trace_line taking.journal (e ∷ [])));
        right = right-more plan start [] taking.journal e taking.right going.right;
        on = going.on;
      }

  -- or it is the first that is wrong
  pub wrong-line : rest ≢ [] → IsWrongLine plan start taking.journal first → IsFirstLine (IsWrongAt plan start (lines_of trace)) (length taking.journal + 1)
  wrong-line some wrong =
      let long : length (map trace_line taking.journal) ≡ length taking.journal = length-map taking.journal trace_line in
      let whole : lines_of trace ≡ map trace_line taking.journal ++ first ∷ lines_of behind = taking.written ∙ ap (λ ls. map trace_line taking.journal ++ ls) (split some) in
      record {
        place = length taking.journal;
        number = refl;
        holds = record {
          before = taking.journal;
          line = first;
          told = record {
            written = ap (take (length taking.journal)) whole
                ∙ ap (λ n. take n (map trace_line taking.journal ++ first ∷ lines_of behind)) (sym long)
                ∙ take-append_seam (map trace_line taking.journal) (first ∷ lines_of behind);
            traceable = traceable-all plan start (lines_of trace) [] taking.journal taking.right;
          };
          there = ap (λ (ls : List (List ℕ)). slice_get ls (length taking.journal)) whole
              ∙ ap (slice_get (map trace_line taking.journal ++ first ∷ lines_of behind)) (sym long)
              ∙ seam (map trace_line taking.journal) first (lines_of behind);
          wrong = wrong;
        };
        least = λ place w. not-before plan start (lines_of trace) taking.journal (lines_of rest) taking.written taking.right place w;
      }

  -- no line is left
  pub whole-trace : rest ≡ [] → IsWhole plan start show text trace before
  whole-trace none = record {
    journal = taking.journal;
    right = right-trace plan start (lines_of trace) taking.journal (taking.written ∙ ap (λ bs. map trace_line taking.journal ++ lines_of bs) none ∙ append-nil (map trace_line taking.journal)) taking.right;
    on = taking.on;
  }

-- before the first line

pub begun-on : (plan : Plan) (start : Option ℕ) (show : Show) (text : List ℕ) (t : Tracking) (p : Progress) → Tracks start [] t → IsAt plan show text [] p
    → IsOn plan start show text [] (record { tracking = t; progress = p; fault = None })
begun-on plan start show text t p tracks at = record { tracks = tracks; settled = λ u begins. record { table = []; so_far = tt; taken = refl; at = at } }

pub begun-fit : (plan : Plan) (t : Tracking) (p : Progress) → IsTallied t → t.entries ≡ 0 → IsFit plan p × (p.from ≡ 0) × (p.rows ≡ 0) → IsFitRun plan (record { tracking = t; progress = p; fault = None })
begun-fit plan t p tallied none (fit, from, rows) =
    let fewer = tallied.fewer_rows in
    record {
      tallied = tallied;
      room = fit.room;
      fit = λ e. fit;
      rows_are = λ e. omega (arith, fewer, none, rows);
      merged_late = λ e. omega (arith, from);
      limit_late = λ e. omega (arith, from);
    }

-- an entry is taken

pub entry-on : (plan : Plan) (start : Option ℕ) (show : Show) (text : List ℕ) (journal : List Entry) (e : Entry) (before : ReplayedRun) (p : Progress) (f : Option Fault)
    → IsOn plan start show text journal before → IsTallied before.tracking → is_right before.tracking e ≡ true
    → ((u : ℕ) → IsStart (marked_in e.mark e.row.stamp before.tracking).begin u → IsSettled plan show text u (accepted (journal ++ e ∷ [])) f p)
    → IsOn plan start show text (journal ++ e ∷ []) (record { tracking = noted e before.tracking; progress = p; fault = f })
entry-on plan start show text journal e before p f on tallied right settled =
    let low = (right-is plan start journal e before.tracking on.tracks right).0 in
    record { tracks = tracks-more start journal e before.tracking on.tracks low tallied.sources; settled = go e.mark refl }
  where
    go : (m : Mark) → e.mark ≡ m → (u : ℕ) → IsStart (noted e before.tracking).begin u → IsSettled plan show text u (accepted (journal ++ e ∷ [])) f p
    go m is u begins = settled u begins

-- its steps keep what holds whatever was told

late-mark : (t : Tracking) (e : Entry) (m : Mark) → is_marked t.merged e.row.stamp m ≡ true → m ≡ mark.Accepted → t.merged ≤ e.row.stamp
late-mark t e mark.Accepted hit is = leb-true t.merged e.row.stamp hit
late-mark t e (mark.Late u) hit is = absurd (cc is)

pub accepted-late : (t : Tracking) (e : Entry) → is_right t e ≡ true → e.mark ≡ mark.Accepted → t.merged ≤ e.row.stamp
accepted-late t e right is =
    let p = and_parts (nat_lt e.row.source 64) (is_next e.row.number (get_or t.numbers e.row.source 0) && is_marked t.merged e.row.stamp e.mark) right in
    let q = and_parts (is_next e.row.number (get_or t.numbers e.row.source 0)) (is_marked t.merged e.row.stamp e.mark) p.1 in
    late-mark t e e.mark q.1 is

pub low-source : (t : Tracking) (e : Entry) → is_right t e ≡ true → e.row.source < 64
low-source t e right =
    ltb-true e.row.source 64 (and_parts (nat_lt e.row.source 64) (is_next e.row.number (get_or t.numbers e.row.source 0) && is_marked t.merged e.row.stamp e.mark) right).0

pub accepted-fit : (plan : Plan) (e : Entry) (before : ReplayedRun) (p : Progress) (f : Option Fault) → e.mark ≡ mark.Accepted → e.row.stamp ≤ latest → IsFitRun plan before → before.fault ≡ None
    → p.compared.lines + length p.compared.rest.now < 2 ^ 63 → (f ≡ None → IsFit plan p × (p.from ≡ e.row.stamp) × (p.rows ≡ before.progress.rows + 1))
    → IsFitRun plan (record { tracking = noted e before.tracking; progress = p; fault = f })
accepted-fit plan e before p f is stamp fit fine room kept =
    let tallied = tallied-more e before.tracking stamp fit.tallied in
    let were = fit.rows_are fine in
    go e.mark is tallied were
  where
    go : (m : Mark) → m ≡ mark.Accepted → IsTallied (numbered_in e.row.source e.row.number (marked_in m e.row.stamp before.tracking)) → before.progress.rows ≡ before.tracking.rows
        → IsFitRun plan (record { tracking = numbered_in e.row.source e.row.number (marked_in m e.row.stamp before.tracking); progress = p; fault = f })
    go (mark.Late u) same tallied were = absurd (cc same)
    go mark.Accepted same tallied were = record {
      tallied = tallied;
      room = room;
      fit = λ none. (kept none).0;
      rows_are = λ none. (let more = (kept none).2 in omega (arith, more, were));
      merged_late = λ none. (let from = (kept none).1 in omega (arith, from));
      limit_late = λ none. (let from = (kept none).1 in omega (arith, from));
    }

pub late-fit : (plan : Plan) (e : Entry) (before : ReplayedRun) (u : ℕ) → e.mark ≡ mark.Late u → e.row.stamp ≤ latest → IsFitRun plan before
    → IsFitRun plan (record { tracking = noted e before.tracking; progress = before.progress; fault = before.fault })
late-fit plan e before u is stamp fit = go e.mark is (tallied-more e before.tracking stamp fit.tallied)
  where
    go : (m : Mark) → m ≡ mark.Late u → IsTallied (numbered_in e.row.source e.row.number (marked_in m e.row.stamp before.tracking))
        → IsFitRun plan (record { tracking = numbered_in e.row.source e.row.number (marked_in m e.row.stamp before.tracking); progress = before.progress; fault = before.fault })
    go mark.Accepted same tallied = absurd (cc same)
    go (mark.Late v) same tallied =
        record { tallied = tallied; room = fit.room; fit = fit.fit; rows_are = fit.rows_are; merged_late = fit.merged_late; limit_late = fit.limit_late }

-- fields of an entry that a trace can tell are those of the inputs

kinds-long : (ss : List Stream) → length (input_kinds ss) ≡ length (filter is_input ss)
kinds-long [] = refl
kinds-long (s ∷ ss) = go (kinds-long ss) (is_input s)
  where
    go : length (input_kinds ss) ≡ length (filter is_input ss) → (b : Bool)
        → length (if b then filled_kind s ∷ input_kinds ss else input_kinds ss) ≡ length (if b then s ∷ filter is_input ss else filter is_input ss)
    go rest true = omega (arith, rest)
    go rest false = rest

pub few-fields : (plan : Plan) (e : Entry) → length (filter is_input plan.spec.streams) ≤ 64 → IsTraceable plan e → length e.row.fields ≤ 64
few-fields plan e few is =
    let same = AllZip-long IsFieldOf (input_kinds plan.spec.streams) e.row.fields is.fields in
    let as_many = kinds-long plan.spec.streams in
    omega (arith, same, as_many, few)
