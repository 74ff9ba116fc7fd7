-- What the lines behind the verdict lines tell.
use Rattle.std.proofs.Common.{◌≡◌, ◌≢◌, ◌∙◌, refl, sym, ap, subst, inl, inr, ℕ, ◌+◌, ◌<◌, ◌≤◌, List, [], ◌∷◌, ◌++◌, Option, Some, None, IfOk, Result, Ok, Err, append-nil, arith, drop, length, slice_get, take}
use Rattle.std.specs.Option.{option_map}
use Rattle.lola_model.specs.Faults.{RunFault}
use Rattle.lola_model.specs.Journal.{accepted}
use Rattle.lola_model.specs.NextStep.{after_last, next_below}
use Rattle.lola_model.specs.Runs.{HasModelsOfRuns, final_lines, run_start, whole_model}
use Rattle.lola_model.specs.Steps.{start_of}
use Rattle.lola_model.specs.Table.{TableRow}
use Rattle.lola_model.specs.declared.journal.Row.{Row}
use Rattle.lola_value.specs.declared.text.Memory.{Memory}
use Rattle.std.proofs.lemmas.List.{length-drop}
use Rattle.std.proofs.Math.ListN.{drop_of_length-le}
use Rattle.lola_model.specs.Texts.{table_lines}
use Rattle.lola_model.specs.declared.journal.Entry.{Entry}
use Rattle.lola_model.specs.declared.journal.Show.{Show}
use Rattle.lola_model.specs.declared.plan.Plan.{Plan}
use Rattle.lola_report.specs.Ends.{done_text}
use Rattle.lola_replay.specs.Comparing.{IsCompared, IsComparedBy, comparison, line_long}
use Rattle.lola_replay.specs.Ending.{FindsEnd, FindsVerdicts, HasMore, HasNoEnd, IsEndBy, IsEnded, IsLast}
use Rattle.lola_replay.specs.Ends.{IsEndLine, IsEndOf, done_line, late_count}
use Rattle.lola_replay.specs.LinesOf.{IsFirstLine, lines_of}
use Rattle.lola_replay.specs.Progressing.{IsAlong, IsPassed, IsPast, IsSettled, IsStopped, the_run_fault}
use Rattle.lola_replay.specs.Running.{IsOn, IsStart}
use Rattle.lola_replay.specs.Tracked.{IsBegin, Tracks, start_at}
use Rattle.lola_replay.specs.Verdicts.{IsOtherAt, IsThere}
use Rattle.lola_replay.specs.declared.compare.Compared.{Compared}
use Rattle.lola_replay.specs.declared.entries.ReplayedRun.{ReplayedRun}
use Rattle.lola_replay.specs.declared.finding.Finding.{Finding}
use Rattle.lola_replay.specs.declared.finding.Finding.TheVariants as finding
use Rattle.lola_replay.specs.declared.progress.Fault.{Fault}
use Rattle.lola_replay.specs.declared.progress.Progress.{Progress}
use Rattle.lola_replay.specs.declared.written.RunCounts.{RunCounts}
use Rattle.lola_replay.proofs.ComparingLemmas.{lines-first}
use Rattle.lola_replay.proofs.RunningLemmas.{starts-at, starts-run}
use Rattle.lola_replay.proofs.TakingLemmas.{along-end, below-none}
use Rattle.lola_replay.proofs.UnderwayLemmas.{settled-whole, stopped-whole, whole-by}
use Rattle.lola_replay.proofs.VerdictLemmas.{differs, ends, no-end, surplus}

module _ (plan : Plan) (has : HasModelsOfRuns plan) (start : Option ℕ) (show : Show) (text : List ℕ) (journal : List Entry) where
  abbrev begin : ℕ
  begin = run_start plan start journal

  lines-by : (table : List TableRow) → table ≡ whole_model plan start journal → table_lines show plan.spec.streams table ≡ final_lines plan start journal show
  unfolding final_lines
  lines-by table is = ap (table_lines show plan.spec.streams) is

  module _ (run : ReplayedRun) (tracks : Tracks start journal run.tracking) where
    -- a fault of the settled steps is that of all
    pub ended-settled : (f : Fault) → IsStopped plan show text begin (next_below plan begin (accepted journal) 0) f run.progress → IsEnded plan start show text journal (Some f) run
    ended-settled f is =
        let told = settled-whole plan has start journal is.table is.made is.lawful _ is.fault_is is.so_far is.comes in
        record {
          tracks = tracks;
          fault_is = told.1 ∙ ap (λ t. Some (record { stream = f.stream; kind = f.kind; time = t })) is.time_is;
          steps_are = is.steps_are ∙ ap (λ (rs : List TableRow). length rs) told.0;
          compared_by = subst (λ (ls : List (List ℕ)). IsComparedBy text ls run.progress.compared) (lines-by (is.table ++ is.made ∷ []) told.0) is.compared_by;
        }

    -- and so is a fault behind the last row
    pub ended-stopped : (f : Fault) → IsStopped plan show text begin (next_below plan begin (accepted journal) (after_last (accepted journal))) f run.progress → IsEnded plan start show text journal (Some f) run
    ended-stopped f is =
        let told = stopped-whole plan has start journal is.table is.made is.lawful _ is.fault_is is.so_far is.comes in
        record {
          tracks = tracks;
          fault_is = told.1 ∙ ap (λ t. Some (record { stream = f.stream; kind = f.kind; time = t })) is.time_is;
          steps_are = is.steps_are ∙ ap (λ (rs : List TableRow). length rs) told.0;
          compared_by = subst (λ (ls : List (List ℕ)). IsComparedBy text ls run.progress.compared) (lines-by (is.table ++ is.made ∷ []) told.0) is.compared_by;
        }

    -- without a fault, all steps are taken
    pub ended-past : IsPast plan show text begin (next_below plan begin (accepted journal) (after_last (accepted journal))) (length (accepted journal)) (after_last (accepted journal)) run.progress
        → IsEnded plan start show text journal None run
    ended-past is =
        let told = whole-by plan has start journal is.table is.so_far is.taken (below-none (after_last (accepted journal)) _ None is.none) in
        record {
          tracks = tracks;
          fault_is = told.1;
          steps_are = is.at.steps_are ∙ ap (λ (rs : List TableRow). length rs) told.0;
          compared_by = subst (λ (ls : List (List ℕ)). IsComparedBy text ls run.progress.compared) (lines-by is.table told.0) is.at.compared_by;
        }

-- where time counts from behind the last line
start-is : (start : Option ℕ) (rows : List Row) (b : Option ℕ) → IsBegin start rows b → start_at b 0 ≡ start_of start rows
start-is start rows None is = sym (ap (λ o. start_of o rows) is.0 ∙ ap (λ (rs : List Row). start_of None rs) is.1)
start-is start rows (Some t) is = sym (ap (start_of start) (sym (append-nil rows)) ∙ is [])

module _ (plan : Plan) (has : HasModelsOfRuns plan) (start : Option ℕ) (show : Show) (text : List ℕ) (journal : List Entry) (run : ReplayedRun) (on : IsOn plan start show text journal run) where
  abbrev here : ℕ
  here = run_start plan start journal

  -- a fault that was told
  pub ended-told : (f : Fault) → run.fault ≡ Some f → IsEnded plan start show text journal (Some f) run
  ended-told f told =
      ended-settled plan has start show text journal run on.tracks f
      (subst (λ (o : Option Fault). IsSettled plan show text here (accepted journal) o run.progress) told
      (on.settled here (starts-run start (accepted journal) run.tracking.begin on.tracks.begin_is)))

  module _ (fine : run.fault ≡ None) (t : ℕ) (is : t ≡ start_at run.tracking.begin 0) where
    -- so far no step has a fault
    pub along-last : IsAlong plan show text t (next_below plan t (accepted journal) run.tracking.limit) (length (accepted journal)) run.progress
    along-last =
        along-end plan show text t (accepted journal) run.tracking.limit run.progress
        (subst (λ (o : Option Fault). IsSettled plan show text t (accepted journal) o run.progress) fine
        (on.settled t (subst (IsStart run.tracking.begin) (sym is) (starts-at run.tracking.begin 0))))

    abbrev IsPassedAt : ℕ → ℕ → Option Fault → Progress → Type 0
    IsPassedAt u limit f p = IsPassed plan show text u (next_below plan u (accepted journal) limit) (length (accepted journal)) limit f p

    by-fault : (f : Option Fault) (p : Progress) → IsPassedAt here (after_last (accepted journal)) f p → IsEnded plan start show text journal f (record run { progress = p })
    by-fault None p passed = ended-past plan has start show text journal (record run { progress = p }) on.tracks passed
    by-fault (Some f) p passed = ended-stopped plan has start show text journal (record run { progress = p }) on.tracks f passed

    -- the deadlines behind the last row are taken
    pub ended-last : (p : Progress) (r : Result (Option Fault) Memory) → IfOk r (λ f. IsPassedAt t run.tracking.limit f p) → IfOk r (λ f. IsEnded plan start show text journal f (record run { progress = p }))
    ended-last p (Err e) passed = tt
    ended-last p (Ok f) passed =
        let same : t ≡ here = is ∙ start-is start (accepted journal) run.tracking.begin on.tracks.begin_is in
        by-fault f p (subst (λ limit. IsPassedAt here limit f p) on.tracks.limit_is (subst (λ u. IsPassedAt u run.tracking.limit f p) same passed))

-- the line that stands behind the verdict lines

module _ (plan : Plan) (counts : RunCounts) (fault : Option Fault) where
  abbrev first : List ℕ → List ℕ
  first rest = take (line_long rest) rest

  split : (rest : List ℕ) → rest ≢ [] → lines_of rest ≡ first rest ∷ lines_of (drop (line_long rest) rest)
  split [] some = absurd (some refl)
  split (b ∷ bs) some = lines-first b bs

  pub no-line : (rest : List ℕ) → rest ≡ [] → HasNoEnd plan counts fault (lines_of rest)
  no-line rest none = subst (λ (bs : List ℕ). HasNoEnd plan counts fault (lines_of bs)) (sym none) tt

  pub no-end-line : (rest : List ℕ) → rest ≢ [] → ¬ (IsEndBy plan counts fault (first rest)) → HasNoEnd plan counts fault (lines_of rest)
  no-end-line rest some off = subst (HasNoEnd plan counts fault) (sym (split rest some)) off

  pub more-behind : (rest : List ℕ) → rest ≢ [] → IsEndBy plan counts fault (first rest) → line_long rest < length rest → HasMore plan counts fault (lines_of rest)
  more-behind rest some end long = go (drop (line_long rest) rest) refl
    where
      go : (bs : List ℕ) → drop (line_long rest) rest ≡ bs → HasMore plan counts fault (lines_of rest)
      go [] e = (let left = length-drop (line_long rest) rest in let none = ap (λ (l : List ℕ). length l) e in absurd (omega (arith, left, none, long)))
      go (b ∷ bs) e = record {
        last = first rest;
        other = first (b ∷ bs);
        more = lines_of (drop (line_long (b ∷ bs)) (b ∷ bs));
        end = end;
        whole = split rest some ∙ ap (λ (l : List ℕ). first rest ∷ lines_of l) e ∙ ap (λ ls. first rest ∷ ls) (lines-first b bs);
      }

  pub last-there : (rest : List ℕ) → rest ≢ [] → IsEndBy plan counts fault (first rest) → length rest ≤ line_long rest → IsLast plan counts fault (lines_of rest)
  last-there rest some end long = record {
    last = first rest;
    end = end;
    only = split rest some ∙ ap (λ (l : List ℕ). first rest ∷ lines_of l) (drop_of_length-le rest long);
  }

-- end lines

module _ (plan : Plan) (start : Option ℕ) (show : Show) (text : List ℕ) (journal : List Entry) (fault : Option Fault) (run : ReplayedRun) (ended : IsEnded plan start show text journal fault run)
    (none : run.progress.compared.other ≡ None) where
  abbrev compared : Compared
  compared = run.progress.compared

  abbrev counts : RunCounts
  counts = record { accepted = run.tracking.rows; late = run.tracking.late; steps = run.progress.steps; lines = compared.lines }

  abbrev rest : List (List ℕ)
  rest = lines_of compared.rest.now

  same-so-far : (lines_of text ≡ final_lines plan start journal show ++ rest) × (compared.lines ≡ length (final_lines plan start journal show))
  same-so-far = subst (λ o. IsCompared text (final_lines plan start journal show) (comparison compared) o) none ended.compared_by

  done-is : done_text counts.accepted counts.late counts.steps counts.lines ≡ done_line plan start show journal
  done-is =
      ap (λ n. done_text n counts.late counts.steps counts.lines) ended.tracks.rows_are
      ∙ ap (λ n. done_text (length (accepted journal)) n counts.steps counts.lines) ended.tracks.late_are
      ∙ ap (λ n. done_text (length (accepted journal)) (late_count journal) n counts.lines) ended.steps_are
      ∙ ap (done_text (length (accepted journal)) (late_count journal) (length (whole_model plan start journal))) same-so-far.1

  end-by : (f : Option Fault) (line : List ℕ) → IsEndBy plan counts f line → IsEndOf plan start show journal (option_map the_run_fault f) line
  end-by None line (inl done) = inl (done ∙ done-is)
  end-by None line (inr other) = inr other
  end-by (Some f) line is = is

  by-end : (f : Option Fault) (line : List ℕ) → IsEndOf plan start show journal (option_map the_run_fault f) line → IsEndBy plan counts f line
  by-end None line (inl done) = inl (done ∙ sym done-is)
  by-end None line (inr other) = inr other
  by-end (Some f) line is = is

  is-end : (line : List ℕ) → IsEndBy plan counts fault line → IsEndLine plan start show journal line
  is-end line is = subst (λ (o : Option RunFault). IsEndOf plan start show journal o line) (sym ended.fault_is) (end-by fault line is)

  not-end : (line : List ℕ) → ¬ (IsEndBy plan counts fault line) → ¬ (IsEndLine plan start show journal line)
  not-end line off is = off (by-end fault line (subst (λ (o : Option RunFault). IsEndOf plan start show journal o line) ended.fault_is is))

  no-end-there : (ls : List (List ℕ)) → HasNoEnd plan counts fault ls → ¬ (IsThere (λ line. IsEndLine plan start show journal line) (slice_get ls 0))
  no-end-there [] off is = is
  no-end-there (l ∷ ls) off is = not-end l off is

  -- what is found
  pub finds : (f : Finding) → FindsEnd plan counts fault run.tracking.entries compared f → FindsVerdicts plan start show text journal f
  finds (finding.TraceDiffers n) is = absurd is
  finds (finding.VerdictsDiffer n) (inl (off, at)) =
      let number : length (final_lines plan start journal show) + 1 ≡ n = ap (λ k. k + 1) (sym same-so-far.1) ∙ sym at in
      subst (λ k. IsFirstLine (IsOtherAt plan start show journal (lines_of text)) k) number (no-end plan start show journal (lines_of text) rest same-so-far.0 (no-end-there rest off))
  finds (finding.VerdictsDiffer n) (inr (more, at)) =
      let number : length (final_lines plan start journal show) + 2 ≡ n = ap (λ k. k + 2) (sym same-so-far.1) ∙ sym at in
      subst (λ k. IsFirstLine (IsOtherAt plan start show journal (lines_of text)) k) number
      (surplus plan start show journal (lines_of text) rest same-so-far.0 more.last more.other more.more more.whole (is-end more.last more.end))
  finds (finding.Same e l) (last, entries, lines) = (
    ends plan start show journal (lines_of text) rest same-so-far.0 last.last last.only (is-end last.last last.end),
    entries ∙ ended.tracks.entries_are,
    lines ∙ same-so-far.1,
  )

  pub finds-ended : (r : Result Finding Memory) → IfOk r (FindsEnd plan counts fault run.tracking.entries compared) → IfOk r (FindsVerdicts plan start show text journal)
  finds-ended (Ok f) is = finds f is
  finds-ended (Err e) is = tt

-- where a verdict line was another one
pub finds-other : (plan : Plan) (start : Option ℕ) (show : Show) (text : List ℕ) (journal : List Entry) (fault : Option Fault) (run : ReplayedRun) (n : ℕ) → IsEnded plan start show text journal fault run
    → run.progress.compared.other ≡ Some n → IsFirstLine (IsOtherAt plan start show journal (lines_of text)) n
finds-other plan start show text journal fault run n ended some =
    differs plan start show journal (lines_of text) n
    (subst (λ o. IsCompared text (final_lines plan start journal show) (comparison run.progress.compared) o) some ended.compared_by)
