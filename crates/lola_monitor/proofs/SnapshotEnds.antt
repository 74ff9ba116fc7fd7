-- The last line of a snapshot or the state that it puts, and its status.
use Rattle.std.proofs.Common.{◌≡◌, ℕ, List, Option, None, Some, inl, inr, ap, ◌∙◌, subst}
use Rattle.lola_port.specs.States.{PutBroke, SinkState, grown}
use Rattle.lola_model.specs.declared.journal.Entry.{Entry}
use Rattle.lola_model.specs.declared.plan.Plan.{Plan}
use Rattle.lola_report.specs.Ends.{end_text}
use Rattle.lola_report.specs.declared.end.EndLine.{EndLine}
use Rattle.lola_report.specs.declared.end.EndLine.TheVariants.{Done, Usage, Refused, Malformed, Fault, UnreadableSpecification, UnreadableSource, Analysed}
use Rattle.lola_save.specs.StateEnds.{state_end_text}
use Rattle.lola_save.specs.declared.end.StateEnd.{StateEnd}
use Rattle.lola_save.specs.declared.end.StateEnd.TheVariants as state_end
use Rattle.lola_monitor.specs.Causes.{Causes, StoodWell}
use Rattle.lola_monitor.specs.Command.{SnapshotNames}
use Rattle.lola_monitor.specs.Conclusions.{Concluded}
use Rattle.lola_monitor.specs.LongStates.{IsLongState}
use Rattle.lola_monitor.specs.Monitor.{Call, IsEarly, Outside, Plans, Wrote, call}
use Rattle.lola_monitor.specs.Outcomes.{AreUntouched}
use Rattle.lola_monitor.specs.SnapshotOutcomes.{AreTooLong, HasMalformed, HasRowFault, IsShort, NoPast, RefusesState, SavesRows, StoodSnapshot, WorksSnapshot}
use Rattle.lola_monitor.specs.Snapshots.{EndedSnapshot, HasTooManySteps, IsBrokenSnapshot, IsCutShortSnapshot, IsFaultSnapshot, IsLongEnd, IsMalformedSnapshot, IsPast, IsSaved, IsStateRefusedIn, inputs_of}
use Rattle.lola_monitor.specs.declared.call_end.CallEnd.{CallEnd}
use Rattle.lola_monitor.specs.declared.call_end.CallEnd.TheVariants.{Line, Drilled, Report, Replayed, Stated, CutFault, Put, Memory}
use Rattle.lola_monitor.proofs.CauseStatuses.{has_cause, snapshot_ends}
use Rattle.lola_monitor.proofs.Laws.{PutsAddUp}
use Rattle.lola_monitor.proofs.RefusalEnds as refusals
use Rattle.lola_monitor.proofs.SnapshotMeans.{Has, Refuses, SnapshotMeans, ended_by, snapshot_means_at}

module _ (words : List (List ℕ)) (names : SnapshotNames) (before after : Outside) (last : SinkState) where
  abbrev here : Call
  here = call words before (record after { out = last })

  module _ (early : AreUntouched before after) where
    whole : (text : List ℕ) → last ≡ grown after.out text → last ≡ grown before.out text
    whole text is = is ∙ ap (λ o. grown o text) early.out

    part : (text : List ℕ) → PutBroke after.out last text → PutBroke before.out last text
    part text broke = subst (λ o. PutBroke o last text) early.out broke

    some : (text : List ℕ) → Wrote after.out last text → Wrote before.out last text
    some text (inl is) = inl (whole text is)
    some text (inr broke) = inr (part text broke)

    nothing : last ≡ after.out → IsEarly here
    nothing same = record { trace = early.trace; out = same ∙ early.out }

  -- of a line that is known
  line_whole : (line same : EndLine) → line ≡ same → last ≡ grown before.out (end_text line) → last ≡ grown before.out (end_text same)
  line_whole line same is put = put ∙ ap (λ (l : EndLine). grown before.out (end_text l)) is

  line_part : (line same : EndLine) → line ≡ same → PutBroke before.out last (end_text line) → PutBroke before.out last (end_text same)
  line_part line same is broke = subst (λ (l : EndLine). PutBroke before.out last (end_text l)) is broke

  line_some : (line same : EndLine) → line ≡ same → Wrote before.out last (end_text line) → Wrote before.out last (end_text same)
  line_some line same is wrote = subst (λ (l : EndLine). Wrote before.out last (end_text l)) is wrote

  -- ---- what stood, once the end was put

  malformed : (line : EndLine) (s : StoodSnapshot (HasMalformed line names) names before after) → last ≡ grown after.out (end_text line) → Has IsMalformedSnapshot names here
  malformed line s put = (
    s.prepared,
    λ start front is.
        let m = s.behind start front is in
        record { at = m.at; some = m.some; no_fault = m.no_fault; trace = s.early.trace; out = line_whole line _ m.line_is (whole s.early (end_text line) put) },
  )

  cut_malformed : (line : EndLine) (s : StoodSnapshot (HasMalformed line names) names before after) → PutBroke after.out last (end_text line) → Has IsBrokenSnapshot names here
  cut_malformed line s broke = (
    s.prepared,
    λ start front is.
        let m = s.behind start front is in
        inr (record { at = m.at; some = m.some; no_fault = m.no_fault; trace = s.early.trace; out = line_part line _ m.line_is (part s.early (end_text line) broke) }),
  )

  fault : (line : EndLine) (s : StoodSnapshot (HasRowFault line names) names before after) → Wrote after.out last (end_text line) → Has IsFaultSnapshot names here
  fault line s wrote = (
    s.prepared,
    λ start front is.
        let m = s.behind start front is in
        record { run = m.run; given = m.given; fault = m.fault; is_fault = m.is_fault; trace = s.early.trace; out = line_some line _ m.line_is (some s.early (end_text line) wrote) },
  )

  short : (line : EndLine) (s : StoodSnapshot (IsShort line names) names before after) → Wrote after.out last (end_text line) → Has IsCutShortSnapshot names here
  short line s wrote = (
    s.prepared,
    λ start front is.
        let m = s.behind start front is in
        record { at = m.at; others = m.others; no_fault = m.no_fault; trace = s.early.trace; out = line_some line _ m.line_is (some s.early (end_text line) wrote) },
  )

  saved : (text : List ℕ) (s : StoodSnapshot (SavesRows text names) names before after) → last ≡ grown after.out text → Has IsSaved names here
  saved text s put = (
    s.prepared,
    λ start front is.
        let m = s.behind start front is in
        record {
          snapshot = record { all = m.rows.all; no_fault = m.rows.no_fault; trace = s.early.trace };
          few = m.few;
          out = λ specification told. whole s.early text put ∙ ap (grown before.out) (m.text_is specification told);
        },
  )

  cut_state : (text : List ℕ) (s : StoodSnapshot (SavesRows text names) names before after) → PutBroke after.out last text → Has IsBrokenSnapshot names here
  cut_state text s broke = (
    s.prepared,
    λ start front is.
        let m = s.behind start front is in
        inl (record {
          snapshot = record { all = m.rows.all; no_fault = m.rows.no_fault; trace = s.early.trace };
          few = m.few;
          out = λ specification told. subst (λ (t : List ℕ). PutBroke before.out last t) (m.text_is specification told) (part s.early text broke);
        }),
  )

  too_long : (s : StoodSnapshot (AreTooLong names) names before after) → Wrote after.out last (state_end_text state_end.TooManySteps) → Has HasTooManySteps names here
  too_long s wrote = (
    s.prepared,
    λ start front is.
        let m = s.behind start front is in
        record {
          snapshot = record { all = m.rows.all; no_fault = m.rows.no_fault; trace = s.early.trace };
          many = m.many;
          out = some s.early (state_end_text state_end.TooManySteps) wrote;
        },
  )

  long_end : StoodSnapshot (AreTooLong names) names before after → IsLongState names.state before.shelf → StoodWell (inputs_of names) before after → Wrote after.out last (state_end_text state_end.TooManySteps) → IsLongEnd names here
  long_end s state cause wrote = record { all = cause.well; state = state; out = some s.early (state_end_text state_end.TooManySteps) wrote }

  refused_by : (end : StateEnd) (o : Option (List ℕ)) → RefusesState end names.specification o before after → Wrote after.out last (state_end_text end) → IsStateRefusedIn names o here
  refused_by end None r wrote = absurd r
  refused_by end (Some state) r wrote = refusals.state_refused words before after last end names.specification state wrote r

  none_by : (end : StateEnd) (o : Option (List ℕ)) → RefusesState end names.specification o before after → (start : Option ℕ) (front : List Entry) → IsPast names before.shelf o start front → ⊥
  none_by end None r start front is = r
  none_by end (Some state) r start front is = r.none start front is

  plan_by : (end : StateEnd) (o : Option (List ℕ)) → RefusesState end names.specification o before after → (plan : Plan) × Plans (before.shelf.told names.specification) plan
  plan_by end None r = absurd r
  plan_by end (Some state) r = (r.plan, r.is_plan)

  early_by : (end : StateEnd) (o : Option (List ℕ)) → RefusesState end names.specification o before after → AreUntouched before after
  early_by end None r = absurd r
  early_by end (Some state) r = r.early

  refuses : (end : StateEnd) → RefusesState end names.specification names.state before after → Wrote after.out last (state_end_text end) → Refuses names here
  refuses end r wrote =
      let plan = plan_by end names.state r in
      record { plan = plan.0; is_plan = plan.1; refused = refused_by end names.state r wrote; none = none_by end names.state r }

  no_past : StoodSnapshot NoPast names before after → (P : SnapshotNames → Option ℕ → List Entry → Call → Type 0) → Has P names here
  no_past s P = (s.prepared, λ start front is. absurd (s.behind start front is))

  -- ---- by how it ended

  means_refused : (status : ℕ) → Refuses names here → status ≡ 9 → SnapshotMeans status names here
  means_refused status r is = snapshot_means_at 9 status names here is (inl r)

  pub means_snapshot : (status : ℕ) (outcome : CallEnd) → WorksSnapshot outcome names before after → Causes outcome (inputs_of names) before after → Concluded status outcome after.out last → SnapshotMeans status names here
  means_snapshot status (Line (Done a l n v)) works cause e = absurd works
  means_snapshot status (Line Usage) works cause e = absurd works
  means_snapshot status (Line (Refused r)) works cause (inl e) =
      snapshot_means_at 3 status names here e.0 (refusals.refused words before after last r names.specification (inl e.1) works)
  means_snapshot status (Line (Refused r)) works cause (inr (inl e)) =
      snapshot_means_at 3 status names here e.0 (refusals.refused words before after last r names.specification (inr e.1) works)
  means_snapshot status (Line (Refused r)) works cause (inr (inr e)) = snapshot_means_at 8 status names here e.0 (nothing works.early e.1)
  means_snapshot status (Line (Malformed n row kind)) works cause (inl e) = snapshot_means_at 4 status names here e.0 (malformed (Malformed n row kind) works e.1)
  means_snapshot status (Line (Malformed n row kind)) works cause (inr (inl e)) = snapshot_means_at 7 status names here e.0 (cut_malformed (Malformed n row kind) works e.1)
  means_snapshot status (Line (Malformed n row kind)) works cause (inr (inr e)) = snapshot_means_at 8 status names here e.0 (nothing works.early e.1)
  means_snapshot status (Line (Fault name kind time)) works cause (inl e) = snapshot_means_at 5 status names here e.0 (fault (Fault name kind time) works (inl e.1))
  means_snapshot status (Line (Fault name kind time)) works cause (inr (inl e)) = snapshot_means_at 5 status names here e.0 (fault (Fault name kind time) works (inr e.1))
  means_snapshot status (Line (Fault name kind time)) works cause (inr (inr e)) = snapshot_means_at 8 status names here e.0 (nothing works.early e.1)
  means_snapshot status (Line UnreadableSpecification) works cause (inl e) = snapshot_means_at 6 status names here e.0 (inl (inl (refusals.unread words before after last 0 (end_text UnreadableSpecification) (inl e.1) works)))
  means_snapshot status (Line UnreadableSpecification) works cause (inr (inl e)) = snapshot_means_at 6 status names here e.0 (inl (inl (refusals.unread words before after last 0 (end_text UnreadableSpecification) (inr e.1) works)))
  means_snapshot status (Line UnreadableSpecification) works cause (inr (inr e)) = snapshot_means_at 8 status names here e.0 (nothing works.early e.1)
  means_snapshot status (Line (UnreadableSource n)) works cause (inl e) = snapshot_means_at 6 status names here e.0 (inr (short (UnreadableSource n) works (inl e.1)))
  means_snapshot status (Line (UnreadableSource n)) works cause (inr (inl e)) = snapshot_means_at 6 status names here e.0 (inr (short (UnreadableSource n) works (inr e.1)))
  means_snapshot status (Line (UnreadableSource n)) works cause (inr (inr e)) = snapshot_means_at 8 status names here e.0 (nothing works.early e.1)
  means_snapshot status (Line (Analysed n w)) works cause e = absurd works
  means_snapshot status (Drilled line) works cause e = absurd works
  means_snapshot status (Report text) works cause (inl e) = snapshot_means_at 0 status names here e.0 (saved text works e.1)
  means_snapshot status (Report text) works cause (inr (inl e)) = snapshot_means_at 7 status names here e.0 (cut_state text works e.1)
  means_snapshot status (Report text) works cause (inr (inr e)) = snapshot_means_at 8 status names here e.0 (nothing works.early e.1)
  means_snapshot status (Replayed end) works cause e = absurd works
  means_snapshot status (Stated state_end.Unreadable) works cause (inl e) = snapshot_means_at 6 status names here e.0 (inl (inr (refusals.unread words before after last 1 (state_end_text state_end.Unreadable) (inl e.1) works)))
  means_snapshot status (Stated state_end.Unreadable) works cause (inr (inl e)) = snapshot_means_at 6 status names here e.0 (inl (inr (refusals.unread words before after last 1 (state_end_text state_end.Unreadable) (inr e.1) works)))
  means_snapshot status (Stated state_end.Unreadable) works cause (inr (inr e)) = snapshot_means_at 8 status names here e.0 (nothing works.early e.1)
  means_snapshot status (Stated (state_end.Damaged line)) works cause (inl e) = means_refused status (refuses (state_end.Damaged line) works (inl e.1)) e.0
  means_snapshot status (Stated (state_end.Damaged line)) works cause (inr (inl e)) = means_refused status (refuses (state_end.Damaged line) works (inr e.1)) e.0
  means_snapshot status (Stated (state_end.Damaged line)) works cause (inr (inr e)) = snapshot_means_at 8 status names here e.0 (nothing (early_by (state_end.Damaged line) names.state works) e.1)
  means_snapshot status (Stated state_end.OtherSpecification) works cause (inl e) = means_refused status (refuses state_end.OtherSpecification works (inl e.1)) e.0
  means_snapshot status (Stated state_end.OtherSpecification) works cause (inr (inl e)) = means_refused status (refuses state_end.OtherSpecification works (inr e.1)) e.0
  means_snapshot status (Stated state_end.OtherSpecification) works cause (inr (inr e)) = snapshot_means_at 8 status names here e.0 (nothing (early_by state_end.OtherSpecification names.state works) e.1)
  means_snapshot status (Stated state_end.TooManySteps) works cause (inl e) = snapshot_means_at 9 status names here e.0 (inr (too_long works.0 (inl e.1), long_end works.0 works.1 cause (inl e.1)))
  means_snapshot status (Stated state_end.TooManySteps) works cause (inr (inl e)) = snapshot_means_at 9 status names here e.0 (inr (too_long works.0 (inr e.1), long_end works.0 works.1 cause (inr e.1)))
  means_snapshot status (Stated state_end.TooManySteps) works cause (inr (inr e)) = snapshot_means_at 8 status names here e.0 (nothing works.0.early e.1)
  means_snapshot status CutFault works cause e = snapshot_means_at 5 status names here e.0 (no_past works IsFaultSnapshot)
  means_snapshot status Put works cause e = snapshot_means_at 7 status names here e.0 (no_past works IsBrokenSnapshot)
  means_snapshot status Memory works cause e = snapshot_means_at 8 status names here e.0 (nothing works e.1)

  -- what a snapshot leaves, by its status
  pub ended_snapshot : PutsAddUp → (status : ℕ) (outcome : CallEnd) → WorksSnapshot outcome names before after → Causes outcome (inputs_of names) before after → Concluded status outcome after.out last → EndedSnapshot status names here
  ended_snapshot parts status outcome works cause e =
      ended_by status names here (means_snapshot status outcome works cause e)
      (has_cause (inputs_of names) words before after last parts status outcome (snapshot_ends outcome names before after works) cause e)
