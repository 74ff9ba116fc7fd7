-- The start of a journal serves as the start option of what follows it.
use Rattle.std.proofs.Common.{◌≡◌, ℕ, ◌≤◌, ◌↔◌, List, [], ◌∷◌, ◌++◌, length, refl, sym, subst, ap, ◌∙◌, arith, Option, Some, None}
use Rattle.lola_model.specs.Journal.{IsRightlyMarked, IsLegalFrom, IsLegal, accepted, known_start, last_accepted}
use Rattle.lola_model.specs.Model.{made}
use Rattle.lola_model.specs.NextStep.{next_step, next_settled, most_steps, after_last}
use Rattle.lola_model.specs.Runs.{run_start, settled_model, whole_model, content_after}
use Rattle.lola_model.specs.Steps.{start_of}
use Rattle.lola_model.specs.Table.{TableRow}
use Rattle.lola_model.specs.declared.journal.Entry.{Entry}
use Rattle.lola_model.specs.declared.journal.Mark.{Mark}
use Rattle.lola_model.specs.declared.journal.Mark.TheVariants as mark
use Rattle.lola_model.specs.declared.journal.Row.{Row}
use Rattle.lola_model.specs.declared.plan.Plan.{Plan}
use Rattle.lola_model.proofs.Journals.{accepted-append, accepted_is_row, time_after-accepted, rightly_late, IsRightlyMarked-accepted}
use Rattle.lola_save_text.specs.Forms.{forms_of}
use Rattle.lola_save_text.specs.declared.state.SavedState.{SavedState}
use Rattle.lola_save_text.specs.JournalStates.{saved_streams, state_of}
use Rattle.lola_save_text.specs.Resuming.{ServesAsStart}

start-same : (start : Option ℕ) (rows more : List Row) → start_of (known_start start rows) (rows ++ more) ≡ start_of start (rows ++ more)
start-same (Some t) rows more = refl
start-same None [] more = refl
start-same None (r ∷ rows) more = refl

known-same : (start : Option ℕ) (rows more : List Row) → known_start (known_start start rows) (rows ++ more) ≡ known_start start (rows ++ more)
known-same (Some t) rows more = refl
known-same None [] more = refl
known-same None (r ∷ rows) more = refl

-- legal journals

same-marks : (m n : ℕ) (e : Entry) (es : List Entry) → e.mark ≡ mark.Accepted → n ≤ e.row.stamp → IsLegalFrom m (e ∷ es) → IsLegalFrom n (e ∷ es)
same-marks m n e es q le h =
    (IsRightlyMarked-accepted n e q le, subst (λ (t : ℕ). IsLegalFrom t es) (time_after-accepted m e q ∙ sym (time_after-accepted n e q)) h.1)

-- the first entry of a legal journal is accepted where no start is given
first-accepted : (e : Entry) (m : Mark) → e.mark ≡ m → IsRightlyMarked 0 e → e.mark ≡ mark.Accepted
first-accepted e mark.Accepted q h = q
first-accepted e (mark.Late t) q h = absurd (let w = rightly_late 0 e t q h in let lt = w.1 in omega (arith, lt))

-- a time at which no time starts before, by the journal's first entry
legal-by-first : (e : Entry) (es since : List Entry) (rows : List Row) → e.mark ≡ mark.Accepted → accepted (e ∷ es) ≡ rows
    → IsLegal None ((e ∷ es) ++ since) ↔ IsLegal (known_start None rows) ((e ∷ es) ++ since)
legal-by-first e es since rows q a =
    let is : rows ≡ e.row ∷ accepted es = sym a ∙ accepted_is_row e (accepted es) q in
    subst (λ (rs : List Row). IsLegal None ((e ∷ es) ++ since) ↔ IsLegal (known_start None rs) ((e ∷ es) ++ since)) (sym is) (
      λ h. same-marks 0 e.row.stamp e (es ++ since) q (omega arith) h,
      λ h. same-marks e.row.stamp 0 e (es ++ since) q (omega arith) h,
    )

legal-same : (start : Option ℕ) (before since : List Entry) → IsLegal start before → IsLegal start (before ++ since) ↔ IsLegal (known_start start (accepted before)) (before ++ since)
legal-same (Some t) before since h = (λ k. k, λ k. k)
legal-same None [] since h = (λ k. k, λ k. k)
legal-same None (e ∷ es) since h = legal-by-first e es since (accepted (e ∷ es)) (first-accepted e e.mark refl h.0) refl

module _ (plan : Plan) (start : Option ℕ) (before since : List Entry) where
  abbrev journal : List Entry
  journal = before ++ since

  begin-same : run_start plan (known_start start (accepted before)) journal ≡ run_start plan start journal
  begin-same =
      ap (λ (rows : List Row). start_of (known_start start (accepted before)) rows) (accepted-append before since)
      ∙ (start-same start (accepted before) (accepted since) ∙ ap (λ (rows : List Row). start_of start rows) (sym (accepted-append before since)))

  settled-same : settled_model plan (known_start start (accepted before)) journal ≡ settled_model plan start journal
  unfolding settled_model
  settled-same = ap (λ (b : ℕ). made plan b (next_settled plan b (accepted journal)) (most_steps 0 0 (accepted journal)) []) begin-same

  whole-same : whole_model plan (known_start start (accepted before)) journal ≡ whole_model plan start journal
  unfolding whole_model
  whole-same = ap (λ (b : ℕ). made plan b (next_step plan b (accepted journal)) (most_steps (after_last (accepted journal)) 0 (accepted journal)) []) begin-same

  known-is : known_start (known_start start (accepted before)) (accepted journal) ≡ known_start start (accepted journal)
  known-is =
      ap (λ (rows : List Row). known_start (known_start start (accepted before)) rows) (accepted-append before since)
      ∙ (known-same start (accepted before) (accepted since) ∙ ap (λ (rows : List Row). known_start start rows) (sym (accepted-append before since)))

  -- a state, by what depends on the start
  abbrev state_by : Option ℕ → ℕ → List TableRow → SavedState
  state_by known begin table =
      record {
        start = known;
        last = last_accepted (accepted journal);
        steps = length table;
        streams = saved_streams begin (forms_of plan) (content_after plan begin table).streams;
      }

  state-same : state_of plan (known_start start (accepted before)) journal ≡ state_of plan start journal
  state-same =
      ap (λ (o : Option ℕ). state_by o (run_start plan (known_start start (accepted before)) journal) (settled_model plan (known_start start (accepted before)) journal)) known-is
      ∙ (ap (λ (b : ℕ). state_by (known_start start (accepted journal)) b (settled_model plan (known_start start (accepted before)) journal)) begin-same
      ∙ ap (λ (t : List TableRow). state_by (known_start start (accepted journal)) (run_start plan start journal) t) settled-same)

pub start-serves : (plan : Plan) → ServesAsStart plan
start-serves plan start before since h = record {
  legal = legal-same start before since h;
  settled = settled-same plan start before since;
  whole = whole-same plan start before since;
  state = state-same plan start before since;
}
