-- What a trace received is the lines of a journal, or those and the front of one more line.
use Rattle.std.proofs.Common.{◌≡◌, ◌<◌, ℕ, List, [], ◌∷◌, ◌++◌, Option, Some, inl, inr, false, length, refl, sym, ap, ◌∙◌, subst, arith, append_assoc}
use Rattle.std.proofs.lemmas.List.{append_cancel_left}
use Rattle.std.proofs.lemmas.Bool.{or_from, or_parts}
use Rattle.std.specs.Prelude.{◌↔◌}
use Rattle.std.specs.Io.KnownBytes.{append_known}
use Rattle.std.specs.List.{list_any}
use Rattle.lola_model.specs.Trace.{IsTraceable, input_kinds, trace_line, trace_text}
use Rattle.lola_model.specs.declared.journal.Entry.{Entry}
use Rattle.lola_model.specs.declared.plan.Plan.{Plan}
use Rattle.lola_report.specs.Journals.{Spells, is_lf}
use Rattle.lola_report.proofs.Bytes.{absent-from, line-no-lf}
use Rattle.lola_report.proofs.FieldLines.{content, content-one-line, line-content}
use Rattle.lola_report.proofs.ReadBack.{parts-of}
use Rattle.lola_report.proofs.Texts.{its-text, one-journal}
use Rattle.lola_monitor_run.specs.Verdicts.{IsCutInLine}
use Rattle.lola_monitor.specs.Monitor.{AreTraced, Call, CutsOff, Rows, setting_of}
use Rattle.lola_monitor.specs.Telling.{TellsThem}

-- a text that spells one journal spells no other
only : (plan : Plan) (text : List ℕ) (journal : List Entry) → Spells plan text journal → (other : List Entry) → Spells plan text other ↔ (other ≡ journal)
only plan text journal is other = (λ spelled. one-journal plan text other journal spelled is, λ same. subst (Spells plan text) (sym same) is)

same_some : (a b : List ℕ) → Some a ≡ Some b → a ≡ b
same_some a b is = cc

-- a proper front of a line has no LF
front_of_line : (part rest body : List ℕ) → 0 < length rest → list_any is_lf body ≡ false → body ++ 10 ∷ [] ≡ part ++ rest → list_any is_lf part ≡ false
front_of_line [] rest body some clear is = refl
front_of_line (p ∷ part) rest [] some clear is = let none : [] ≡ part ++ rest = cc in absurd (omega (arith, ends part rest (sym none)))
  where
    ends : (xs ys : List ℕ) → xs ++ ys ≡ [] → length ys ≡ 0
    ends [] ys is = ap length is
    ends (x ∷ xs) ys is = absurd (cc)
front_of_line (p ∷ part) rest (b ∷ body) some clear is =
    let first : b ≡ p = cc in
    let later : body ++ 10 ∷ [] ≡ part ++ rest = cc in
    let parts = or_parts (is_lf b) (list_any is_lf body) clear in
    or_from (is_lf p) (list_any is_lf part) (ap is_lf (sym first) ∙ parts.0) (front_of_line part rest body some parts.1 later)

no_lf_in : (plan : Plan) (e : Entry) (part rest : List ℕ) → IsTraceable plan e → trace_line e ≡ part ++ rest → 0 < length rest → list_any is_lf part ≡ false
no_lf_in plan e part rest is joined some =
    front_of_line part rest (content e) some (line-no-lf (content e) (content-one-line (input_kinds plan.spec.streams) e (parts-of plan e is))) (sym (line-content e) ∙ joined)

module _ (c : Call) (run : Rows c) where
  -- all lines were put
  pub traced : AreTraced c run.journal → TellsThem c run
  traced trace text got =
      let after : c.after.trace.written ≡ append_known c.before.trace.written (trace_text run.journal) = ap (λ s. s.written) trace in
      let there : Some (got.held ++ text) ≡ Some (got.held ++ trace_text run.journal) =
      sym got.after ∙ (after ∙ ap (λ (o : Option (List ℕ)). append_known o (trace_text run.journal)) got.before) in
      let same : text ≡ trace_text run.journal =
      append_cancel_left got.held text (trace_text run.journal) (same_some (got.held ++ text) (got.held ++ trace_text run.journal) there) in
      only run.plan text run.journal (subst (λ bytes. Spells run.plan bytes run.journal) (sym same) (its-text run.plan run.journal run.traceable))

  -- the next line was cut
  cut_in_line : IsCutInLine run.plan c.before.trace c.after.trace run.journal → TellsThem c run
  cut_in_line cut text got =
      let part = cut.cut.part in
      let lines = trace_text run.journal in
      let there : Some (got.held ++ text) ≡ Some ((got.held ++ lines) ++ part) =
      sym got.after ∙ (cut.cut.written ∙ ap (λ (o : Option (List ℕ)). append_known (append_known o lines) part) got.before) in
      let same : text ≡ lines ++ part =
      append_cancel_left got.held text (lines ++ part)
      (same_some (got.held ++ text) ((got.held ++ lines) ++ part) there ∙ append_assoc got.held lines part) in
      only run.plan text run.journal (record {
        left = part;
        whole = same;
        unfinished = absent-from 10 part (no_lf_in run.plan cut.entry part cut.cut.is_part.rest cut.traceable cut.cut.is_part.joined cut.cut.is_part.not_whole);
        traceable = run.traceable;
      })

  pub cut_off : CutsOff (setting_of run.plan run.names) run.names.sources run.asks c.before c.after run.journal → TellsThem c run
  cut_off (inl cut) = cut_in_line cut.trace
  cut_off (inr (inl cut)) = traced cut.trace
  cut_off (inr (inr cut)) = traced cut.trace
