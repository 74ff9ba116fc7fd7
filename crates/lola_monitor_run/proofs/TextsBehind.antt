-- What a journal brings behind a front that other runs have taken, and what of it was put.
use Rattle.std.proofs.Common.{◌≡◌, ℕ, ◌≤◌, List, [], ◌∷◌, ◌++◌, Some, refl, sym, ap, ◌∙◌, subst, arith, append_assoc, length, length-append}
use Rattle.std.proofs.lemmas.List.{append-nil, drop-append-le, drop_all}
use Rattle.std.specs.Prelude.{drop}
use Rattle.lola_port.specs.States.{PutBroke, SinkState, grown}
use Rattle.lola_model.specs.Faults.{RunFault}
use Rattle.lola_model.specs.Runs.{final_lines, settled_lines}
use Rattle.lola_model.specs.Texts.{text_of}
use Rattle.lola_model.specs.declared.journal.Entry.{Entry}
use Rattle.lola_model.proofs.Journals.{text_of-append}
use Rattle.lola_monitor_run.specs.Verdicts.{Setting, settled_fault_in, settled_text, verdicts}
use Rattle.lola_monitor_run.specs.Running.{IsAccepted}
use Rattle.lola_monitor_run.specs.Behind.{HasFrontBehind, IsCutAtRowBehind, settled_behind, text_behind, verdicts_behind}
use Rattle.lola_monitor_run.proofs.EntriesTold.{BringsIn, accepted_is}
use Rattle.lola_monitor_run.proofs.Fronts.{lines_front, lines_stay, no_lines}

module _ (s : Setting) where
  -- the settled lines of a journal
  abbrev settled : List Entry → List (List ℕ)
  settled journal = settled_lines s.plan s.start journal s.show

  -- behind nothing stands all
  all_first : (lines : List (List ℕ)) → text_behind s [] lines ≡ text_of lines
  all_first lines = ap (λ (n : ℕ). text_of (drop n lines)) (ap length (no_lines s))

  pub settled_first : (journal : List Entry) → settled_behind s [] journal ≡ settled_text s journal
  settled_first journal = all_first (settled journal)

  pub verdicts_first : (journal : List Entry) → verdicts_behind s [] journal ≡ verdicts s journal
  verdicts_first journal = all_first (final_lines s.plan s.start journal s.show)

  module _ (before : List Entry) where
    -- a journal has no fewer settled lines than the front
    abbrev pub HasAll : List Entry → Type 0
    HasAll journal = length (settled before) ≤ length (settled (before ++ journal))

    -- lines behind those of a journal
    part : (lines more : List (List ℕ)) → length (settled before) ≤ length lines → text_behind s before (lines ++ more) ≡ text_behind s before lines ++ text_of more
    part lines more few = ap text_of (drop-append-le (length (settled before)) lines more few) ∙ text_of-append (drop (length (settled before)) lines) more

    pub nothing_behind : settled_behind s before [] ≡ []
    nothing_behind = ap (λ (j : List Entry). text_behind s before (settled j)) (append-nil before) ∙ ap text_of (drop_all (length (settled before)) (settled before) (omega arith))

    -- one entry more
    module _ (journal : List Entry) (entry : Entry) (lines : List (List ℕ)) (brings : BringsIn s (before ++ journal) entry lines) (few : HasAll journal) where
      settled_then : settled (before ++ (journal ++ entry ∷ [])) ≡ settled (before ++ journal) ++ lines
      settled_then = ap settled (sym (append_assoc before journal (entry ∷ []))) ∙ brings

      pub settled_more : settled_behind s before (journal ++ entry ∷ []) ≡ settled_behind s before journal ++ text_of lines
      settled_more = ap (text_behind s before) settled_then ∙ part (settled (before ++ journal)) lines few

      pub has_all_more : HasAll (journal ++ entry ∷ [])
      has_all_more = let e = ap length settled_then ∙ length-append (settled (before ++ journal)) lines in omega (arith, e, few)

    -- what completes the settled lines
    pub verdicts_more : (journal : List Entry) (lines : List (List ℕ)) → final_lines s.plan s.start (before ++ journal) s.show ≡ settled (before ++ journal) ++ lines → HasAll journal
        → verdicts_behind s before journal ≡ settled_behind s before journal ++ text_of lines
    verdicts_more journal lines completes few = ap (text_behind s before) completes ∙ part (settled (before ++ journal)) lines few

    pub front_behind : (journal : List Entry) → HasAll journal → (more : List ℕ) × (verdicts_behind s before journal ≡ settled_behind s before journal ++ more)
    front_behind journal few = let l = lines_front s (before ++ journal) in (text_of l.0, verdicts_more journal l.0 l.1 few)

    -- where a settled step has a fault all verdicts are settled
    pub stays_behind : (journal : List Entry) (fault : RunFault) → settled_fault_in s (before ++ journal) ≡ Some fault → verdicts_behind s before journal ≡ settled_behind s before journal
    stays_behind journal fault is = ap (text_behind s before) (lines_stay s (before ++ journal) fault is)

    -- all settled verdicts of a journal were put
    pub all_put_behind : (journal : List Entry) (old new : SinkState) → HasAll journal → new ≡ grown old (settled_behind s before journal) → HasFrontBehind s before old new journal
    all_put_behind journal old new few put =
        let more = front_behind journal few in
        record { front = journal; last = []; whole = sym (append-nil journal); few = omega arith; more = more.0; joined = more.1; put = put }

    -- all but those of the last entry were put
    pub last_not_put_behind : (front : List Entry) (entry : Entry) (brings : List ℕ) (old new : SinkState) → HasAll (front ++ entry ∷ []) → settled_behind s before (front ++ entry ∷ []) ≡ settled_behind s before front ++ brings
        → new ≡ grown old (settled_behind s before front) → HasFrontBehind s before old new (front ++ entry ∷ [])
    last_not_put_behind front entry brings old new few is put =
        let more = front_behind (front ++ entry ∷ []) few in
        record {
          front = front;
          last = entry ∷ [];
          whole = refl;
          few = omega arith;
          more = brings ++ more.0;
          joined = more.1 ∙ (ap (λ (l : List ℕ). l ++ more.0) is ∙ append_assoc (settled_behind s before front) brings more.0);
          put = put;
        }

    -- those of the last entry were cut short
    pub cut_at_row_behind : (front : List Entry) (entry : Entry) (brings : List ℕ) (old mid new : SinkState) → HasAll (front ++ entry ∷ []) → IsAccepted entry
        → settled_behind s before (front ++ entry ∷ []) ≡ settled_behind s before front ++ brings → mid ≡ grown old (settled_behind s before front) → PutBroke mid new brings
        → IsCutAtRowBehind s before old new (front ++ entry ∷ [])
    cut_at_row_behind front entry brings old mid new few accepted is put broke =
        let more = front_behind (front ++ entry ∷ []) few in
        record {
          front = front;
          row = entry.row;
          whole = ap (λ (e : Entry). front ++ e ∷ []) (accepted_is entry accepted);
          brings = brings;
          joined = is;
          more = more.0;
          all = more.1;
          cut = subst (λ (k : SinkState). PutBroke k new brings) put broke;
        }
