-- A state text that is cut is none, and is damaged at the line that is cut or missing.
use Rattle.std.proofs.Common.{◌≡◌, ℕ, ◌+◌, List, [], ◌∷◌, ◌++◌, Bool, true, false, Some, refl, sym, ap, subst, ◌∙◌, arith, append_assoc, append-nil, length, nat_le}
use Rattle.std.proofs.lemmas.Bool.{and_parts, leb-true, leb-false}
use Rattle.std.proofs.lemmas.List.{append_cancel_left, length-append}
use Rattle.std.proofs.lemmas.List.Folds.{list_all-append}
use Rattle.lola_model.specs.Texts.{text_of}
use Rattle.lola_model.specs.declared.plan.Plan.{Plan}
use Rattle.lola_report.specs.Lines.{IsLine, has_no_lf, is_not_lf}
use Rattle.lola_save_text.specs.Damage.{GoesOn, IsDamagedAt, IsStateText}
use Rattle.lola_save_text.specs.Forms.{AreStorable, forms_of}
use Rattle.lola_save_text.specs.Lines.{StateLine, head_text, lines_text, state_lines}
use Rattle.lola_save_text.specs.Places.{AtStart, Done, chosen}
use Rattle.lola_save_text.specs.Runs.{run}
use Rattle.lola_save_text.proofs.Completing.{run-append}
use Rattle.lola_save_text.proofs.Damaged.{goes-on-before}
use Rattle.lola_save_text.proofs.Few.{are-few}
use Rattle.lola_save_text.proofs.SameRuns.{none-left, run-cut}
use Rattle.lola_save_text.proofs.Saved.{saved-run}
use Rattle.lola_save_text.proofs.Whole.{at-end}
use Rattle.lola_save_text.proofs.WholeLines.{AreLines, align}

module _ (spec : List ℕ) (plan : Plan) (storable : AreStorable (forms_of plan)) where
  -- lines that are read to the end, and bytes behind them, are not the lines of a longer text
  nothing-behind : (ls ms : List StateLine) (more : List ℕ) → run (forms_of plan) AtStart ls ≡ Some Done → run (forms_of plan) AtStart ms ≡ Some Done → lines_text ls ++ more ≡ lines_text ms → more ≡ []
  nothing-behind ls ms more a b e = by (nat_le (length ls) (length ms)) refl
    where
      whole : lines_text ls ++ more ≡ lines_text ms ++ []
      whole = e ∙ sym (append-nil (lines_text ms))

      by : (t : Bool) → nat_le (length ls) (length ms) ≡ t → more ≡ []
      by true k =
          let c = run-cut (forms_of plan) storable AtStart ls ms more [] Done Done tt a b whole (leb-true (length ls) (length ms) k) in
          let r : run (forms_of plan) Done c.0 ≡ Some Done =
          sym (ap (λ o. chosen o (λ q. run (forms_of plan) q c.0)) a) ∙ sym (run-append (forms_of plan) AtStart ls c.0) ∙ ap (run (forms_of plan) AtStart) (sym c.1) ∙ b in
          let n = at-end (forms_of plan) c.0 r in
          c.2 ∙ append-nil (lines_text c.0) ∙ ap lines_text n
      by false k =
          let far = leb-false (length ls) (length ms) k in
          let c = run-cut (forms_of plan) storable AtStart ms ls [] more Done Done tt b a (sym whole) (omega (arith, far)) in
          (none-left c.0 more c.2).1

  pub cut-is-none : (bytes more : List ℕ) → IsStateText spec plan bytes → IsStateText spec plan (bytes ++ more) → more ≡ []
  cut-is-none bytes more a b =
      let ls = state_lines (forms_of plan) a.state in
      let ms = state_lines (forms_of plan) b.state in
      let e : head_text spec ++ (lines_text ls ++ more) ≡ head_text spec ++ lines_text ms =
      sym (append_assoc (head_text spec) (lines_text ls) more) ∙ ap (λ (t : List ℕ). t ++ more) (sym a.written) ∙ b.written in
      nothing-behind ls ms more (saved-run (forms_of plan) are-few a.state a.saved) (saved-run (forms_of plan) are-few b.state b.saved)
      (append_cancel_left (head_text spec) (lines_text ls ++ more) (lines_text ms) e)

  -- no LF is left where a line is cut
  no-line-in : (x left rest : List ℕ) → IsLine x → has_no_lf left ≡ true → left ≡ x ++ rest → ⊥
  no-line-in x left rest line plain e =
      let f : has_no_lf (line.body ++ (10 ∷ rest)) ≡ true =
      ap has_no_lf (sym (e ∙ ap (λ (t : List ℕ). t ++ rest) line.ended ∙ append_assoc line.body (10 ∷ []) rest)) ∙ plain in
      let p = and_parts (has_no_lf line.body) (has_no_lf (10 ∷ rest)) (sym (list_all-append is_not_lf line.body (10 ∷ rest)) ∙ f) in
      let g : false ≡ true = p.1 in
      cc g

  pub cut-is-damaged : (lines : List (List ℕ)) (left more : List ℕ) → AreLines lines → has_no_lf left ≡ true → (more ≡ [] → ⊥) → IsStateText spec plan ((text_of lines ++ left) ++ more)
      → IsDamagedAt spec plan (text_of lines ++ left) (length lines + 1)
  cut-is-damaged lines left more whole plain some text =
      record {
        none = λ t. some (cut-is-none (text_of lines ++ left) more t text);
        counted = omega arith;
        before = λ m lt. goes-on-before spec plan (text_of lines ++ left) m (length lines) (omega (arith, lt)) goes-on;
        here = λ g.
            let n = g.number in
            let c = align lines g.lines left g.left whole g.whole g.cut (omega (arith, n)) in
            let count = (let z = ap (λ (x : List (List ℕ)). length x) c.1 in let y = length-append lines c.0 in let k : length c.0 ≡ 1 = omega (arith, n, z, y) in k) in
            cut-line c.0 (lines-behind lines c.0 (subst AreLines c.1 g.whole)) count g.left c.2;
      }
    where
      goes-on : GoesOn spec plan (text_of lines ++ left) (length lines)
      goes-on = record {
        lines = lines;
        left = left;
        more = left ++ more;
        whole = whole;
        number = refl;
        cut = refl;
        begun = subst (λ (t : List ℕ). IsStateText spec plan t) (append_assoc (text_of lines) left more) text;
      }

      lines-behind : (front back : List (List ℕ)) → AreLines (front ++ back) → AreLines back
      lines-behind [] back a = a
      lines-behind (x ∷ front) back a = lines-behind front back a.1

      cut-line : (back : List (List ℕ)) → AreLines back → length back ≡ 1 → (rest : List ℕ) → left ≡ text_of back ++ rest → ⊥
      cut-line [] a n rest e = omega (arith, n)
      cut-line (x ∷ back) a n rest e = no-line-in x left (text_of back ++ rest) a.0 plain (e ∙ append_assoc x (text_of back) rest)
