-- The text of a state, piece by piece.
use Rattle.std.proofs.Common.{◌≡◌, ◌∷◌, ℕ, ◌++◌, List, [], sym, ap, subst, ◌∙◌, append_assoc}
use Rattle.lola_value.specs.Appending.{AppendsPart}
use Rattle.lola_value.proofs.AppendingLemmas.{all_appended, in_first, in_second}
use Rattle.lola_model.specs.declared.plan.Plan.{Plan}
use Rattle.lola_save_text.specs.Forms.{forms_of}
use Rattle.lola_save_text.specs.Lines.{EndLine, LastLine, StartLine, StateLine, StepsLine, head_text, lines_text, state_lines, state_text, streams_lines}
use Rattle.lola_save_text.specs.declared.state.SavedState.{SavedState}
use Rattle.lola_save_text.specs.declared.forms.StreamForm.{StreamForm}
use Rattle.lola_save_text.proofs.Damaged.{lines-text-both}

-- the first three lines
abbrev first_lines : SavedState → List StateLine
first_lines s = StartLine s.start ∷ LastLine s.last ∷ StepsLine s.steps ∷ []

abbrev times_text : SavedState → List ℕ
times_text s = lines_text (StartLine s.start ∷ LastLine s.last ∷ StepsLine s.steps ∷ [])

abbrev streams_text : List StreamForm → SavedState → List ℕ
streams_text forms s = lines_text (streams_lines 0 forms s.streams)

abbrev end_text : List ℕ
end_text = lines_text (EndLine ∷ [])

pieces-are : (spec : List ℕ) (forms : List StreamForm) (s : SavedState) → head_text spec ++ (times_text s ++ (streams_text forms s ++ end_text)) ≡ head_text spec ++ lines_text (state_lines forms s)
pieces-are spec forms s =
    ap (λ (t : List ℕ). head_text spec ++ t) (sym (lines-text-both (first_lines s) (streams_lines 0 forms s.streams ++ EndLine ∷ []) ∙ ap (λ (t : List ℕ). times_text s ++ t) (lines-text-both (streams_lines 0 forms s.streams) (EndLine ∷ []))))

module _ (spec : List ℕ) (plan : Plan) (forms : List StreamForm) (s : SavedState) (given : forms ≡ forms_of plan) where
  state-is : head_text spec ++ (times_text s ++ (streams_text forms s ++ end_text)) ≡ state_text spec plan s
  state-is = pieces-are spec forms s ∙ ap (λ (f : List StreamForm). head_text spec ++ lines_text (state_lines f s)) given

  part-of-state : (old new : List ℕ) → AppendsPart old new (head_text spec ++ (times_text s ++ (streams_text forms s ++ end_text))) → AppendsPart old new (state_text spec plan s)
  part-of-state old new a = subst (λ (t : List ℕ). AppendsPart old new t) state-is a

  pub head-cut : (old new : List ℕ) → AppendsPart old new (head_text spec) → AppendsPart old new (state_text spec plan s)
  head-cut old new a = part-of-state old new (in_first old new (head_text spec) (times_text s ++ (streams_text forms s ++ end_text)) a)

  module _ (old behind_head : List ℕ) (head : behind_head ≡ old ++ head_text spec) where
    behind-head : (new : List ℕ) → AppendsPart behind_head new (times_text s ++ (streams_text forms s ++ end_text)) → AppendsPart old new (state_text spec plan s)
    behind-head new a = part-of-state old new (in_second old behind_head new (head_text spec) (times_text s ++ (streams_text forms s ++ end_text)) head a)

    pub times-cut : (new : List ℕ) → AppendsPart behind_head new (times_text s) → AppendsPart old new (state_text spec plan s)
    times-cut new a = behind-head new (in_first behind_head new (times_text s) (streams_text forms s ++ end_text) a)

    module _ (behind_times : List ℕ) (times : behind_times ≡ behind_head ++ times_text s) where
      behind-times : (new : List ℕ) → AppendsPart behind_times new (streams_text forms s ++ end_text) → AppendsPart old new (state_text spec plan s)
      behind-times new a = behind-head new (in_second behind_head behind_times new (times_text s) (streams_text forms s ++ end_text) times a)

      pub streams-cut : (new : List ℕ) → AppendsPart behind_times new (streams_text forms s) → AppendsPart old new (state_text spec plan s)
      streams-cut new a = behind-times new (in_first behind_times new (streams_text forms s) end_text a)

      pub end-cut : (behind_streams new : List ℕ) → behind_streams ≡ behind_times ++ streams_text forms s → new ≡ behind_streams → AppendsPart old new (state_text spec plan s)
      end-cut behind_streams new e same = behind-times new (in_first behind_times new (streams_text forms s) end_text (all_appended behind_times new (streams_text forms s) (same ∙ e)))

      pub all-written : (behind_streams new : List ℕ) → behind_streams ≡ behind_times ++ streams_text forms s → new ≡ behind_streams ++ end_text → new ≡ old ++ state_text spec plan s
      all-written behind_streams new e last =
          last
          ∙ ap (λ (t : List ℕ). t ++ end_text) (e ∙ ap (λ (t : List ℕ). t ++ streams_text forms s) (times ∙ ap (λ (t : List ℕ). t ++ times_text s) head))
          ∙ append_assoc ((old ++ head_text spec) ++ times_text s) (streams_text forms s) end_text
          ∙ append_assoc (old ++ head_text spec) (times_text s) (streams_text forms s ++ end_text)
          ∙ append_assoc old (head_text spec) (times_text s ++ (streams_text forms s ++ end_text))
          ∙ ap (λ (t : List ℕ). old ++ t) state-is
