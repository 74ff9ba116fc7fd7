-- A value that is shown has one line, and another none.
use Rattle.std.proofs.Common.{◌≡◌, refl, ℕ, List, [], ◌∷◌, Some, true, false}
use Rattle.lola_value.specs.declared.text.Field.{Field}
use Rattle.lola_value.specs.declared.text.Field.TheVariants as field
use Rattle.lola_model.specs.Texts.{output_lines, trigger_lines, value_lines}
use Rattle.lola_model.specs.declared.journal.Show.{Show}
use Rattle.lola_model.specs.declared.journal.Show.TheVariants.{Triggers, Outputs}
use Rattle.lola_model.specs.declared.spec.Sort.{Sort}
use Rattle.lola_model.specs.declared.spec.Sort.TheVariants as sort
use Rattle.lola_model.specs.declared.spec.Stream.{Stream}
use Rattle.lola_report.specs.Verdicts.{HasVerdict, IsShown, line_of_sort, verdict_text}
use Rattle.lola_replay.specs.Showing.{is_shown}

module _ (show : Show) (time : ℕ) (s : Stream) (p : List Field) where
  abbrev lines_by : Sort → Field → List (List ℕ)
  lines_by o v = elim o [ sort.Input ↦ [] | sort.Output ↦ output_lines show time s p v | sort.Trigger ↦ trigger_lines time s v ]

  shown-by : (o : Sort) (v : Field) → is_shown show o v ≡ true → IsShown o v × (lines_by o v ≡ line_of_sort o time s p v ∷ [])
  shown-by sort.Input v e = absurd (cc e)
  shown-by sort.Output v e = (tt, go show e)
    where
      go : (h : Show) → is_shown h sort.Output v ≡ true → output_lines h time s p v ≡ line_of_sort sort.Output time s p v ∷ []
      go Triggers e = absurd (cc e)
      go Outputs e = refl
  shown-by sort.Trigger (field.Bool true) e = (refl, refl)
  shown-by sort.Trigger (field.Bool false) e = absurd (cc e)
  shown-by sort.Trigger (field.Int z) e = absurd (cc e)
  shown-by sort.Trigger (field.Text t) e = absurd (cc e)
  shown-by sort.Trigger field.Absent e = absurd (cc e)

  hidden-by : (o : Sort) (v : Field) → is_shown show o v ≡ false → lines_by o v ≡ []
  hidden-by sort.Input v e = refl
  hidden-by sort.Output v e = go show e
    where
      go : (h : Show) → is_shown h sort.Output v ≡ false → output_lines h time s p v ≡ []
      go Triggers e = refl
      go Outputs e = absurd (cc e)
  hidden-by sort.Trigger (field.Bool true) e = absurd (cc e)
  hidden-by sort.Trigger (field.Bool false) e = refl
  hidden-by sort.Trigger (field.Int z) e = refl
  hidden-by sort.Trigger (field.Text t) e = refl
  hidden-by sort.Trigger field.Absent e = refl

  pub shown-lines : (v : Field) → is_shown show s.sort v ≡ true → HasVerdict (Some s) v × (value_lines show time s p v ≡ verdict_text (Some s) time p v ∷ [])
  shown-lines v e = shown-by s.sort v e

  pub hidden-lines : (v : Field) → is_shown show s.sort v ≡ false → value_lines show time s p v ≡ []
  hidden-lines v e = hidden-by s.sort v e
