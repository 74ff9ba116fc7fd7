-- Rows without a field that calls for quotes are joined by commas.
use Rattle.std.proofs.Common.{◌≡◌, ℕ, List, [], ◌∷◌, ◌++◌, false, refl, sym, ap, ◌∙◌, append_assoc, map}
use Rattle.std.specs.Fmt.{decimal}
use Rattle.std.proofs.lemmas.Bool.{or_parts}
use Rattle.csv.specs.Writing.{default_writer, is_blank, needs_quotes}
use Rattle.csv.specs.Writing as csv
use Rattle.lola_value.specs.declared.text.Field.{Field}
use Rattle.lola_value.specs.declared.text.Field.TheVariants as field
use Rattle.lola_value.specs.Times.{time_text}
use Rattle.lola_model.specs.declared.journal.Entry.{Entry}
use Rattle.lola_model.specs.Trace.{field_bytes, mark_text, trace_line}
use Rattle.lola_report.specs.Rows.{has_quoted, is_quoted, joined_fields, joined_line}
use Rattle.lola_report.proofs.Mild.{Mild, mild_unquoted, decimal_mild, time_mild, integer_mild, bool_mild, mark_mild}

-- a field that is no text calls for none
pub no_text_unquoted : (f : Field) → ((t : List ℕ) → f ≡ field.Text t → ⊥) → is_quoted f ≡ false
no_text_unquoted field.Absent other = refl
no_text_unquoted (field.Bool b) other = mild_unquoted (field_bytes (field.Bool b)) (bool_mild b)
no_text_unquoted (field.Int z) other = mild_unquoted (field_bytes (field.Int z)) (integer_mild z)
no_text_unquoted (field.Text t) other = absurd (other t refl)

-- what calls for no quotes is written as it is
as_it_is : (t : List ℕ) → needs_quotes default_writer t ≡ false → csv.field_text default_writer t ≡ t
as_it_is t none = rw none refl

mild_as_it_is : (t : List ℕ) → Mild t → csv.field_text default_writer t ≡ t
mild_as_it_is t p = as_it_is t (mild_unquoted t p)

fields_as_they_are : (fs : List Field) → has_quoted fs ≡ false → csv.fields_text default_writer (map field_bytes fs) ≡ joined_fields fs
unfolding csv.fields_text
fields_as_they_are [] none = refl
fields_as_they_are (f ∷ fs) none =
    let parts = or_parts (is_quoted f) (has_quoted fs) none in
    ap (λ (l : List ℕ). 44 ∷ (l ++ csv.fields_text default_writer (map field_bytes fs))) (as_it_is (field_bytes f) parts.0)
    ∙ ap (λ (l : List ℕ). 44 ∷ (field_bytes f ++ l)) (fields_as_they_are fs parts.1)

-- five texts with commas between the first four, and an end
five_joined : (a b c d e p q r s t end : List ℕ) → p ≡ a → q ≡ b → r ≡ c → s ≡ d → t ≡ e
    → (p ++ (44 ∷ (q ++ (44 ∷ (r ++ (44 ∷ (s ++ t))))))) ++ end ≡ (a ++ (44 ∷ (b ++ (44 ∷ (c ++ (44 ∷ [])))))) ++ (d ++ (e ++ end))
five_joined a b c d e p q r s t end i j k l m = rw (i, j, k, l, m) (simp append_assoc)

pub joined_is : (e : Entry) → has_quoted e.row.fields ≡ false → joined_line e ≡ trace_line e
unfolding is_blank csv.fields_text
joined_is e none =
    sym (five_joined (decimal e.row.source) (decimal e.row.number) (time_text e.row.stamp) (mark_text e.mark) (joined_fields e.row.fields) _ _ _ _ _ (10 ∷ [])
    (mild_as_it_is (decimal e.row.source) (decimal_mild e.row.source))
    (mild_as_it_is (decimal e.row.number) (decimal_mild e.row.number))
    (mild_as_it_is (time_text e.row.stamp) (time_mild e.row.stamp))
    (mild_as_it_is (mark_text e.mark) (mark_mild e.mark))
    (fields_as_they_are e.row.fields none))
